use Rattle.std.proofs.Common.{◌≡◌, ◌+◌, ◌<◌, ◌≤◌, ⊎_elim, subst, arith, rules}
use Rattle.std.proofs.lemmas.Bool.{cases_lt}
use Rattle.shared_catalogue.specs.Seats.{HasSeat}
use Rattle.shared_catalogue.proofs.settle.first_missing.Goals as goal

pub loop-index-preserved : goal.loop-index-preserved
loop-index-preserved g c =
    let k = c.loop-index.index in
    let zs = c.args.seats.now in
    let here : HasSeat zs (k + 1) = search rules in
    λ s low high. ⊎_elim (λ (l : s < k + 1). c.loop-index.invariant s low (omega arith)) (λ (h : k + 1 ≤ s). let same : k + 1 ≡ s = omega arith in subst (HasSeat zs) same here) (cases_lt s (k + 1))
