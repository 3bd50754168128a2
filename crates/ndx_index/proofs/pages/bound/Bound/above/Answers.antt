use Rattle.std.proofs.Common.{◌+◌, ℕ, Bool, List, not, ap, ◌∙◌}
use Rattle.ndx_index.specs.declared.pair.Pair.{Pair}
use Rattle.ndx_index.specs.Order.{before}
use Rattle.ndx_index.proofs.BoundLaws.{from_next}
use Rattle.ndx_index.proofs.pages.bound.Bound.above.Goals as goal

pub returns : goal.returns
returns c =
    let p = c.args.pair.now in
    let test : List ℕ → Pair → Bool = λ key q. not (before q (record { key = key; number = p.number + 1 })) in
    record { test = rw c.from.ensures (ap test c.as_bytes.ensures.bytes ∙ from_next p) }
