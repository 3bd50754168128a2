use Rattle.std.proofs.Common.{◌≡◌, ℕ, List, drop, ap, sym, below_more, ◌∙◌}
use Rattle.ndx_index.specs.Slots.{slot_at}
use Rattle.ndx_index.proofs.Alike.{rest_is}
use Rattle.ndx_index.proofs.pair_list.alike.end_alike.Goals as goal

pub loop-at-preserved : goal.loop-at-preserved
loop-at-preserved c =
    let ps = c.args.pairs.now.pairs in
    let start : ℕ = c.min-start.result in
    let first : List ℕ = c.key-first.result.now in
    let key : List ℕ = c.key-key.result.now in
    let same : drop start key ≡ drop start first = sym (rest_is start key) ∙ c.is_same.ensures.value.0 c.if-not-is_same.false ∙ rest_is start first in
    let here : drop start (slot_at ps c.loop-at.at).key ≡ drop start (slot_at ps 0).key =
    sym (ap (drop start) c.key-key.ensures.key) ∙ same ∙ ap (drop start) c.key-first.ensures.key in
    let P : ℕ → Type 0 = λ k. drop start (slot_at ps k).key ≡ drop start (slot_at ps 0).key in
    record { alike = below_more P c.loop-at.at c.loop-at.invariant.alike here }
