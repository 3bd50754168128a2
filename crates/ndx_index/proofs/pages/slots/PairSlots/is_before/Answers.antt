use Rattle.std.proofs.Common.{◌≡◌, Bool, true, false, not, refl, ap, ◌∙◌}
use Rattle.ndx_index.specs.declared.pair.Pair.{Pair}
use Rattle.ndx_index.specs.Order.{before}
use Rattle.ndx_index.specs.Slots.{slot_at}
use Rattle.ndx_index.proofs.pages.slots.PairSlots.is_before.Goals as goal

not_not : (b : Bool) → not (not b) ≡ b
not_not true = refl
not_not false = refl

pub returns : goal.returns
returns c =
    let ps = c.args.self.now.pairs in
    let q : Pair = record { key = c.key.result.now; number = c.from.result } in
    let is : q ≡ slot_at ps c.args.other = λ i. record { key = c.key.ensures.bytes i; number = (c.from.ensures ∙ c.number.ensures.number) i } in
    record { value = ap not c.passes.ensures.value ∙ not_not (before (slot_at ps c.args.at) q) ∙ ap (before (slot_at ps c.args.at)) is }
