use Rattle.std.proofs.Common.{map, sym, ap, ◌∙◌}
use Rattle.ndx_index.specs.declared.pair.Pair.{Pair}
use Rattle.ndx_index.specs.Slots.{Slots}
use Rattle.ndx_index.proofs.RunLaws.{numbers_of_pairs}
use Rattle.ndx_index.proofs.pages.slots.PairSlots.into_numbers.Goals as goal

pub returns : goal.returns
returns c =
    let inside = c.self.inside in
    record { numbers = sym (numbers_of_pairs inside.key_len inside.keys.items inside.numbers.items) ∙ ap (λ (s : Slots). map (λ (p : Pair). p.number) s.pairs) c.self.view_is }
