use Rattle.std.proofs.Common.{subst}
use Rattle.ndx_index.specs.Index.{HaveLength}
use Rattle.ndx_index.specs.Slots.{Slots}
use Rattle.ndx_index.proofs.RunLaws.{pairs_long}
use Rattle.ndx_index.proofs.pages.slots.PairSlots.key_len.Goals as goal

pub returns-clause-keys : goal.returns-clause-keys
returns-clause-keys c =
    let inside = c.self.inside in
    subst (λ (s : Slots). HaveLength s.key_len s.pairs) c.self.view_is (pairs_long inside.key_len inside.keys.items inside.numbers.items c.self.invariant.fit)
