use Rattle.std.proofs.Common.{sym, ◌∙◌}
use Rattle.ndx_index.proofs.RunLaws.{count_is}
use Rattle.ndx_index.proofs.pages.slots.PairSlots.len.Goals as goal

pub returns : goal.returns
returns c = record { count = c.len.ensures ∙ c.self.inside.numbers.ok.0 ∙ sym (count_is c.self.inside c.args.self.now c.self.view_is) }
