use Rattle.std.proofs.Common.{◌∙◌, arith}
use Rattle.ndx_index.proofs.PageLaws.{is_there, page_slots}
use Rattle.ndx_index.proofs.pages.pair_pages.PairPages.part.Goals as goal

pub part-requires : goal.part-requires
part-requires c = record { inside = omega (arith, (is_there c.self.view_is c.self.invariant c.requires.page).slots) }

pub returns-clause-pairs : goal.returns-clause-pairs
returns-clause-pairs c = c.part.ensures.pairs ∙ rw (c.slots_of.ensures.start, c.count.ensures.count) (page_slots (is_there c.self.view_is c.self.invariant c.requires.page))
