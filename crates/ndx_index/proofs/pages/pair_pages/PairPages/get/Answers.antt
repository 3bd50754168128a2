use Rattle.std.proofs.Common.{◌∙◌, arith}
use Rattle.ndx_index.proofs.PageLaws.{is_there, pair_in_page}
use Rattle.ndx_index.proofs.pages.pair_pages.PairPages.get.Goals as goal

pub get-requires : goal.get-requires
get-requires c = omega (arith, (is_there c.self.view_is c.self.invariant c.requires.page).slots)

pub returns-clause-pair : goal.returns-clause-pair
returns-clause-pair c = c.get.ensures.pair ∙ rw c.slots_of.ensures.start (pair_in_page (is_there c.self.view_is c.self.invariant c.requires.page) c.requires.place)
