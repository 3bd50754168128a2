use Rattle.std.proofs.Common.{ap, ◌∙◌, arith}
use Rattle.ndx_index.specs.declared.pair.Pair.{Pair}
use Rattle.ndx_index.proofs.PageLaws.{is_there, pair_in_page}
use Rattle.ndx_index.proofs.pages.pair_pages.PairPages.number.Goals as goal

pub number-requires : goal.number-requires
number-requires c = omega (arith, (is_there c.self.view_is c.self.invariant c.requires.page).slots)

pub returns : goal.returns
returns c = record { number = c.number.ensures.number ∙ rw c.slots_of.ensures.start (ap (λ (q : Pair). q.number) (pair_in_page (is_there c.self.view_is c.self.invariant c.requires.page) c.requires.place)) }
