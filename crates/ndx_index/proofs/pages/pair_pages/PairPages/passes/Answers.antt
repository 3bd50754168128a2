use Rattle.std.proofs.Common.{ap, ◌∙◌, arith}
use Rattle.ndx_index.specs.Bounds.{passes}
use Rattle.ndx_index.proofs.PageLaws.{is_there, pair_in_page}
use Rattle.ndx_index.proofs.pages.pair_pages.PairPages.passes.Goals as goal

pub passes-requires : goal.passes-requires
passes-requires c = omega (arith, (is_there c.self.view_is c.self.invariant c.requires.page).slots)

pub returns : goal.returns
returns c = record { value = c.passes.ensures.value ∙ rw c.slots_of.ensures.start (ap (passes c.args.bound.now) (pair_in_page (is_there c.self.view_is c.self.invariant c.requires.page) c.requires.place)) }
