use Rattle.std.proofs.Common.{◌∙◌, ap, sym, arith}
use Rattle.ndx_index.specs.PairPages.{Pages}
use Rattle.ndx_index.proofs.PageLaws.{pages_count}
use Rattle.ndx_index.proofs.pages.pair_pages.PairPages.page_count.Goals as goal

pub returns-clause-value : goal.returns-clause-value
returns-clause-value c = c.len.ensures ∙ c.self.inside.counts.ok.0 ∙ sym (pages_count c.self.inside c.self.view_is)

pub returns-clause-count_bounded : goal.returns-clause-count_bounded
returns-clause-count_bounded c = omega (arith, c.self.invariant.count_bounded, pages_count c.self.inside c.self.view_is, ap (λ (s : Pages). s.spare) c.self.view_is)
