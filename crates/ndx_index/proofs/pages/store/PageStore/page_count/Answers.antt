use Rattle.std.proofs.Common.{sym, ◌∙◌, arith}
use Rattle.ndx_index.proofs.TwinLaws.{store_count}
use Rattle.ndx_index.proofs.pages.store.PageStore.page_count.Goals as goal

pub returns : goal.returns
returns c = record {
  value = c.page_count.ensures.value ∙ sym (store_count c.self.view_is c.self.invariant);
  count_bounded = omega (arith, c.page_count.ensures.count_bounded, store_count c.self.view_is c.self.invariant);
}
