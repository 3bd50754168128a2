use Rattle.std.proofs.Common.{sym, ap, ◌∙◌}
use Rattle.ndx_index.specs.PageStore.{page_in}
use Rattle.ndx_index.specs.Slots.{slot_at}
use Rattle.ndx_index.proofs.pages.store.PageStore.place_after.Goals as goal

pub returns-clause-below : goal.returns-clause-below
returns-clause-below c k lt = sym (ap (λ test. test (slot_at (page_in c.args.self.now.pages c.args.page).pairs k)) c.above.ensures.test) ∙ c.place.ensures.below k lt

pub returns-clause-above : goal.returns-clause-above
returns-clause-above c k le lt = sym (ap (λ test. test (slot_at (page_in c.args.self.now.pages c.args.page).pairs k)) c.above.ensures.test) ∙ c.place.ensures.above k le lt
