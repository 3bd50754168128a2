use Rattle.std.proofs.Common.{sym, ◌∙◌}
use Rattle.ndx_index.proofs.TwinLaws.{is_twin}
use Rattle.ndx_index.proofs.pages.store.PageStore.link_count.Goals as goal

pub count-requires : goal.count-requires
count-requires c = record { page = (is_twin c.self.view_is c.self.invariant c.requires.page).links_index }

pub returns-clause-count : goal.returns-clause-count
returns-clause-count c = c.count.ensures.count ∙ sym (is_twin c.self.view_is c.self.invariant c.requires.page).link_count
