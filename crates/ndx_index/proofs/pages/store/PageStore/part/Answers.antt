use Rattle.std.proofs.Common.{sym, ◌∙◌}
use Rattle.ndx_index.proofs.TwinLaws.{is_twin}
use Rattle.ndx_index.proofs.pages.store.PageStore.part.Goals as goal

pub part-requires : goal.part-requires
part-requires c = record { page = (is_twin c.self.view_is c.self.invariant c.requires.page).pairs_index }

pub returns-clause-pairs : goal.returns-clause-pairs
returns-clause-pairs c = c.part.ensures.pairs ∙ sym (is_twin c.self.view_is c.self.invariant c.requires.page).pairs
