use Rattle.catalogue_core.proofs.ReplayLaws.{kept_indexes}
use Rattle.catalogue_core.proofs.catalogue.Catalogue.into_parts.Goals as goal

pub returns-clause-indexes : goal.returns-clause-indexes
returns-clause-indexes c = kept_indexes c.self.invariant c.self.view_is
