use Rattle.audit.proofs.FirstOtherLaws.{names_it, never_all}
use Rattle.audit.proofs.law.names_the_first_other.Goals as goal

pub returns-clause-names : goal.returns-clause-names
returns-clause-names c = names_it

pub returns-clause-fails : goal.returns-clause-fails
returns-clause-fails c = never_all
