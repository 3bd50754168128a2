use Rattle.audit_program.proofs.FirstOther.{names_first, never_passes}
use Rattle.audit_program.proofs.law.first_other_is_named.Goals as goal

pub returns-clause-names : goal.returns-clause-names
returns-clause-names c files options opened entries d tables has can other why failed = names_first files options opened entries d tables has can other why failed

pub returns-clause-never_passes : goal.returns-clause-never_passes
returns-clause-never_passes c files options opened entries d tables has can other h audited is = never_passes files options opened entries d tables has can other h audited is
