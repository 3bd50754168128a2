use Rattle.std.proofs.Common.{length}
use Rattle.audit.proofs.AuditLaws.{HasAudited}
use Rattle.audit.proofs.performing.audit.Given as goal

abbrev pub invariant-loop-rest : goal.invariant-loop-rest
invariant-loop-rest l = HasAudited l.fn.catalogue.opened l.fn.text l.catalogue l.rest

abbrev pub decreases-loop-rest : goal.decreases-loop-rest
decreases-loop-rest l = length l.rest
