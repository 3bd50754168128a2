use Rattle.audit_program.specs.Program.{IsFailedBy}
use Rattle.audit_program.specs.Writing.{IsUnwritten}
use Rattle.audit_program.proofs.AskingLaws.{written_refusal}
use Rattle.audit_program.proofs.WritingLaws.{unwritten_audit}
use Rattle.audit_program.proofs.job.AuditJobJob.refuse_open_day.Goals as goal

pub returns-clause-refused : goal.returns-clause-refused
returns-clause-refused g c =
    written_refusal (g.B.Beside.answers c.args.system.now) (IsFailedBy (g.S.Source.files c.args.source.now) c.args.self.now.options)
    (IsUnwritten (g.S.Source.files c.args.source.now) c.args.self.now.options c.args.self.now.today.year) _ c.refuse_open_run.result
    (λ fault failed. unwritten_audit _ _ _ fault failed) c.refuse_open_run.ensures.refused
