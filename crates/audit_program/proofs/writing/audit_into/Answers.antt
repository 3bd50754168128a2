use Rattle.std.proofs.Common.{refl, ap}
use Rattle.audit_program.specs.declared.failure.AuditFailure.TheVariants.{Serve}
use Rattle.audit_program.specs.Program.{IsFailedBy}
use Rattle.audit_program.proofs.ProgramLaws.{err_exit}
use Rattle.audit_program.proofs.WritingLaws.{written_by, unwritten_audit, unwritten_tables, no_close, loaded_tables, uncut_audit, cut_audit}
use Rattle.audit_program.proofs.writing.audit_into.Goals as goal

-- the names of the files differ
pub returns-clause-wrote : goal.returns-clause-wrote
returns-clause-wrote g c =
    written_by (g.S.Source.files c.args.source.now) c.args.options.now c.args.today _ _ _ _ _ refl refl refl c.in_ok-catalogue.ensures.audited c.in_ok-audited.ensures.wrote

pub returns-in_err-catalogue-clause-fault : goal.returns-in_err-catalogue-clause-fault
returns-in_err-catalogue-clause-fault g c = err_exit _ _ c.from_residual.ensures.1 (unwritten_audit _ _ _ c.in_err-catalogue.field-0.0 c.in_err-catalogue.ensures.fault)

pub returns-in_err-catalogue-clause-no_file_begun : goal.returns-in_err-catalogue-clause-no_file_begun
returns-in_err-catalogue-clause-no_file_begun g c = err_exit _ _ c.from_residual.ensures.1 (λ _. refl)

pub returns-in_err-catalogue-clause-failed : goal.returns-in_err-catalogue-clause-failed
returns-in_err-catalogue-clause-failed g c name e =
    absurd (no_close (g.S.Source.files c.args.source.now) c.args.options.now _ name (err_exit _ (IsFailedBy (g.S.Source.files c.args.source.now) c.args.options.now) c.from_residual.ensures.1 c.in_err-catalogue.ensures.fault) e)

pub returns-in_err-audited-clause-fault : goal.returns-in_err-audited-clause-fault
returns-in_err-audited-clause-fault g c =
    err_exit _ _ c.from_residual-in_err-audited.ensures.1 (unwritten_tables _ _ _ _ _ c.in_err-audited.field-0.0 c.in_ok-catalogue.ensures.audited c.in_err-audited.ensures.fault)

pub returns-in_err-audited-clause-no_file_begun : goal.returns-in_err-audited-clause-no_file_begun
returns-in_err-audited-clause-no_file_begun g c =
    err_exit _ _ c.from_residual-in_err-audited.ensures.1 (λ other. c.in_err-audited.ensures.no_file_begun (λ name e. other name (ap Serve e)))

pub returns-in_err-catalogue-clause-failure : goal.returns-in_err-catalogue-clause-failure
returns-in_err-catalogue-clause-failure g c = err_exit _ _ c.from_residual.ensures.1 c.in_err-catalogue.ensures.failure

pub returns-in_err-catalogue-clause-whole_before_fault : goal.returns-in_err-catalogue-clause-whole_before_fault
returns-in_err-catalogue-clause-whole_before_fault g c = err_exit _ _ c.from_residual.ensures.1 (uncut_audit _ _ c.args.today _ _ c.in_err-catalogue.field-0.0 c.in_err-catalogue.ensures.fault)

pub returns-in_err-audited-clause-failure : goal.returns-in_err-audited-clause-failure
returns-in_err-audited-clause-failure g c =
    err_exit _ _ c.from_residual-in_err-audited.ensures.1 (loaded_tables _ _ c.args.today.year _ _ _ _ c.in_err-audited.field-0.0 c.in_ok-catalogue.ensures.audited c.in_ok-catalogue.ensures.loads c.in_err-audited.ensures.fault)

pub returns-in_err-audited-clause-whole_before_fault : goal.returns-in_err-audited-clause-whole_before_fault
returns-in_err-audited-clause-whole_before_fault g c =
    err_exit _ _ c.from_residual-in_err-audited.ensures.1
    (cut_audit _ _ c.args.today _ _ _ _ c.in_err-audited.field-0.0 c.in_ok-catalogue.ensures.audited c.in_err-audited.ensures.whole_before_fault)
