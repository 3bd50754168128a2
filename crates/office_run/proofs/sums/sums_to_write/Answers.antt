use Rattle.std.proofs.Common.{Err, ap, ◌∙◌}
use Rattle.office_run.proofs.LoadLaws.{err_exit}
use Rattle.office_run.proofs.WholeRunLaws.{closing_fault}
use Rattle.office_run.proofs.sums.sums_to_write.Goals as goal

pub returns-in_err-files-clause-fault : goal.returns-in_err-files-clause-fault
returns-in_err-files-clause-fault c =
    let was = c.in_err-files.was in
    err_exit _ _ c.from_residual.ensures.1
    (closing_fault c.args.today.year c.args.tables.now c.in_err-files.field-0.0 (λ e. c.plan.ensures.outside.0 (was ∙ ap Err e)) (λ n e. ((c.plan.ensures.blocks n).0 (was ∙ ap Err e)).1))
