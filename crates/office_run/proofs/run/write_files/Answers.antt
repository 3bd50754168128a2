use Rattle.std.proofs.Common.{Err, ap, sym, ◌∙◌}
use Rattle.dbf_image.specs.Image.{IsOutside}
use Rattle.office_run.specs.Closing.{first_blocked}
use Rattle.office_run.proofs.LoadLaws.{err_exit}
use Rattle.office_run.proofs.WholeRunLaws.{none_at, closing_fault}
use Rattle.office_run.proofs.run.write_files.Goals as goal

pub returns-in_err-close_files-clause-fault : goal.returns-in_err-close_files-clause-fault
returns-in_err-close_files-clause-fault g c =
    let was = c.in_err-close_files.was in
    err_exit _ _ c.from_residual.ensures.1
    (closing_fault c.args.today.year c.args.tables.now c.in_err-close_files.field-0.0 (λ e. c.close_files.ensures.outside.0 (was ∙ ap Err e)) (λ n e. ((c.close_files.ensures.blocks n).0 (was ∙ ap Err e)).1))

pub returns-clause-blocks_fit : goal.returns-clause-blocks_fit
returns-clause-blocks_fit g c =
    let tables = c.args.tables.now in
    let was = c.in_ok-close_files.was in
    let inside : IsOutside c.args.today.year → ⊥ = λ out. (let e = sym was ∙ c.close_files.ensures.outside.1 out in absurd cc) in
    none_at (first_blocked 1 tables) (λ n e. let bad = sym was ∙ (c.close_files.ensures.blocks n).1 (inside, e) in absurd cc)
