use Rattle.std.proofs.Common.{refl}
use Rattle.office_run.proofs.LoadLaws.{err_exit}
use Rattle.office_run.proofs.WritingLaws.{tables_written, tables_fault, cut_tables}
use Rattle.office_run.proofs.writing.put_tables.Goals as goal

pub returns-clause-wrote : goal.returns-clause-wrote
returns-clause-wrote g c = (
  _,
  tables_written _ c.args.today _ _ _ _ c.in_ok-tables.ensures.value (rw c.deref.ensures.value at c.in_ok-write_files.ensures.blocks_fit)
      (rw (c.deref.ensures.value, c.deref-2.ensures.value, c.new-answers.ensures.items) at c.in_ok-write_files.ensures.wrote)
      (rw (c.deref.ensures.value, c.deref-2.ensures.value, c.new-answers.ensures.items) at c.in_ok-write_files.ensures.bytes) refl,
)

pub returns-in_err-write_files-clause-fault : goal.returns-in_err-write_files-clause-fault
returns-in_err-write_files-clause-fault g c =
    err_exit _ _ c.from_residual-in_err-write_files.ensures.1 (tables_fault _ _ _ _ c.in_ok-tables.ensures.value (rw c.deref.ensures.value at c.in_err-write_files.ensures.fault))

pub returns-in_err-write_files-clause-no_file_begun : goal.returns-in_err-write_files-clause-no_file_begun
returns-in_err-write_files-clause-no_file_begun g c = err_exit _ _ c.from_residual-in_err-write_files.ensures.1 c.in_err-write_files.ensures.no_file_begun

pub returns-in_err-write_files-clause-whole_before_fault : goal.returns-in_err-write_files-clause-whole_before_fault
returns-in_err-write_files-clause-whole_before_fault g c =
    err_exit _ _ c.from_residual-in_err-write_files.ensures.1
    (cut_tables _ c.args.today _ _ _ _ c.in_ok-tables.ensures.value (rw (c.deref.ensures.value, c.deref-2.ensures.value, c.new-answers.ensures.items) at c.in_err-write_files.ensures.whole_before_fault))
