use Rattle.std.proofs.Common.{◌≡◌, List, sym, subst}
use Rattle.std.specs.Prelude.{Result, Ok, Err, IfErr, IsErrAnd}
use Rattle.folders.specs.declared.named.NamedFile.{NamedFile}
use Rattle.table_maker.specs.LoadedTable.{AreLoadedFiles}
use Rattle.table_maker.specs.Making.{files_of_table}
use Rattle.table_maker.proofs.LoadLaws.{failure_why, listed_as, write_failure}
use Rattle.table_maker.proofs.load_job.LoadJobWork.work.Goals as goal

err_exit : {T E : Type 0} {fault : E} (r : Result T E) (P : E → Type 0) → IsErrAnd r (λ e. e ≡ fault) → P fault → IfErr r P
err_exit (Ok x) P is h = tt
err_exit (Err e) P is h = subst P (sym is) h

pub returns-in_err-table-clause-fault : goal.returns-in_err-table-clause-fault
returns-in_err-table-clause-fault g c = err_exit _ _ c.from_residual.ensures.1 (failure_why _ _ _ _ c.in_err-table.field-0.0 c.in_err-table.ensures.fault)

pub returns-in_err-table-clause-failure : goal.returns-in_err-table-clause-failure
returns-in_err-table-clause-failure g c = err_exit _ _ c.from_residual.ensures.1 c.in_err-table.ensures.fault

pub returns-in_err-write_files-clause-fault : goal.returns-in_err-write_files-clause-fault
returns-in_err-write_files-clause-fault g c =
    err_exit _ _ c.from_residual-in_err-write_files.ensures.1
    (failure_why (g.S.Source.files c.args.source.now) (g.S.Source.failures c.args.source.now) (g.S.Source.failures c.new_table.new.source) c.args.self.now _
    (write_failure _ _ _ c.args.self.now _ c.in_ok-table.ensures.readable c.in_ok-table.ensures.no_failure))

pub returns-in_err-write_files-clause-failure : goal.returns-in_err-write_files-clause-failure
returns-in_err-write_files-clause-failure g c =
    err_exit _ _ c.from_residual-in_err-write_files.ensures.1 (write_failure _ _ _ c.args.self.now _ c.in_ok-table.ensures.readable c.in_ok-table.ensures.no_failure)

pub returns-clause-done : goal.returns-clause-done
returns-clause-done g c =
    listed_as (λ (made : List NamedFile). made ≡ files_of_table c.args.self.now.stem.now c.args.self.now.in_capitals c.args.self.now.today c.in_ok-table.table)
    (AreLoadedFiles (g.S.Source.files c.args.source.now) c.args.self.now) _ _
    (λ files is. (_, c.in_ok-table.ensures.table, is))
    c.in_ok-write_files.ensures.written
