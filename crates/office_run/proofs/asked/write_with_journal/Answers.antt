use Rattle.std.proofs.Common.{ap, refl}
use Rattle.office_run.proofs.LoadLaws.{err_exit}
use Rattle.office_run.proofs.JournalFileLaws.{bytes_with_journal, with_journal_written, cut_before_journal, cut_in_journal, journal_fault, no_other_fault, unfailed_unbegun}
use Rattle.office_run.specs.JournalFile.{parts_text}
use Rattle.office_run.proofs.asked.write_with_journal.Goals as goal

pub returns-clause-wrote : goal.returns-clause-wrote
returns-clause-wrote g c = with_journal_written _ _ _ _ _ c.in_ok-write_files.ensures.wrote c.in_ok-write_journal.ensures.wrote

pub returns-clause-bytes : goal.returns-clause-bytes
returns-clause-bytes g c = bytes_with_journal _ (parts_text c.args.text.now) c.in_ok-write_files.ensures.bytes c.in_ok-write_journal.ensures.bytes

pub returns-in_err-write_files-clause-fault : goal.returns-in_err-write_files-clause-fault
returns-in_err-write_files-clause-fault g c = err_exit _ _ c.from_residual-in_err-write_files.ensures.1 c.in_err-write_files.ensures.fault

pub returns-in_err-write_files-clause-no_file_begun : goal.returns-in_err-write_files-clause-no_file_begun
returns-in_err-write_files-clause-no_file_begun g c = err_exit _ _ c.from_residual-in_err-write_files.ensures.1 (λ some unwritten. c.in_err-write_files.ensures.no_file_begun unwritten)

pub returns-in_err-write_files-clause-unfailed : goal.returns-in_err-write_files-clause-unfailed
returns-in_err-write_files-clause-unfailed g c =
    unfailed_unbegun g.F.ByteSink.failures _ _ _ _ c.from_residual-in_err-write_files.ensures.1 c.in_err-write_files.ensures.no_file_begun

pub returns-in_err-write_files-clause-whole_before_fault : goal.returns-in_err-write_files-clause-whole_before_fault
returns-in_err-write_files-clause-whole_before_fault g c =
    err_exit _ _ c.from_residual-in_err-write_files.ensures.1
    (cut_before_journal _ (parts_text c.args.text.now) _ _ _ (λ unwritten. ap g.F.ByteSink.written (c.in_err-write_files.ensures.no_file_begun unwritten)) c.in_err-write_files.ensures.whole_before_fault)

pub returns-in_err-write_journal-clause-fault : goal.returns-in_err-write_journal-clause-fault
returns-in_err-write_journal-clause-fault g c = err_exit _ _ c.from_residual-in_err-write_journal.ensures.1 (journal_fault c.args.today.year c.args.tables.now _ c.in_err-write_journal.ensures.fault)

pub returns-in_err-write_journal-clause-no_file_begun : goal.returns-in_err-write_journal-clause-no_file_begun
returns-in_err-write_journal-clause-no_file_begun g c = err_exit _ _ c.from_residual-in_err-write_journal.ensures.1 (λ some unwritten. no_other_fault _ _ c.in_err-write_journal.ensures.fault (some refl) unwritten)

pub returns-in_err-write_journal-clause-whole_before_fault : goal.returns-in_err-write_journal-clause-whole_before_fault
returns-in_err-write_journal-clause-whole_before_fault g c =
    err_exit _ _ c.from_residual-in_err-write_journal.ensures.1
    (cut_in_journal _ _ _ _ _ _ c.in_err-write_journal.ensures.fault c.in_ok-write_files.ensures.wrote c.write_journal.ensures.kept c.in_err-write_journal.ensures.front)
