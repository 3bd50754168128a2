use Rattle.office_run.proofs.LoadLaws.{err_exit}
use Rattle.office_run.proofs.WholeRunLaws.{of_writing, is_whole_run}
use Rattle.office_run.proofs.NotedLaws.{all_had}
use Rattle.office_run.proofs.ServedLaws.{cut_run, served}
use Rattle.office_run.proofs.asked.serve_asked.Goals as goal

pub returns-clause-ran : goal.returns-clause-ran
returns-clause-ran g c =
    let whole = is_whole_run _ _ _ _ _ _ _ _ c.in_ok-loaded.ensures.read c.in_ok-outcome.ensures.ran c.in_ok-counts.ensures.legal c.in_ok-counts.ensures.of_stations c.in_ok-counts.ensures.count_bounded c.in_ok-tables.ensures.tables c.in_ok-counts.ensures.all in
    served _ c.args.asked.now _ _ _ _ _ _ _ whole
    (λ is. all_had _ _ _ _ c.into_sums-read.result.items (c.asked_sums-sums.ensures.none_yet is) c.in_ok-loaded.ensures.noted c.into_sums-read.ensures.sums)
    c.in_ok-tables.ensures.entries c.in_ok-counts.ensures.refused (rw c.deref.ensures.value at c.in_ok-write_asked.ensures.blocks_fit)
    (rw (c.deref.ensures.value, c.deref-2.ensures.value, c.deref-3.ensures.value, c.deref-4.ensures.value) at c.in_ok-write_asked.ensures.one_journal)
    (rw (c.deref.ensures.value, c.deref-2.ensures.value, c.deref-3.ensures.value, c.deref-4.ensures.value) at c.in_ok-write_asked.ensures.readable)
    (rw (c.deref.ensures.value, c.deref-2.ensures.value, c.deref-3.ensures.value, c.deref-4.ensures.value) at c.in_ok-write_asked.ensures.wrote)
    (rw (c.deref.ensures.value, c.deref-2.ensures.value, c.deref-3.ensures.value, c.deref-4.ensures.value) at c.in_ok-write_asked.ensures.bytes)

pub returns-in_err-write_asked-clause-fault : goal.returns-in_err-write_asked-clause-fault
returns-in_err-write_asked-clause-fault g c =
    let whole = is_whole_run _ _ _ _ _ _ _ _ c.in_ok-loaded.ensures.read c.in_ok-outcome.ensures.ran c.in_ok-counts.ensures.legal c.in_ok-counts.ensures.of_stations c.in_ok-counts.ensures.count_bounded c.in_ok-tables.ensures.tables c.in_ok-counts.ensures.all in
    err_exit _ _ c.from_residual-in_err-write_asked.ensures.1 (of_writing _ _ _ _ _ _ _ _ whole (rw c.deref.ensures.value at c.in_err-write_asked.ensures.fault))

pub returns-in_err-write_asked-clause-no_file_begun : goal.returns-in_err-write_asked-clause-no_file_begun
returns-in_err-write_asked-clause-no_file_begun g c = err_exit _ _ c.from_residual-in_err-write_asked.ensures.1 c.in_err-write_asked.ensures.no_file_begun

pub returns-in_err-write_asked-clause-whole_before_fault : goal.returns-in_err-write_asked-clause-whole_before_fault
returns-in_err-write_asked-clause-whole_before_fault g c =
    let whole = is_whole_run _ _ _ _ _ _ _ _ c.in_ok-loaded.ensures.read c.in_ok-outcome.ensures.ran c.in_ok-counts.ensures.legal c.in_ok-counts.ensures.of_stations c.in_ok-counts.ensures.count_bounded c.in_ok-tables.ensures.tables c.in_ok-counts.ensures.all in
    err_exit _ _ c.from_residual-in_err-write_asked.ensures.1
    (cut_run _ c.args.asked.now _ _ _ _ _ _ _ whole
    (λ is. all_had _ _ _ _ c.into_sums-read.result.items (c.asked_sums-sums.ensures.none_yet is) c.in_ok-loaded.ensures.noted c.into_sums-read.ensures.sums)
    c.in_ok-tables.ensures.entries _
    (rw (c.deref.ensures.value, c.deref-2.ensures.value, c.deref-3.ensures.value, c.deref-4.ensures.value) at c.in_err-write_asked.ensures.whole_before_fault))
