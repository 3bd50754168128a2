use Rattle.std.proofs.Common.{refl, ◌∙◌}
use Rattle.office_run.specs.Closing.{run_files}
use Rattle.office_run.proofs.JournalFileLaws.{parts_of_run}
use Rattle.office_run.proofs.asked.write_asked.Goals as goal

pub returns-in_ok-tail-clause-wrote : goal.returns-in_ok-tail-clause-wrote
returns-in_ok-tail-clause-wrote g c =
    let text = parts_of_run c.args.read.now c.args.asked.now.reindex c.args.entries.now (run_files c.args.asked.now.today c.args.tables.now c.args.answers.now) c.in_ok-wrote.wrote.items _
    c.as_slice.result.now c.as_slice-then-asked.result.now c.in_ok-wrote.ensures.sums refl (c.as_slice.ensures.value ∙ c.in_ok-head.ensures.value)
    (c.as_slice-then-asked.ensures.value ∙ (rw c.deref.ensures.value at c.in_ok-tail.ensures.value)) in
    rw c.if-asked.true (rw text at c.write_with_journal.ensures.wrote)

pub returns-in_ok-tail-clause-bytes : goal.returns-in_ok-tail-clause-bytes
returns-in_ok-tail-clause-bytes g c =
    let text = parts_of_run c.args.read.now c.args.asked.now.reindex c.args.entries.now (run_files c.args.asked.now.today c.args.tables.now c.args.answers.now) c.in_ok-wrote.wrote.items _
    c.as_slice.result.now c.as_slice-then-asked.result.now c.in_ok-wrote.ensures.sums refl (c.as_slice.ensures.value ∙ c.in_ok-head.ensures.value)
    (c.as_slice-then-asked.ensures.value ∙ (rw c.deref.ensures.value at c.in_ok-tail.ensures.value)) in
    rw c.if-asked.true (rw text at c.write_with_journal.ensures.bytes)

pub returns-in_ok-tail-clause-readable : goal.returns-in_ok-tail-clause-readable
returns-in_ok-tail-clause-readable g c =
    let text = parts_of_run c.args.read.now c.args.asked.now.reindex c.args.entries.now (run_files c.args.asked.now.today c.args.tables.now c.args.answers.now) c.in_ok-wrote.wrote.items _
    c.as_slice.result.now c.as_slice-then-asked.result.now c.in_ok-wrote.ensures.sums refl (c.as_slice.ensures.value ∙ c.in_ok-head.ensures.value)
    (c.as_slice-then-asked.ensures.value ∙ (rw c.deref.ensures.value at c.in_ok-tail.ensures.value)) in
    λ is. rw text at c.write_with_journal.ensures.readable

pub returns-in_ok-tail-clause-whole_before_fault : goal.returns-in_ok-tail-clause-whole_before_fault
returns-in_ok-tail-clause-whole_before_fault g c =
    let text = parts_of_run c.args.read.now c.args.asked.now.reindex c.args.entries.now (run_files c.args.asked.now.today c.args.tables.now c.args.answers.now) c.in_ok-wrote.wrote.items _
    c.as_slice.result.now c.as_slice-then-asked.result.now c.in_ok-wrote.ensures.sums refl (c.as_slice.ensures.value ∙ c.in_ok-head.ensures.value)
    (c.as_slice-then-asked.ensures.value ∙ (rw c.deref.ensures.value at c.in_ok-tail.ensures.value)) in
    rw c.if-asked.true (rw text at c.write_with_journal.ensures.whole_before_fault)
