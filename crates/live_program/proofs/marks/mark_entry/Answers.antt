use Rattle.live_program.proofs.MarksLaws.{table_refused, table_such}
use Rattle.live_program.specs.Marks.{IsMarked}
use Rattle.live_program.proofs.marks.mark_entry.Goals as goal

pub returns-in-Some-clause-put : goal.returns-in-Some-clause-put
returns-in-Some-clause-put g c =
    let beside = c.args.others.now.beside.now in
    table_such (IsMarked g.Y.Disk.Disk.meaning (g.Y.Beside.answers beside) (g.Y.Beside.lies beside) (g.Y.Places.opens beside) c.args.others.now.out.now c.args.marks.now.log) c.mark_beside_file-in-Some.result c.args.entry.now
    _ _ _ _ c.in-Table.is c.in-Some.is (rw c.as_slice.ensures.value at c.in_ok-mark_beside_file-in-Table.ensures.put)
    (rw (c.as_slice-in-Some.ensures.value, c.mark_beside_file.ensures.log) at c.mark_beside_file-in-Some.ensures.put)

pub returns-in-Some-clause-refused : goal.returns-in-Some-clause-refused
returns-in-Some-clause-refused g c =
    table_refused c.mark_beside_file-in-Some.result c.args.entry.now _ _ _ _ c.in-Table.is c.in-Some.is (rw c.as_slice-in-Some.ensures.value at c.mark_beside_file-in-Some.ensures.refused)
