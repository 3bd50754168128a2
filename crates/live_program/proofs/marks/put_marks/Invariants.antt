use Rattle.std.proofs.Common.{◌≡◌}
use Rattle.live_program.specs.Marks.{AreMarkedAmong}
use Rattle.live_program.proofs.MarksLaws.{AreSuchBefore, IsDone, IsEntryDone}
use Rattle.live_program.proofs.marks.put_marks.Given as goal

abbrev pub invariant-loop-entry : goal.invariant-loop-entry
invariant-loop-entry g l =
    let files = g.S.Source.files in
    let m = g.Y.Disk.Disk.meaning in
    let answers = g.Y.Beside.answers l.places in
    let lies = g.Y.Beside.lies l.places in
    let opens = g.Y.Places.opens l.places in
    let out = l.options.out.now in
    record {
      among : AreMarkedAmong m answers lies opens out l.marks.log l.marks.folders.items;
      named : g.Y.Places.names_log l.places out l.marks.log;
      own : IsDone m answers lies opens out l.marks.log l.options.setup.now;
      before : AreSuchBefore (IsEntryDone m answers lies opens out l.marks.log) l.entry-items l.entry-index;
      kept : files l.source ≡ files l.fn.source;
    }
