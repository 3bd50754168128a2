use Rattle.std.proofs.Common.{length, ◌+◌, ◌≤◌}
use Rattle.office_run.proofs.RunLaws.{IsUpTo}
use Rattle.office_run.proofs.worker.run_lines.Given as goal

abbrev pub invariant-loop-text : goal.invariant-loop-text
invariant-loop-text g l = record {
  up_to : IsUpTo l.cursor l.fn.session.seat l.script l.session;
  count : l.number + length l.cursor ≤ length l.script;
}

abbrev pub decreases-loop-text : goal.decreases-loop-text
decreases-loop-text g l = length l.cursor
