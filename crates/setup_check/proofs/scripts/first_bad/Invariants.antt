use Rattle.std.proofs.Common.{◌+◌, ◌≤◌, length}
use Rattle.setup_check.proofs.ScriptTextLaws.{Still, Seeking}
use Rattle.setup_check.proofs.scripts.first_bad.Given as goal

abbrev pub invariant-loop-line : goal.invariant-loop-line
invariant-loop-line l = record {
  read : Still l.script (Seeking l.number) l.cursor;
  room : l.number + length l.cursor ≤ length l.script;
}

abbrev pub decreases-loop-line : goal.decreases-loop-line
decreases-loop-line l = length l.cursor
