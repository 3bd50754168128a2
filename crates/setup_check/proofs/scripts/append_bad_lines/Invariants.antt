use Rattle.std.proofs.Common.{◌+◌, ◌≤◌, length}
use Rattle.setup_check.proofs.ScriptTextLaws.{Still, Telling}
use Rattle.setup_check.proofs.scripts.append_bad_lines.Given as goal

abbrev pub invariant-loop-line : goal.invariant-loop-line
invariant-loop-line l = record {
  read : Still l.script (Telling l.fn.text.items l.path l.text.items l.number) l.cursor;
  room : l.number + length l.cursor ≤ length l.script;
}

abbrev pub decreases-loop-line : goal.decreases-loop-line
decreases-loop-line l = length l.cursor
