use Rattle.std.proofs.Common.{◌+◌, ◌≤◌, length}
use Rattle.setup_check.proofs.ScriptTextLaws.{Still, Counting}
use Rattle.setup_check.proofs.scripts.counts_of.Given as goal

abbrev pub invariant-loop-line : goal.invariant-loop-line
invariant-loop-line l = record {
  read : Still l.script (Counting l.number l.bad) l.cursor;
  room : l.number + length l.cursor ≤ length l.script;
  few : l.bad ≤ l.number;
}

abbrev pub decreases-loop-line : goal.decreases-loop-line
decreases-loop-line l = length l.cursor
