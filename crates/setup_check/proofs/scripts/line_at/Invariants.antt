use Rattle.std.proofs.Common.{length}
use Rattle.setup_check.proofs.ScriptTextLaws.{Still, Going}
use Rattle.setup_check.proofs.scripts.line_at.Given as goal

abbrev pub invariant-loop-line : goal.invariant-loop-line
invariant-loop-line l = Still l.script (Going l.number l.left) l.cursor

abbrev pub decreases-loop-line : goal.decreases-loop-line
decreases-loop-line l = length l.cursor
