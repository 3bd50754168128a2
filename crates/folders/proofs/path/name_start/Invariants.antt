use Rattle.std.proofs.Common.{◌≡◌, ◌≤◌, length}
use Rattle.folders.specs.Paths.{through_last_slash, name_start}
use Rattle.folders.proofs.path.name_start.Given as goal

abbrev pub invariant-loop-start : goal.invariant-loop-start
invariant-loop-start l = (through_last_slash l.path l.start ≡ name_start l.path) × (l.start ≤ length l.path)

abbrev pub decreases-loop-start : goal.decreases-loop-start
decreases-loop-start l = l.start
