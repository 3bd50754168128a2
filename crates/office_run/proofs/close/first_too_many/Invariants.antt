use Rattle.std.proofs.Common.{◌≡◌, ◌+◌, drop}
use Rattle.office_run.specs.Closing.{first_blocked}
use Rattle.office_run.proofs.close.first_too_many.Given as goal

abbrev pub invariant-loop-closed : goal.invariant-loop-closed
invariant-loop-closed l = record {
  counted : l.number ≡ l.closed-index;
  left : first_blocked (l.number + 1) (drop l.closed-index l.tables) ≡ first_blocked 1 l.tables;
}
