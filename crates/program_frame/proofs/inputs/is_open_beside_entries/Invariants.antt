use Rattle.program_frame.proofs.InputDays.{AreClosedBefore}
use Rattle.program_frame.proofs.inputs.is_open_beside_entries.Given as goal

abbrev pub invariant-loop-entry : goal.invariant-loop-entry
invariant-loop-entry g l = AreClosedBefore (g.Y.Beside.answers l.system) l.entries l.entry-index
