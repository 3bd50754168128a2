use Rattle.std.proofs.Common.{◌≡◌, take}
use Rattle.live_program.specs.Closings.{answers_in}
use Rattle.live_program.proofs.answers.answers_of.Given as goal

abbrev pub invariant-loop-entry : goal.invariant-loop-entry
invariant-loop-entry l = l.text.items ≡ answers_in l.station (take l.entry-index l.journal)
