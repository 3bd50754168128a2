use Rattle.std.specs.Io.KnownBytes.{Appends}
use Rattle.live_program.specs.Greetings.{last_lines}
use Rattle.live_program.proofs.greeting.tell_stations.Given as goal

abbrev pub invariant-loop-done : goal.invariant-loop-done
invariant-loop-done g l = Appends (g.W.Write.contents l.fn.out) (g.W.Write.contents l.out) (last_lines l.done l.catalogue.journal)
