use Rattle.std.proofs.Common.{take}
use Rattle.std.specs.Io.KnownBytes.{Appends}
use Rattle.server_program.specs.Endings.{refused_parts}
use Rattle.server_program.proofs.served.print_stations.Given as goal

abbrev pub invariant-loop-index : goal.invariant-loop-index
invariant-loop-index g l = Appends (g.W.Write.contents l.initial.err) (g.W.Write.contents l.err) (refused_parts 1 (take l.index l.refused))
