use Rattle.std.proofs.Common.{◌≡◌, false}
use Rattle.live_stations.proofs.heard_lines.HeardLinesKeyboard.next_line.Given as goal

abbrev pub invariant-loop : goal.invariant-loop
invariant-loop g l = record { items : l.self.items ≡ l.initial.self.items; unended : l.self.ended ≡ false }
