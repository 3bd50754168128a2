use Rattle.std.proofs.Common.{◌≡◌, ◌++◌, take}
use Rattle.station_lines.specs.CommandLines.{after_commas}
use Rattle.station_lines.proofs.command_lines.value.append_after_commas.Given as goal

abbrev pub invariant-loop-number : goal.invariant-loop-number
invariant-loop-number l = l.line.items ≡ l.fn.line.items ++ after_commas (take l.number-index l.numbers)
