use Rattle.std.proofs.Common.{◌+◌, ◌≤◌, [], length, arith}
use Rattle.std.specs.Fmt.{decimal}
use Rattle.station_lines.specs.AnswerLines.{line_of}
use Rattle.station_lines.specs.CommandLines.{text_of_command}
use Rattle.station_lines.specs.JournalLines.{entry_and, line_parts}
use Rattle.station_lines.proofs.BoundLaws.{entry_short}
use Rattle.station_lines.proofs.line_bounds.line_bound.Goals as goal

pub returns : goal.returns
returns c = record {
  bound = λ small.
      let command = c.command_bound.ensures.bound (omega arith) in
      let answer = c.answer_bound.ensures.bound (omega arith) in
      let station = rw c.from.ensures at c.number_bound.ensures.bound in
      let whole : length (entry_and (line_parts c.args.entry.now) []) ≤ 64 + length (decimal c.args.entry.now.station) + length (text_of_command c.args.entry.now.command) + length (line_of c.args.entry.now.answer) =
      entry_short c.args.entry.now.station (text_of_command c.args.entry.now.command) (line_of c.args.entry.now.answer) (omega (arith, command)) (omega (arith, answer)) in
      omega (arith, whole, command, answer, station);
}
