use Rattle.std.proofs.Common.{◌≡◌, ◌++◌, take}
use Rattle.station_lines.specs.AnswerLines.{numbers_text}
use Rattle.station_lines.proofs.answer_lines.append_numbers.Given as goal

abbrev pub invariant-loop-number : goal.invariant-loop-number
invariant-loop-number l = l.line.items ≡ l.fn.line.items ++ numbers_text (take l.number-index l.numbers)
