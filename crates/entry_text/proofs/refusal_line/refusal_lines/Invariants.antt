use Rattle.std.proofs.Common.{◌≡◌, map, take}
use Rattle.station_lines.specs.AnswerLines.{refusal_text}
use Rattle.entry_text.specs.declared.refusal_line.TheConstants.{REFUSALS}
use Rattle.entry_text.proofs.refusal_line.refusal_lines.Given as goal

abbrev pub invariant-loop-refusal : goal.invariant-loop-refusal
invariant-loop-refusal l = l.lines.items ≡ map refusal_text (take l.refusal-index REFUSALS)
