-- The lines of refusals.
use Rattle.std.specs.Prelude.{ℕ, Bool, List, map, bytes_eq}
use Rattle.std.specs.List.{list_any}
use Rattle.station_lines.specs.AnswerLines.{refusal_text}
use Rattle.entry_text.specs.declared.refusal_line.TheConstants.{REFUSALS}

-- the lines of all refusals
abbrev pub refusal_lines : List (List ℕ)
refusal_lines = map refusal_text REFUSALS

-- the line is that of a refusal
abbrev pub is_refusal_line : List ℕ → Bool
is_refusal_line line = list_any (λ refusal. bytes_eq refusal line) refusal_lines
