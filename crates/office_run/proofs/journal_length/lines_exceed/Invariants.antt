use Rattle.std.proofs.Common.{◌≡◌, ◌+◌, length, drop}
use Rattle.station_lines.specs.JournalLines.{journal_text}
use Rattle.office_run.proofs.journal_length.lines_exceed.Given as goal

-- what is left is the room without the lines of the entries before this one
abbrev pub invariant-loop-entry : goal.invariant-loop-entry
invariant-loop-entry l = l.left + length (journal_text l.journal) ≡ l.room + length (journal_text (drop l.entry-index l.journal))
