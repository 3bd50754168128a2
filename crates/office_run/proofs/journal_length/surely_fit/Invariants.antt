use Rattle.std.proofs.Common.{◌≤◌, ◌+◌, length, drop}
use Rattle.station_lines.specs.JournalLines.{journal_text}
use Rattle.office_run.proofs.journal_length.surely_fit.Given as goal

-- what is left is the room without the lines of the entries before this one, or less
abbrev pub invariant-loop-entry : goal.invariant-loop-entry
invariant-loop-entry l = (l.left + length (journal_text l.journal) ≤ l.room + length (journal_text (drop l.entry-index l.journal))) × (l.left ≤ l.room)
