use Rattle.std.proofs.Common.{drop, take, map}
use Rattle.station_lines.specs.JournalLines.{line_parts, journal_text, HaveSmallNumbers}
use Rattle.office_run.specs.JournalFile.{PutsAllBut}
use Rattle.office_run.proofs.journal.put_lines.Given as goal

-- all is put but the lines of the entries that are left, and the numbers of the others are of 64 bits
abbrev pub invariant-loop-entry : goal.invariant-loop-entry
invariant-loop-entry g l =
    PutsAllBut l.fn.out (journal_text l.journal) (journal_text (drop l.entry-index l.journal)) l.out
    × HaveSmallNumbers (map line_parts (take l.entry-index l.journal))
