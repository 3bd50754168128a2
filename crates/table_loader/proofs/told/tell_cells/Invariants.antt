use Rattle.std.proofs.Common.{length}
use Rattle.table_loader.specs.CsvText.{lines_left, ReadsCsv}
use Rattle.table_loader.proofs.told.tell_cells.Given as goal

abbrev pub invariant-lines : goal.invariant-lines
invariant-lines l = ReadsCsv l.reader

abbrev pub decreases-lines : goal.decreases-lines
decreases-lines l = length (lines_left l.reader)
