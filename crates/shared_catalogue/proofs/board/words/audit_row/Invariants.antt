use Rattle.std.proofs.Common.{take}
use Rattle.std.specs.List.{AllByRecursion}
use Rattle.shared_catalogue.specs.RowWords.{IsSmallStatus}
use Rattle.shared_catalogue.proofs.board.words.audit_row.Given as goal

abbrev pub invariant-loop-table : goal.invariant-loop-table
invariant-loop-table l = AllByRecursion IsSmallStatus (take l.table-index l.row.tables)
