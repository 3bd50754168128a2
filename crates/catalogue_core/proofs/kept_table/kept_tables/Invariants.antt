use Rattle.std.proofs.Common.{◌≡◌, map, take}
use Rattle.catalogue_core.specs.Tables.{named_table, kept_table}
use Rattle.catalogue_core.proofs.kept_table.kept_tables.Given as goal

abbrev pub invariant-loop-i : goal.invariant-loop-i
invariant-loop-i l = map kept_table l.kept.items ≡ map named_table (take l.i l.tables)
