use Rattle.std.proofs.Common.{◌≡◌, map, take}
use Rattle.csv.specs.Records.{fields_of}
use Rattle.table_loader.specs.Headings.{column_name}
use Rattle.table_loader.proofs.heading.names_of.Given as goal

abbrev pub invariant-loop-column : goal.invariant-loop-column
invariant-loop-column l = l.names.items ≡ map column_name (take l.column (fields_of l.heading))
