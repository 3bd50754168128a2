-- Tables under their names.
use Rattle.std.specs.Prelude.{ℕ, List}
use Rattle.table_core.specs.Content.{Content}
use Rattle.catalogue_core.specs.declared.opening.OpenedTable.{OpenedTable}
use Rattle.catalogue_core.specs.declared.kept_table.KeptTable.{KeptTable}

-- a table with its indexes under its name
pub record NamedTable : Type 0 where
  pub name : List ℕ
  pub content : Content

-- a table that is opened
abbrev pub named_table : OpenedTable → NamedTable
named_table t = record { name = t.name; content = t.table.content }

-- a table as it was opened
abbrev pub kept_table : KeptTable → NamedTable
kept_table t = record { name = t.name; content = t.table.value.content }
