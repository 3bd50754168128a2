-- The tables of a closed catalogue, as their files are written.
use Rattle.std.specs.Prelude.{◌≡◌, ℕ, ◌+◌, ◌-◌, ◌<◌, List, length, map, slice_get, Some}
use Rattle.std.specs.List.{AllByRecursion}
use Rattle.dbf_fields.specs.declared.field.Field.{Field}
use Rattle.dbf_image.specs.Table.{Table, IsTable}
use Rattle.key_expr.specs.Rules.{IsKeyText}
use Rattle.table_order.specs.TableOrder.{order}
use Rattle.table_core.specs.Content.{Content, Indexed}
use Rattle.table_core.specs.Parts.{HandedIndex}
use Rattle.catalogue_core.specs.Replay.{History, names_of, state_of}
use Rattle.catalogue_core.specs.State.{table_at}
use Rattle.office_run.specs.declared.closed.ClosedTable.{ClosedTable}
use Rattle.office_run.specs.ClosedIndex.{IndexContent, index_with}

-- an index of a table: its pairs are the table's in order
abbrev pub index_of : Table → Indexed → IndexContent
index_of table index = index_with index.name index.expr (order table index.expr.expr)

-- the index's expression was read for these fields
pub record IsIndexFor (fields : List Field) (index : Indexed) : Type 0 where
  pub fields_are : index.expr.fields ≡ fields
  pub read : IsKeyText fields index.expr.text index.expr.expr

-- an index that a table has handed over, as its file is written
abbrev pub closed_with : HandedIndex → IndexContent
closed_with index = index_with index.name index.expr index.pairs

-- the expression of an index that a table has handed over was read for these fields
abbrev pub WasReadFor : List Field → HandedIndex → Type 0
WasReadFor fields index = IsIndexFor fields (record { name = index.name; expr = index.expr })

-- a table with its indexes at the end of a history
abbrev pub end_of : History → ℕ → Content
end_of h number = table_at (state_of h).tables number

-- The table of this number is handed over as it is at the history's end, under the name with which it was opened. Each
-- index's expression was read for its fields.
pub record IsHandedOver (h : History) (number : ℕ) (closed : ClosedTable) : Type 0 where
  pub named : slice_get (names_of h.opened) (number - 1) ≡ Some closed.name
  pub content : closed.content ≡ (end_of h number).table
  pub indexes : closed.indexes.items ≡ map (index_of (end_of h number).table) (end_of h number).indexes
  pub table : IsTable closed.content
  pub read : AllByRecursion (IsIndexFor closed.content.schema) (end_of h number).indexes

-- the tables are all of the catalogue's, in their order
pub record AreHandedOver (h : History) (tables : List ClosedTable) : Type 0 where
  pub count : length tables ≡ length h.opened.tables
  pub each : (i : ℕ) → i < length h.opened.tables → (closed : ClosedTable) × (slice_get tables i ≡ Some closed) × IsHandedOver h (i + 1) closed

-- these are the names of a history's tables, and its tables at its end, in their order
pub record AreEndOf (h : History) (names : List (List ℕ)) (tables : List Content) : Type 0 where
  pub named : names ≡ names_of h.opened
  pub ends : tables ≡ (state_of h).tables
  pub count : length tables ≡ length h.opened.tables
