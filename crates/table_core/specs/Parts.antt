-- The indexes of a table, as they are handed over.
use Rattle.std.specs.Prelude.{◌≡◌, ℕ, List, length}
use Rattle.dbf_image.specs.Table.{Table}
use Rattle.key_expr.specs.Expression.{Expression}
use Rattle.key_expr.specs.Keys.{key_length}
use Rattle.ndx_index.specs.declared.pair.Pair.{Pair}
use Rattle.ndx_index.specs.Index.{HaveLength}
use Rattle.ndx_index.specs.Order.{AreInOrder}
use Rattle.table_order.specs.TableOrder.{order}
use Rattle.table_core.specs.declared.parts.IndexParts.{IndexParts}
use Rattle.table_core.specs.Content.{Indexed}

-- an index that was handed over: its name, its key expression and its pairs
pub record HandedIndex : Type 0 where
  pub name : List ℕ
  pub expr : Expression
  pub pairs : List Pair

-- the indexes of a table as they are handed over
abbrev pub handed : IndexParts → HandedIndex
handed parts = record { name = parts.name; expr = parts.expr; pairs = parts.pairs.pairs }

-- an index of a table as it is handed over: its pairs are the table's in order
abbrev pub handed_of : Table → Indexed → HandedIndex
handed_of table index = record { name = index.name; expr = index.expr; pairs = order table index.expr.expr }

-- An index that was handed over fits a table: its expression was read for the table's fields, and it has as many pairs as the
-- table has records, in order, with keys of one length.
pub record FitsTable (table : Table) (parts : IndexParts) : Type 0 where
  pub fields : parts.expr.fields ≡ table.schema
  pub count : length parts.pairs.pairs ≡ length table.rows
  pub keys : HaveLength (key_length parts.expr.fields parts.expr.expr) parts.pairs.pairs
  pub ordered : AreInOrder parts.pairs.pairs
