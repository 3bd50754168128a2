-- What the indexes of a table keep.
use Rattle.std.specs.Prelude.{◌≡◌, ℕ, ◌<◌, Bool, true, false, nat_lt, None, List, length, slice_index_or}
use Rattle.std.specs.List.{list_all}
use Rattle.dbf_image.specs.Table.{Table}
use Rattle.key_expr.specs.Expression.{Expression}
use Rattle.key_expr.specs.Keys.{key_length, names}
use Rattle.key_expr.specs.Rules.{broken_rule}
use Rattle.ndx_index.specs.declared.pair.Pair.{Pair}
use Rattle.table_order.specs.TableOrder.{order, order_but, ordered}
use Rattle.table_core.specs.declared.edits.planned.Target.{Target}
use Rattle.table_core.specs.declared.indexes.TableIndex.{TableIndex}
use Rattle.table_core.specs.Content.{Indexed}

-- the expression was read for these fields, and the keys have its length
pub record IsFor (table : Table) (index : TableIndex) : Type 0 where
  pub fields : index.expr.fields ≡ table.schema
  pub kept : broken_rule table.schema index.expr.expr ≡ None
  pub long : index.order.key_len ≡ key_length index.expr.fields index.expr.expr

-- the index has the order of the table
pub record Follows (table : Table) (index : TableIndex) : Type 0 where
  pub is_for : IsFor table index
  pub pairs : index.order.pairs ≡ order table index.expr.expr

-- the index has the order of all records but one
pub record FollowsBut (number : ℕ) (table : Table) (index : TableIndex) : Type 0 where
  pub is_for : IsFor table index
  pub pairs : index.order.pairs ≡ order_but number table index.expr.expr

-- the index has the order of the table, but for the record's pair where its key names the field
pub record FollowsAside (target : Target) (table : Table) (index : TableIndex) : Type 0 where
  pub named : names target.field index.expr.expr ≡ true → FollowsBut target.number table index
  pub unnamed : names target.field index.expr.expr ≡ false → Follows table index

-- the numbers of a table's records in the order of an index
abbrev pub numbers_by : Table → TableIndex → List ℕ
numbers_by table index = ordered table index.expr.expr

-- a fact holds of each place of a list at which a pair stands
abbrev pub AtPlacesOf : Pair → List Pair → (ℕ → Type 0) → Type 0
AtPlacesOf pair pairs fact = (place : ℕ) → place < length pairs → slice_index_or pairs place pair ≡ pair → fact place

-- one more pair has room
abbrev pub HasRoom : TableIndex → Type 0
HasRoom index = 0 < index.order.spare

-- what callers see of an index
abbrev pub indexed : TableIndex → Indexed
indexed index = record { name = index.name; expr = index.expr }

-- an index but for its room
pub record Seen : Type 0 where
  pub name : List ℕ
  pub expr : Expression
  pub key_len : ℕ
  pub pairs : List Pair

abbrev pub seen_index : TableIndex → Seen
seen_index index = record { name = index.name; expr = index.expr; key_len = index.order.key_len; pairs = index.order.pairs }

-- each index has room for one more pair
abbrev pub have_room : List TableIndex → Bool
have_room indexes = list_all (λ index. nat_lt 0 index.order.spare) indexes
