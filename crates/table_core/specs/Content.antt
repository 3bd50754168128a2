-- A table with its indexes, as commands see it.
use Rattle.std.specs.Prelude.{◌≡◌, ℕ, ◌-◌, Bool, ◌==◌, if◌then◌else◌, bytes_eq, List, [], ◌∷◌, ◌++◌, length, slice_get, Option, Some, None}
use Rattle.std.specs.List.{list_any}
use Rattle.std.specs.Option.{option_map}
use Rattle.dbf_fields.specs.declared.field.Field.{Field}
use Rattle.dbf_image.specs.Table.{Table}
use Rattle.key_expr.specs.Expression.{Expression}
use Rattle.key_expr.specs.Keys.{key_length}
use Rattle.ndx_index.specs.declared.pair.Pair.{Pair}
use Rattle.table_order.specs.TableOrder.{order}

-- an index: its name and its key expression
pub record Indexed : Type 0 where
  pub name : List ℕ
  pub expr : Expression

-- the table and its indexes. Their orders are computed from the rows, and are no part of it
pub record Content : Type 0 where
  pub table : Table
  pub indexes : List Indexed

-- what has room without memory being taken: one more record, a number of bytes of memos, one more pair in each index; and how many
-- blocks hold texts of memos, of which some may be those of texts that were replaced
pub record Room : Type 0 where
  pub for_record : Bool
  pub for_text : ℕ
  pub for_pairs : Bool
  pub blocks_in_use : ℕ

-- a table with its indexes, and its room
pub record Held : Type 0 where
  pub content : Content
  pub room : Room

-- an index as it is asked for
abbrev pub named : List ℕ × Expression → Indexed
named p = record { name = p.0; expr = p.1 }

-- its expression was read for these fields
abbrev pub IsReadFor : List Field → List ℕ × Expression → Type 0
IsReadFor fields p = p.1.fields ≡ fields

abbrev pub record_count : Content → ℕ
record_count content = length content.table.rows

abbrev pub has_no_records : Content → Bool
has_no_records content = record_count content == 0

-- another table with the same indexes
abbrev pub with_table : Content → Table → Content
with_table content table = record { table = table; indexes = content.indexes }

-- the same table with one more index
abbrev pub with_index : Content → Indexed → Content
with_index content index = record { table = content.table; indexes = content.indexes ++ index ∷ [] }

-- the same, where it is added
abbrev pub with_index_if : Bool → Content → Indexed → Content
with_index_if added content index = if added then with_index content index else content

-- one of the indexes has the name
abbrev pub has_index : Content → List ℕ → Bool
has_index content name = list_any (λ index. bytes_eq name index.name) content.indexes

-- the index of a number, where there is one
abbrev pub index_at : Content → ℕ → Option Indexed
index_at content number = slice_get content.indexes (number - 1)

-- the pairs of an index in order, where there is one
abbrev pub pairs_by : Content → Option Indexed → List Pair
pairs_by content None = []
pairs_by content (Some index) = order content.table index.expr.expr

-- how many bytes the keys of an index have, where there is one
abbrev pub key_length_by : Option Indexed → ℕ
key_length_by None = 0
key_length_by (Some index) = key_length index.expr.fields index.expr.expr

-- how many bytes the keys of the index of a number have
abbrev pub key_length_at : Content → ℕ → ℕ
key_length_at content number = key_length_by (index_at content number)

-- the pairs of the index of a number, in order
abbrev pub order_at : Content → ℕ → List Pair
order_at content number = pairs_by content (index_at content number)

-- the name of the index of a number, and its key expression, where there is one
abbrev pub name_at : Content → ℕ → Option (List ℕ)
name_at content number = option_map (λ index. index.name) (index_at content number)

abbrev pub expr_at : Content → ℕ → Option Expression
expr_at content number = option_map (λ index. index.expr) (index_at content number)
