-- The order of a table by a key expression: the pairs of all records, deleted ones too, sorted.
use Rattle.std.specs.Prelude.{◌≡◌, ℕ, ◌+◌, ◌-◌, ◌≤◌, List, [], ◌∷◌, length, map}
use Rattle.std.specs.List.{remove}
use Rattle.dbf_image.specs.Table.{Row, Table, row_at}
use Rattle.key_expr.specs.Grammar.{Expr}
use Rattle.key_expr.specs.Keys.{key}
use Rattle.ndx_index.specs.declared.pair.Pair.{Pair}
use Rattle.ndx_index.specs.Order.{in_order}

-- the pairs of records whose numbers count on from one
abbrev pub pairs_from : ℕ → List Row → Expr → List Pair
pairs_from number [] e = []
pairs_from number (r ∷ rs) e = record { key = key r.cells e; number = number } ∷ pairs_from (number + 1) rs e

-- the pairs of all records of a table, deleted ones too
abbrev pub pairs_of : Table → Expr → List Pair
pairs_of table e = pairs_from 1 table.rows e

-- these pairs in order: the order of a table by a key expression
abbrev pub order : Table → Expr → List Pair
order table e = in_order (pairs_of table e)

-- the pair of the record of a number
abbrev pub pair_at : Table → ℕ → Expr → Pair
pair_at table number e = record { key = key (row_at table number).cells e; number = number }

-- the pair is that of the record of its number
pub record IsRecordPair (table : Table) (e : Expr) (p : Pair) : Type 0 where
  pub some : 1 ≤ p.number
  pub inside : p.number ≤ length table.rows
  pub own : p ≡ pair_at table p.number e

-- the order of all records but the one of a number
abbrev pub order_but : ℕ → Table → Expr → List Pair
order_but number table e = in_order (remove (pairs_of table e) (number - 1))

-- the numbers of the records in their order
abbrev pub ordered : Table → Expr → List ℕ
ordered table e = map (λ p. p.number) (order table e)
