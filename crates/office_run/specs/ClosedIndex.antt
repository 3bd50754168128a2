-- An index as a run left it.
use Rattle.std.specs.Prelude.{ℕ, ◌≤◌, List, length}
use Rattle.key_expr.specs.Expression.{Expression}
use Rattle.key_expr.specs.Keys.{key_length}
use Rattle.ndx_index.specs.declared.format.TheConstants.{MAX_PAIRS}
use Rattle.ndx_index.specs.declared.pair.Pair.{Pair}
use Rattle.ndx_index.specs.Index.{HaveLength}
use Rattle.ndx_index.specs.Order.{AreInOrder}

-- an index: its name, the text of its key expression, the length of its keys, and its pairs
pub record IndexContent : Type 0 where
  pub name : List ℕ
  pub text : List ℕ
  pub key_len : ℕ
  pub pairs : List Pair

abbrev pub index_with : List ℕ → Expression → List Pair → IndexContent
index_with name e pairs = record { name = name; text = e.text; key_len = key_length e.fields e.expr; pairs = pairs }

-- the pairs are those of an index of this expression
pub record IsHeldIndex (e : Expression) (pairs : List Pair) : Type 0 where
  pub count_bounded : length pairs ≤ MAX_PAIRS
  pub keys : HaveLength (key_length e.fields e.expr) pairs
  pub ordered : AreInOrder pairs
