-- The file that is written of an index, by its key expression.
use Rattle.std.specs.Prelude.{◌≢◌, ℕ, List}
use Rattle.std.specs.List.{AllByRecursion}
use Rattle.key_expr.specs.Expression.{Expression}
use Rattle.key_expr.specs.Keys.{key_length}
use Rattle.ndx_index.specs.declared.pair.Pair.{Pair}
use Rattle.ndx_index.specs.Header.{IsIndex, trimmed_end}
use Rattle.ndx_index.specs.Image.{ndx_image}

-- the file of these pairs, whose keys are as long as the expression's
abbrev pub index_image : Expression → List Pair → List ℕ
index_image e pairs = ndx_image e.text (key_length e.fields e.expr) pairs

-- the bytes are an index file of these pairs and of the expression, but for the blanks at its end
abbrev pub IsIndexOf : List ℕ → Expression → List Pair → Type 0
IsIndexOf bytes e pairs = IsIndex bytes (trimmed_end e.text) (key_length e.fields e.expr) pairs

-- the file that is written of these reads back with this text, and with the same length of keys and the same pairs
abbrev pub ReadsBackAs : List ℕ → List ℕ → ℕ → List Pair → Type 0
ReadsBackAs read text key_len pairs = IsIndex (ndx_image text key_len pairs) read key_len pairs

-- no byte of the text is zero
abbrev pub HasNoZero : List ℕ → Type 0
HasNoZero text = AllByRecursion (λ b. b ≢ 0) text
