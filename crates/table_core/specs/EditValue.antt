-- Edits as values: what a command asks of a table, with the names, the values and the texts that it takes.
use Rattle.std.specs.Prelude.{ℕ, List}
use Rattle.dbf_fields.specs.declared.literal.Literal.{Literal}

-- an edit as a value
pub data EditValue : Type 0 where
  AppendBlank : EditValue
  Replace : List ℕ → Literal → EditValue
  Memo : List ℕ → List ℕ → EditValue
  Delete : EditValue
  Recall : EditValue
  Pack : EditValue
