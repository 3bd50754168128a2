-- What contracts see of the bytes of a table's records.
use Rattle.std.specs.Prelude.{ℕ, List}

-- the bytes of a table's records, and how many more there may be without memory being taken
pub record RecordList : Type 0 where
  pub items : List ℕ
  pub room : ℕ
