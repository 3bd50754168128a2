-- What contracts see of a list of pairs whose keys have one length.
use Rattle.std.specs.Prelude.{ℕ, List}
use Rattle.ndx_index.specs.declared.pair.Pair.{Pair}

-- a list of pairs with keys of one length, as contracts see a `PairList`
pub record KeyedPairs : Type 0 where
  pub key_len : ℕ
  pub pairs : List Pair
