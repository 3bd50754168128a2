-- Where a search begins: the pairs before that place fail its test, and those after pass it.
use Rattle.std.specs.Prelude.{Bool, not}
use Rattle.ndx_index.specs.Order.{before}
use Rattle.ndx_index.specs.declared.pair.Pair.{Pair}
use Rattle.ndx_index.specs.declared.pages.bound.Bound.{Bound}

-- the pair stands where a search by the bound begins, or after
abbrev pub passes : Bound → Pair → Bool
passes b q = not (before q (record { key = b.key.now; number = b.number }))
