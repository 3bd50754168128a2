-- Three pairs that are told apart.
use Rattle.std.proofs.Common.{◌≡◌, false, [], ◌∷◌}
use Rattle.std.specs.List.{IsDistinct}
use Rattle.ndx_index.specs.declared.pair.Pair.{Pair}
use Rattle.ndx_index.specs.Order.{same}

pub three_apart : (a b c : Pair) → same a b ≡ false → same a c ≡ false → same b c ≡ false → IsDistinct same (a ∷ b ∷ c ∷ [])
unfolding IsDistinct
three_apart a b c ab ac bc = ((ab, (ac, tt)), ((bc, tt), (tt, tt)))
