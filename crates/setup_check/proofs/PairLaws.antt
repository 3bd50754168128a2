-- The keys of pairs that all have one length.
use Rattle.std.proofs.Common.{◌≡◌, ◌<◌, ℕ, zero, suc, List, [], ◌∷◌, length, arith}
use Rattle.ndx_index.specs.declared.pair.Pair.{Pair}
use Rattle.ndx_index.specs.Index.{HaveLength}
use Rattle.ndx_index.specs.Slots.{slot_at}

pub key_long : (n : ℕ) (pairs : List Pair) (i : ℕ) → HaveLength n pairs → i < length pairs → length (slot_at pairs i).key ≡ n
key_long n [] i h lt = absurd (omega arith)
key_long n (p ∷ ps) zero h lt = h.0
key_long n (p ∷ ps) (suc i) h lt = key_long n ps i h.1 (omega arith)
