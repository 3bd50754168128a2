-- Pairs whose keys stand one after another in one run of bytes, all of one length.
use Rattle.std.specs.Prelude.{◌≡◌, ℕ, ◌+◌, ◌*◌, ◌≤◌, ◌<◌, Bool, true, List, [], ◌∷◌, length, take, drop, replicate, slice_index_or, vec_capacity}
use Rattle.key_expr.specs.declared.format.TheConstants.{MAX_KEY_BYTES}
use Rattle.ndx_index.specs.declared.pair.Pair.{Pair}
use Rattle.ndx_index.specs.declared.pages.slots.PairSlots.TheInside.{Inside}

-- pairs with keys of one length, and how many more can be put after them without taking memory
pub record Slots : Type 0 where
  pub key_len : ℕ
  pub pairs : List Pair
  pub spare : ℕ

-- runs of bytes as pairs: each number with the next k bytes
abbrev pub slot_pairs : ℕ → List ℕ → List ℕ → List Pair
slot_pairs k keys [] = []
slot_pairs k keys (n ∷ ns) = record { key = take k keys; number = n } ∷ slot_pairs k (drop k keys) ns

abbrev pub no_pair : Pair
no_pair = record { key = []; number = 0 }

abbrev pub slot_at : List Pair → ℕ → Pair
slot_at ps i = slice_index_or ps i no_pair

-- each of the pairs from a place on passes the test
abbrev pub AllPassFrom : (Pair → Bool) → List Pair → ℕ → Type 0
AllPassFrom test ps at = (k : ℕ) → at ≤ k → k < length ps → test (slot_at ps k) ≡ true

-- a slot that nothing was put into yet
abbrev pub blank : ℕ → Pair
blank k = record { key = replicate k 0; number = 0 }

abbrev pub slots_view : Inside → Slots
slots_view x = record { key_len = x.key_len; pairs = slot_pairs x.key_len x.keys.items x.numbers.items; spare = x.spare }

-- the runs fit each other, and both have room for the spare slots
pub record AreRuns (x : Inside) : Type 0 where
  pub short : x.key_len ≤ MAX_KEY_BYTES
  pub fit : length x.keys.items ≡ length x.numbers.items * x.key_len
  pub keys_room : (length x.numbers.items + x.spare) * x.key_len ≤ vec_capacity x.keys
  pub numbers_room : length x.numbers.items + x.spare ≤ vec_capacity x.numbers
