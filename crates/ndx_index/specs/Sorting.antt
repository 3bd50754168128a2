-- Entries that stand for the pairs of a list while it is sorted.
use Rattle.std.specs.Prelude.{◌≡◌, ℕ, ◌<◌, List, length, map, min, take, drop, slice_index}
use Rattle.std.specs.Ordering.{nat_cmp, ordering_then}
use Rattle.std.specs.declared.cmp.Ordering.{Ordering}
use Rattle.byteorder.specs.Endian.{big_number}
use Rattle.ndx_index.specs.declared.pair.Pair.{Pair}
use Rattle.ndx_index.specs.declared.pair_list.sorting.SortEntry.{SortEntry}
use Rattle.ndx_index.specs.Order.{pair_cmp}
use Rattle.ndx_index.specs.Places.{counted}
use Rattle.ndx_index.specs.Slots.{slot_at}

-- the first bytes of a run as one number, the highest first: eight, or all where there are fewer
abbrev pub front_number : List ℕ → ℕ
front_number run = big_number (min 8 (length run)) run

-- the pair that an entry stands for
abbrev pub pair_of_entry : List Pair → SortEntry → Pair
pair_of_entry ps e = slot_at ps e.place

-- the entry of the pair at a place, with the bytes of its key from `start` on
abbrev pub entry_of_place : ℕ → List Pair → ℕ → SortEntry
entry_of_place start ps place = record { front = front_number (drop start (slot_at ps place).key); number = (slot_at ps place).number; place = place }

-- the entries of all pairs, in their order
abbrev pub sort_entries : ℕ → List Pair → List SortEntry
sort_entries start ps = map (entry_of_place start ps) (counted 0 (length ps))

-- by the bytes of keys in the entries, and then by the record numbers
abbrev pub front_cmp : SortEntry → SortEntry → Ordering
front_cmp a b = ordering_then (nat_cmp a.front b.front) (nat_cmp a.number b.number)

-- by the bytes of keys in the entries, and then by the pairs
abbrev pub entry_cmp : List Pair → SortEntry → SortEntry → Ordering
entry_cmp ps a b = ordering_then (nat_cmp a.front b.front) (pair_cmp (pair_of_entry ps a) (pair_of_entry ps b))

-- as the pairs that they stand for
abbrev pub place_cmp : List Pair → SortEntry → SortEntry → Ordering
place_cmp ps a b = pair_cmp (pair_of_entry ps a) (pair_of_entry ps b)

-- an entry has a place of the list, and the record number of the pair there
abbrev pub IsOfPlace : List Pair → SortEntry → Type 0
IsOfPlace ps e = (e.place < length ps) × (e.number ≡ (pair_of_entry ps e).number)

-- each number is a byte's
abbrev pub AreBytes : List ℕ → Type 0
AreBytes xs = (i : ℕ) → slice_index xs i < 256

-- the keys are of bytes from a place on
abbrev pub HaveBytes : ℕ → List Pair → Type 0
HaveBytes start ps = (k : ℕ) → k < length ps → AreBytes (drop start (slot_at ps k).key)

-- all keys have the same first bytes, n of them
abbrev pub BeginAlike : ℕ → List Pair → Type 0
BeginAlike n ps = (k : ℕ) → k < length ps → take n (slot_at ps k).key ≡ take n (slot_at ps 0).key

-- all keys have the same bytes from a place on
abbrev pub EndAlike : ℕ → List Pair → Type 0
EndAlike place ps = (k : ℕ) → k < length ps → drop place (slot_at ps k).key ≡ drop place (slot_at ps 0).key
