-- Keys that begin alike, or end alike.
use Rattle.std.proofs.Common.{◌≡◌, ℕ, ◌-◌, ◌<◌, ◌≤◌, List, length, take, drop, ap, sym, ◌∙◌, arith}
use Rattle.std.specs.Prelude.{min}
use Rattle.std.proofs.lemmas.List.{length-drop, take_all, take-take, drop_min}
use Rattle.std.proofs.lemmas.List.Elements.{All-from_recursion}
use Rattle.ndx_index.specs.declared.pair.Pair.{Pair}
use Rattle.ndx_index.specs.Index.{HaveLength}
use Rattle.ndx_index.specs.Slots.{slot_at, no_pair}
use Rattle.ndx_index.specs.Sorting.{BeginAlike, EndAlike}

pub long_at : (k : ℕ) (ps : List Pair) (i : ℕ) → HaveLength k ps → i < length ps → length (slot_at ps i).key ≡ k
long_at k ps i long lt = All-from_recursion (λ (p : Pair). length p.key ≡ k) ps long i no_pair lt

-- what begins alike does with fewer elements
pub fewer_alike : (m n : ℕ) (xs ys : List ℕ) → m ≤ n → take n xs ≡ take n ys → take m xs ≡ take m ys
fewer_alike m n xs ys le same = sym (take-take m n xs le) ∙ ap (take m) same ∙ take-take m n ys le

pub fewer_begin : (m n : ℕ) (ps : List Pair) → m ≤ n → BeginAlike n ps → BeginAlike m ps
fewer_begin m n ps le alike k lt = fewer_alike m n (slot_at ps k).key (slot_at ps 0).key le (alike k lt)

-- what a slice from a place on has
pub rest_is : (start : ℕ) (xs : List ℕ) → take (length xs - start) (drop start xs) ≡ drop start xs
rest_is start xs = take_all (length xs - start) (drop start xs) (omega (arith, length-drop start xs))

cut : (place k : ℕ) (xs : List ℕ) → length xs ≡ k → drop (min place k) xs ≡ drop place xs
cut place k xs long = ap (λ (n : ℕ). drop (min place n) xs) (sym long) ∙ drop_min place xs

-- a place after the end of keys is as good as the end
pub end_from_cut : (place k : ℕ) (ps : List Pair) → HaveLength k ps → EndAlike (min place k) ps → EndAlike place ps
end_from_cut place k ps long alike i lt =
    let first : 0 < length ps = omega (arith, lt) in
    sym (cut place k (slot_at ps i).key (long_at k ps i long lt)) ∙ alike i lt ∙ cut place k (slot_at ps 0).key (long_at k ps 0 long first)
