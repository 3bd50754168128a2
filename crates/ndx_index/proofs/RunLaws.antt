-- What is done to both runs is done to the pairs.
use Rattle.std.proofs.Common.{◌≡◌, ℕ, zero, suc, ◌+◌, ◌-◌, ◌*◌, ◌<◌, ◌≤◌, List, [], ◌∷◌, ◌++◌, length, map, take, drop, set, get_or, replicate, refl, sym, ap, ◌∙◌, append_assoc, arith}
use Rattle.std.proofs.lemmas.List.{length-drop, length-append, length-take-le, take-take, drop-take, nil_from_length, drop-drop, take-append-le, drop-append-le, set_split, take_all, take-replicate, drop-replicate}
use lib.Seq.{paste}
use Rattle.std.specs.List.{copy_within}
use Rattle.ndx_index.specs.declared.pair.Pair.{Pair}
use Rattle.ndx_index.specs.declared.pages.slots.PairSlots.TheInside.{Inside}
use Rattle.ndx_index.specs.Index.{HaveLength}
use Rattle.ndx_index.specs.Slots.{Slots, slot_pairs, slot_at, blank, slots_view, AreRuns}

pub length-pairs : (k : ℕ) (keys ns : List ℕ) → length (slot_pairs k keys ns) ≡ length ns
length-pairs k keys [] = refl
length-pairs k keys (n ∷ ns) = ap suc (length-pairs k (drop k keys) ns)

step : (i k : ℕ) → suc i * k ≡ k + i * k
step i k = omega arith

pub pair_there : (k : ℕ) (keys ns : List ℕ) (i : ℕ) → i < length ns → slot_at (slot_pairs k keys ns) i ≡ record { key = take k (drop (i * k) keys); number = get_or ns i 0 }
pair_there k keys [] i lt = absurd (omega arith)
pair_there k keys (n ∷ ns) zero lt =
    let z : 0 * k ≡ 0 = omega arith in
    rw z refl
pair_there k keys (n ∷ ns) (suc i) lt = rw (step i k, ← drop-drop (i * k) k keys) (pair_there k (drop k keys) ns i (omega arith))

-- the numbers are those of the run
pub numbers_of_pairs : (k : ℕ) (keys ns : List ℕ) → map (λ (p : Pair). p.number) (slot_pairs k keys ns) ≡ ns
numbers_of_pairs k keys [] = refl
numbers_of_pairs k keys (n ∷ ns) = ap (λ (ms : List ℕ). n ∷ ms) (numbers_of_pairs k (drop k keys) ns)

-- each key has the length
pub pairs_long : (k : ℕ) (keys ns : List ℕ) → length keys ≡ length ns * k → HaveLength k (slot_pairs k keys ns)
pairs_long k keys [] fit = tt
pairs_long k keys (n ∷ ns) fit =
    let long : length keys ≡ k + length ns * k = fit ∙ step (length ns) k in
    (length-take-le k keys (omega (arith, long)), pairs_long k (drop k keys) ns (length-drop k keys ∙ omega (arith, long)))

pub drop_pairs : (k i : ℕ) (keys ns : List ℕ) → drop i (slot_pairs k keys ns) ≡ slot_pairs k (drop (i * k) keys) (drop i ns)
drop_pairs k zero keys ns =
    let z : 0 * k ≡ 0 = omega arith in
    rw z refl
drop_pairs k (suc i) keys [] = refl
drop_pairs k (suc i) keys (n ∷ ns) = rw (step i k, ← drop-drop (i * k) k keys) (drop_pairs k i (drop k keys) ns)

pub take_pairs : (k i : ℕ) (keys ns : List ℕ) → take i (slot_pairs k keys ns) ≡ slot_pairs k (take (i * k) keys) (take i ns)
take_pairs k zero keys ns = refl
take_pairs k (suc i) keys [] = refl
take_pairs k (suc i) keys (n ∷ ns) = rw (step i k, take-take k (k + i * k) keys (omega arith), drop-take k (i * k) keys, take_pairs k i (drop k keys) ns) refl

pub append_pairs : (k : ℕ) (keys more ns ms : List ℕ) → length keys ≡ length ns * k → slot_pairs k (keys ++ more) (ns ++ ms) ≡ slot_pairs k keys ns ++ slot_pairs k more ms
append_pairs k keys more [] ms fit =
    let none : keys ≡ [] = nil_from_length keys (omega (arith, fit)) in
    rw none refl
append_pairs k keys more (n ∷ ns) ms fit =
    let long : length keys ≡ k + length ns * k = fit ∙ step (length ns) k in
    let rest : length (drop k keys) ≡ length ns * k = length-drop k keys ∙ omega (arith, long) in
    rw (take-append-le k keys more (omega (arith, long)), drop-append-le k keys more (omega (arith, long)), append_pairs k (drop k keys) more ns ms rest) refl

pub times_le : (i n k : ℕ) → i ≤ n → i * k ≤ n * k
times_le i n k le =
    let e : n ≡ i + (n - i) = omega arith in
    let wide : n * k ≡ (i + (n - i)) * k = ap (λ (m : ℕ). m * k) e in
    omega (arith, wide)

-- the first i slots' bytes and numbers fit each other
pub taken_fit : (k i : ℕ) (keys ns : List ℕ) → i * k ≤ length keys → i ≤ length ns → length (take (i * k) keys) ≡ length (take i ns) * k
taken_fit k i keys ns long le = length-take-le (i * k) keys long ∙ ap (λ (m : ℕ). m * k) (sym (length-take-le i ns le))

-- c slots of other runs written over those from a place on
pub paste_pairs : (k at c : ℕ) (keys more ns ms : List ℕ) → length keys ≡ length ns * k → at ≤ length ns → c * k ≤ length more → c ≤ length ms
    → slot_pairs k (paste keys (at * k) more (c * k)) (paste ns at ms c) ≡ paste (slot_pairs k keys ns) at (slot_pairs k more ms) c
paste_pairs k at c keys more ns ms fit le long enough =
    let before : length (take (at * k) keys) ≡ length (take at ns) * k = taken_fit k at keys ns (rw fit (times_le at (length ns) k le)) le in
    let within : length (take (c * k) more) ≡ length (take c ms) * k = taken_fit k c more ms long enough in
    let both : length (take (at * k) keys ++ take (c * k) more) ≡ length (take at ns ++ take c ms) * k =
    length-append (take (at * k) keys) (take (c * k) more) ∙ rw (before, within, length-append (take at ns) (take c ms)) (omega arith) in
    let past : at * k + c * k ≡ (at + c) * k = omega arith in
    rw (
      append_pairs k (take (at * k) keys ++ take (c * k) more) (drop (at * k + c * k) keys) (take at ns ++ take c ms) (drop (at + c) ns) both,
      append_pairs k (take (at * k) keys) (take (c * k) more) (take at ns) (take c ms) before,
      take_pairs k at keys ns,
      take_pairs k c more ms,
      drop_pairs k (at + c) keys ns,
      past,
    ) refl

set_as_paste : {X : Type 0} (xs : List X) (i : ℕ) (x : X) → i < length xs → set xs i x ≡ paste xs i (x ∷ []) 1
set_as_paste xs i x lt =
    let next : i + 1 ≡ suc i = omega arith in
    rw (set_split xs i x lt, next, append_assoc) refl

-- one slot written
pub set_pairs : (k at n : ℕ) (keys bytes ns : List ℕ) → length keys ≡ length ns * k → at < length ns → length bytes ≡ k
    → slot_pairs k (paste keys (at * k) bytes k) (set ns at n) ≡ set (slot_pairs k keys ns) at (record { key = bytes; number = n })
set_pairs k at n keys bytes ns fit lt long =
    let one : 1 * k ≡ k = omega arith in
    let here : at < length (slot_pairs k keys ns) = rw (length-pairs k keys ns) lt in
    let law = paste_pairs k at 1 keys bytes ns (n ∷ []) fit (omega arith) (omega (arith, long)) (omega arith) in
    let e1 : set ns at n ≡ paste ns at (n ∷ []) 1 = set_as_paste ns at n lt in
    let e2 = set_as_paste (slot_pairs k keys ns) at (record { key = bytes; number = n }) here in
    let all : take k bytes ≡ bytes = take_all k bytes (omega (arith, long)) in
    let law1 : slot_pairs k (paste keys (at * k) bytes k) (paste ns at (n ∷ []) 1) ≡ paste (slot_pairs k keys ns) at (slot_pairs k bytes (n ∷ [])) 1 = rw one at law in
    rw (e1, e2, law1, all) refl

-- slots that nothing was put into
pub blank_pairs : (k n : ℕ) → slot_pairs k (replicate (n * k) 0) (replicate n 0) ≡ replicate n (blank k)
blank_pairs k zero = refl
blank_pairs k (suc n) =
    let z : ℕ = 0 in
    let front : take k (replicate (k + n * k) z) ≡ replicate k z = take-replicate k (k + n * k) z (omega arith) in
    let less : k + n * k - k ≡ n * k = omega arith in
    let rest : drop k (replicate (k + n * k) z) ≡ replicate (n * k) z = drop-replicate k (k + n * k) z ∙ ap (λ (m : ℕ). replicate m z) less in
    rw (step n k, front, rest, blank_pairs k n) refl

-- a slot that stands among the pairs has its bytes in the run
pub place_inside : (k at size now : ℕ) → at < now → size ≡ now * k → at * k + k ≤ size
place_inside k at size now lt fit =
    let next : (at + 1) * k ≤ now * k = times_le (at + 1) now k (omega arith) in
    omega (arith, next, fit)

pub times_minus : (i n k : ℕ) → i ≤ n → n * k - i * k ≡ (n - i) * k
times_minus i n k le =
    let e : n ≡ i + (n - i) = omega arith in
    let wide : n * k ≡ (i + (n - i)) * k = ap (λ (m : ℕ). m * k) e in
    omega (arith, wide)

-- slots copied within the runs
pub copy_pairs : (k start end dest : ℕ) (keys ns : List ℕ) → length keys ≡ length ns * k → start ≤ end → end ≤ length ns → dest + (end - start) ≤ length ns
    → slot_pairs k (paste keys (dest * k) (drop (start * k) keys) ((end - start) * k)) (copy_within ns start end dest) ≡ copy_within (slot_pairs k keys ns) start end dest
copy_pairs k start end dest keys ns fit order inside room =
    let wide : end * k ≤ length keys = rw fit (times_le end (length ns) k inside) in
    let long : (end - start) * k ≤ length (drop (start * k) keys) = omega (arith, wide, times_minus start end k order, length-drop (start * k) keys) in
    rw (drop_pairs k start keys ns) (paste_pairs k dest (end - start) keys (drop (start * k) keys) ns (drop start ns) fit (omega (arith, room)) long (omega (arith, length-drop start ns, inside)))

-- how many slots there are
pub count_is : (x : Inside) (now : Slots) → slots_view x ≡ now → length now.pairs ≡ length x.numbers.items
count_is x now e = rw (← e) (length-pairs x.key_len x.keys.items x.numbers.items)

-- a slot's bytes stand in the run
pub slot_inside : (x : Inside) (now : Slots) (at : ℕ) → slots_view x ≡ now → AreRuns x → at < length now.pairs → at * x.key_len + x.key_len ≤ length x.keys.items
slot_inside x now at e runs lt = place_inside x.key_len at (length x.keys.items) (length x.numbers.items) (omega (arith, lt, count_is x now e)) runs.fit
