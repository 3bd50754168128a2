-- No more records are locked in a table than there are record numbers, since no two stations lock one.
use Rattle.std.proofs.Common.{◌≡◌, ◌≢◌, inl, inr, ℕ, ◌+◌, ◌<◌, ◌≤◌, Bool, true, false, cond, ◌&&◌, ◌||◌, ◌==◌, eqb, nat_lt, List, [], ◌∷◌, ◌++◌, length, map, take, drop, get_or, refl, sym, ap, subst, ◌∙◌, arith}
use Rattle.std.specs.List.{filter, list_any, IsDistinct, AllByRecursion}
use Rattle.std.proofs.lemmas.Bool.Decides.{nat_tests}
use Rattle.std.proofs.lemmas.List.{length-map}
use Rattle.std.proofs.lemmas.Map.Keys.{IsDistinct-cons}
use Rattle.std.proofs.lemmas.Map.Steps.{length-le_from_distinct_below}
use Rattle.lock_table.specs.Numbers.{AreAtMost}
use Rattle.lock_table.specs.Locks.{Lock, lock_of, in_table, is_earlier, IsHeld, IsApart, AreApart, AreLocksInOrder}
use Rattle.lock_table.specs.Laws.{held_append, held_left, held_filter, held_passes, apart_filter, held_listed}
use Rattle.lock_table.specs.Slots.{row_from}
use Rattle.lock_table.proofs.Rows.{rowed, rowed_more, rowed_rest}

order_cond : (p : Lock → Bool) (b : Bool) (x : Lock) (xs : List Lock) → AreLocksInOrder (x ∷ xs) → AreLocksInOrder (filter p xs) → AreLocksInOrder (cond b (x ∷ filter p xs) (filter p xs))
order_cond p true x xs order next = (λ m h. order.0 m (held_filter p xs m h), next)
order_cond p false x xs order next = next

order_filter : (p : Lock → Bool) (xs : List Lock) → AreLocksInOrder xs → AreLocksInOrder (filter p xs)
order_filter p [] order = tt
order_filter p (x ∷ xs) order = order_cond p (p x) x xs order (order_filter p xs order.1)

order_front : (xs ys : List Lock) → AreLocksInOrder (xs ++ ys) → AreLocksInOrder xs
order_front [] ys order = tt
order_front (x ∷ xs) ys order = (λ m h. order.0 m (held_left xs ys m h), order_front xs ys order.1)

later_station : (t u s k n o : ℕ) → t ≡ u → n ≡ o → ((nat_lt t u || (t == u && nat_lt s k)) || ((t == u && s == k) && nat_lt n o)) ≡ true → s < k
later_station t u s k n o e f h = grind (arith, nat_tests)

-- two locks in a table are on different records
differ : (l m : Lock) → IsApart l m → is_earlier l m ≡ true → l.table ≡ m.table → l.number ≢ m.number
differ l m apart earlier same e =
    let less : l.station < m.station = later_station l.table m.table l.station m.station l.number m.number same e earlier in
    (apart same (omega arith)).2 e

abbrev numbers_of : List Lock → List ℕ
numbers_of locks = map (λ (l : Lock). l.number) locks

each_number : (P : ℕ → Type 0) (ls : List Lock) → ((m : Lock) → IsHeld ls m → P m.number) → AllByRecursion P (numbers_of ls)
each_number P [] h = tt
each_number P (l ∷ ls) h = (h l (inl refl), each_number P ls (λ m i. h m (inr i)))

unequal : (a b : ℕ) → a ≢ b → eqb a b ≡ false
unequal a b h = grind (arith, nat_tests)

none_distinct : IsDistinct eqb []
unfolding IsDistinct
none_distinct = tt

distinct : (t : ℕ) (ls : List Lock) → AreLocksInOrder ls → AreApart ls → ((m : Lock) → IsHeld ls m → m.table ≡ t) → IsDistinct eqb (numbers_of ls)
distinct t [] order apart inside = none_distinct
distinct t (l ∷ ls) order apart inside =
    IsDistinct-cons eqb l.number (numbers_of ls)
    (each_number (λ n. eqb l.number n ≡ false) ls
    (λ m h. unequal l.number m.number (differ l m (apart l m (inl refl) (inr h)) (order.0 m h) (inside l (inl refl) ∙ sym (inside m (inr h))))))
    (distinct t ls order.1 (λ a b h i. apart a b (inr h) (inr i)) (λ m h. inside m (inr h)))

below_cond : (q n most : ℕ) (b rest : Bool) → eqb q n ≡ b → n ≤ most → (rest ≡ true → q ≤ most) → (b || rest) ≡ true → q ≤ most
below_cond q n most true rest e h next is = let same : q ≡ n = grind (arith, nat_tests) in omega arith
below_cond q n most false rest e h next is = next is

below_any : (q most : ℕ) (ls : List Lock) → ((m : Lock) → IsHeld ls m → m.number ≤ most) → list_any (eqb q) (numbers_of ls) ≡ true → q ≤ most
below_any q most [] all e = let wrong : false ≡ true = e in cc
below_any q most (m ∷ ms) all e =
    below_cond q m.number most (eqb q m.number) (list_any (eqb q) (numbers_of ms)) refl (all m (inl refl)) (below_any q most ms (λ l h. all l (inr h))) e

above_zero : (n : ℕ) → nat_lt 0 n ≡ true → 0 ≢ n
above_zero n h = grind (arith, nat_tests)

-- locks on records of one table are no more than the greatest number
few_records : (t most : ℕ) (ls : List Lock) → AreLocksInOrder ls → AreApart ls → ((m : Lock) → IsHeld ls m → m.table ≡ t) → ((m : Lock) → IsHeld ls m → m.number ≤ most)
    → length (filter (λ l. nat_lt 0 l.number) ls) ≤ most
few_records t most ls order apart inside all =
    let p : Lock → Bool = λ l. nat_lt 0 l.number in
    let ks = filter p ls in
    let here : (m : Lock) → IsHeld ks m → m.number ≤ most = λ m h. all m (held_filter p ls m h) in
    let different : IsDistinct eqb (0 ∷ numbers_of ks) =
    IsDistinct-cons eqb 0 (numbers_of ks)
    (each_number (λ n. eqb 0 n ≡ false) ks (λ m h. unequal 0 m.number (above_zero m.number (held_passes p ls m h))))
    (distinct t ks (order_filter p ls order) (apart_filter p ls apart) (λ m h. inside m (held_filter p ls m h))) in
    let many : length (0 ∷ numbers_of ks) ≤ most + 1 =
    length-le_from_distinct_below (0 ∷ numbers_of ks) (most + 1) different
    (λ q e. let le : q ≤ most = below_cond q 0 most (eqb q 0) (list_any (eqb q) (numbers_of ks)) refl (omega arith) (below_any q most ks here) e in omega arith) in
    omega (arith, many, length-map ks (λ (l : Lock). l.number))

table_is : (a t : ℕ) → (a == t) ≡ true → a ≡ t
table_is a t e = grind (arith, nat_tests)

-- the locks of a row's first slots
pub few_rowed : (locks : List Lock) (t most i : ℕ) (row : List (List ℕ)) → AreApart locks → AreLocksInOrder locks → in_table locks t ≡ row_from t 1 row → ((m : Lock) → IsHeld (rowed t row i) m → m.number ≤ most)
    → length (filter (λ l. nat_lt 0 l.number) (rowed t row i)) ≤ most
few_rowed locks t most i row apart order is all =
    let p : Lock → Bool = λ l. l.table == t in
    let rest = row_from t (1 + length (take i row)) (drop i row) in
    let parts : in_table locks t ≡ rowed t row i ++ rest = is ∙ rowed_rest t row i in
    let P : Lock → List Lock → Type 0 = λ m ls. IsHeld ls m in
    let there : (m : Lock) → IsHeld (rowed t row i) m → IsHeld (in_table locks t) m = λ m h. subst (P m) (sym parts) (held_left (rowed t row i) rest m h) in
    let Q : List Lock → Type 0 = AreLocksInOrder in
    few_records t most (rowed t row i) (order_front (rowed t row i) rest (subst Q parts (order_filter p locks order)))
    (λ a b h j. apart a b (held_filter p locks a (there a h)) (held_filter p locks b (there b j)))
    (λ m h. table_is m.table t (held_passes p locks m (there m h)))
    all

-- one slot more
pub small_more : (t most i : ℕ) (row : List (List ℕ)) → i < length row → ((m : Lock) → IsHeld (rowed t row i) m → m.number ≤ most) → AreAtMost most (get_or row i [])
    → (m : Lock) → IsHeld (rowed t row (i + 1)) m → m.number ≤ most
small_more t most i row h all small m held =
    let P : List Lock → Type 0 = λ ls. IsHeld ls m in
    elim (held_append (rowed t row i) (map (lock_of t (i + 1)) (get_or row i [])) m (subst P (rowed_more t row i h) held)) [
      | inl j ↦ all m j
      | inr j ↦
          let k = held_listed (i + 1) t (get_or row i []) m j in
          let same : m.number ≡ k.0 = ap (λ (l : Lock). l.number) k.2 in
          omega (arith, small k.0 k.1)
    ]
