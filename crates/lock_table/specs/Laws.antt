-- Stations stay out of each other's way.
use Rattle.std.proofs.Common.{◌≡◌, ◌≢◌, ◌⊎◌, inl, inr, ℕ, ◌<◌, ◌≤◌, Bool, true, false, not, cond, ◌&&◌, ◌||◌, ◌==◌, List, [], ◌∷◌, ◌++◌, map, refl, sym, ap, subst, ◌∙◌, arith}
use Rattle.std.specs.List.{filter, list_any}
use Rattle.std.proofs.lemmas.Bool.{or_parts, not-true, not_from_false}
use Rattle.std.proofs.lemmas.Bool.Decides.{nat_tests}
use Rattle.lock_table.specs.Numbers.{AreRecordNumbers, IsListed, different}
use Rattle.lock_table.specs.NumberLaws.{all_different, only_different}
use Rattle.lock_table.specs.Locks.{Lock, lock_of, in_table, free_record, free_records, free_whole, is_own, is_before, is_after, with_lock, with_locks, with_records, without, without_all, IsHeld, AreApart, bars, is_others}

pub held_append : (xs ys : List Lock) (l : Lock) → IsHeld (xs ++ ys) l → IsHeld xs l ⊎ IsHeld ys l
held_append [] ys l h = inr h
held_append (x ∷ xs) ys l (inl e) = inl (inl e)
held_append (x ∷ xs) ys l (inr h) = elim (held_append xs ys l h) [ inl i ↦ inl (inr i) | inr j ↦ inr j ]

pub held_left : (xs ys : List Lock) (l : Lock) → IsHeld xs l → IsHeld (xs ++ ys) l
held_left [] ys l h = absurd h
held_left (x ∷ xs) ys l (inl e) = inl e
held_left (x ∷ xs) ys l (inr h) = inr (held_left xs ys l h)

held_right : (xs ys : List Lock) (l : Lock) → IsHeld ys l → IsHeld (xs ++ ys) l
held_right [] ys l h = h
held_right (x ∷ xs) ys l h = inr (held_right xs ys l h)

held_cond : (p : Lock → Bool) (b : Bool) (x : Lock) (xs : List Lock) (l : Lock) → p x ≡ b → (IsHeld (filter p xs) l → IsHeld xs l) → IsHeld (cond b (x ∷ filter p xs) (filter p xs)) l → IsHeld (x ∷ xs) l
held_cond p true x xs l e next (inl i) = inl i
held_cond p true x xs l e next (inr h) = inr (next h)
held_cond p false x xs l e next h = inr (next h)

-- what a filter keeps was there
pub held_filter : (p : Lock → Bool) (xs : List Lock) (l : Lock) → IsHeld (filter p xs) l → IsHeld xs l
held_filter p [] l h = h
held_filter p (x ∷ xs) l h = held_cond p (p x) x xs l refl (held_filter p xs l) h

kept_cond : (p : Lock → Bool) (b : Bool) (x : Lock) (xs : List Lock) (l : Lock) → p x ≡ b → p l ≡ true → (IsHeld xs l → IsHeld (filter p xs) l) → IsHeld (x ∷ xs) l → IsHeld (cond b (x ∷ filter p xs) (filter p xs)) l
kept_cond p true x xs l e t next (inl i) = inl i
kept_cond p true x xs l e t next (inr h) = inr (next h)
kept_cond p false x xs l e t next (inl i) = let wrong : true ≡ false = sym t ∙ ap p i ∙ e in cc
kept_cond p false x xs l e t next (inr h) = next h

-- what passes stays
held_kept : (p : Lock → Bool) (xs : List Lock) (l : Lock) → p l ≡ true → IsHeld xs l → IsHeld (filter p xs) l
held_kept p [] l t h = h
held_kept p (x ∷ xs) l t h = kept_cond p (p x) x xs l refl t (held_kept p xs l t) h

-- what no lock passes, none of them does
none_held : (p : Lock → Bool) (xs : List Lock) (l : Lock) → list_any p xs ≡ false → IsHeld xs l → p l ≡ false
none_held p [] l e h = absurd h
none_held p (x ∷ xs) l e (inl i) = ap p i ∙ (or_parts (p x) (list_any p xs) e).0
none_held p (x ∷ xs) l e (inr h) = none_held p xs l (or_parts (p x) (list_any p xs) e).1 h

passes_cond : (p : Lock → Bool) (b : Bool) (x : Lock) (xs : List Lock) (l : Lock) → p x ≡ b → (IsHeld (filter p xs) l → p l ≡ true) → IsHeld (cond b (x ∷ filter p xs) (filter p xs)) l → p l ≡ true
passes_cond p true x xs l e next (inl i) = ap p i ∙ e
passes_cond p true x xs l e next (inr h) = next h
passes_cond p false x xs l e next h = next h

-- what a filter keeps passes its test
pub held_passes : (p : Lock → Bool) (xs : List Lock) (l : Lock) → IsHeld (filter p xs) l → p l ≡ true
held_passes p [] l h = absurd h
held_passes p (x ∷ xs) l h = passes_cond p (p x) x xs l refl (held_passes p xs l) h

-- of fewer locks
pub apart_filter : (p : Lock → Bool) (xs : List Lock) → AreApart xs → AreApart (filter p xs)
apart_filter p xs apart a b h i = apart a b (held_filter p xs a h) (held_filter p xs b i)

-- a lock that is held after a station took one is that one, or was held before
pub held_with : (xs : List Lock) (s t r : ℕ) (l : Lock) → IsHeld (with_lock xs s t r) l → (l ≡ lock_of t s r) ⊎ IsHeld xs l
held_with xs s t r l h =
    elim (held_append (filter (is_before s t) xs) (lock_of t s r ∷ filter (is_after s t) xs) l h) [
      | inl i ↦ inr (held_filter (is_before s t) xs l i)
      | inr j ↦ elim j [ inl e ↦ inl e | inr k ↦ inr (held_filter (is_after s t) xs l k) ]
    ]

-- the lock that a station took is held
pub held_new : (xs : List Lock) (s t r : ℕ) → IsHeld (with_lock xs s t r) (lock_of t s r)
held_new xs s t r = held_right (filter (is_before s t) xs) (lock_of t s r ∷ filter (is_after s t) xs) (lock_of t s r) (inl refl)

not_before : (s t : ℕ) (l : Lock) → is_own s t l ≡ true → is_before s t l ≡ true → ⊥
not_before s t l own e = grind (arith, nat_tests)

not_after : (s t : ℕ) (l : Lock) → is_own s t l ≡ true → is_after s t l ≡ true → ⊥
not_after s t l own e = grind (arith, nat_tests)

-- and it is the only one that the station has in the table
pub held_own : (xs : List Lock) (s t r : ℕ) (l : Lock) → IsHeld (with_lock xs s t r) l → is_own s t l ≡ true → l ≡ lock_of t s r
held_own xs s t r l h own =
    elim (held_append (filter (is_before s t) xs) (lock_of t s r ∷ filter (is_after s t) xs) l h) [
      | inl i ↦ absurd (not_before s t l own (held_passes (is_before s t) xs l i))
      | inr j ↦ elim j [ inl e ↦ e | inr k ↦ absurd (not_after s t l own (held_passes (is_after s t) xs l k)) ]
    ]

after_other : (s t : ℕ) (l : Lock) → is_own s t l ≡ false → is_before s t l ≡ false → is_after s t l ≡ true
after_other s t l other e = grind (arith, nat_tests)

-- the locks that aren't the station's in the table are held as before
pub held_others : (xs : List Lock) (s t r : ℕ) (l : Lock) → IsHeld xs l → is_own s t l ≡ false → IsHeld (with_lock xs s t r) l
held_others xs s t r l h other = by (is_before s t l) refl
  where
    by : (b : Bool) → is_before s t l ≡ b → IsHeld (with_lock xs s t r) l
    by true e = held_left (filter (is_before s t) xs) (lock_of t s r ∷ filter (is_after s t) xs) l (held_kept (is_before s t) xs l e h)
    by false e = held_right (filter (is_before s t) xs) (lock_of t s r ∷ filter (is_after s t) xs) l (inr (held_kept (is_after s t) xs l (after_other s t l other e) h))

apart_new : (xs : List Lock) (s t r : ℕ) → ((l : Lock) → IsHeld xs l → l.table ≡ t → l.station ≢ s → (0 < r) × (0 < l.number) × (l.number ≢ r)) → AreApart xs → AreApart (with_lock xs s t r)
apart_new xs s t r free apart a b h i =
    elim (held_with xs s t r a h) [
      | inl e ↦ elim (held_with xs s t r b i) [
        | inl f ↦ λ _ other. absurd (other (ap (λ (l : Lock). l.station) e ∙ sym (ap (λ (l : Lock). l.station) f)))
        | inr k ↦ λ same other.
            let f = free b k (sym same ∙ ap (λ (l : Lock). l.table) e) (λ g. other (ap (λ (l : Lock). l.station) e ∙ sym g)) in
            let number : a.number ≡ r = ap (λ (l : Lock). l.number) e in
            (omega arith, f.1, λ g. f.2 (sym g ∙ number))
      ]
      | inr j ↦ elim (held_with xs s t r b i) [
        | inl f ↦ λ same other.
            let g = free a j (same ∙ ap (λ (l : Lock). l.table) f) (λ k. other (k ∙ sym (ap (λ (l : Lock). l.station) f))) in
            let number : b.number ≡ r = ap (λ (l : Lock). l.number) f in
            (g.1, omega arith, λ k. g.2 (k ∙ number))
        | inr k ↦ apart a b j k
      ]
    ]

-- a lock that is left after a station released its own in a table was held before, and is none of these
pub held_without : (xs : List Lock) (s t : ℕ) (l : Lock) → IsHeld (without xs s t) l → IsHeld xs l × (is_own s t l ≡ false)
held_without xs s t l h = (held_filter (λ m. not (is_own s t m)) xs l h, not-true (is_own s t l) (held_passes (λ m. not (is_own s t m)) xs l h))

other_station : (a s : ℕ) → not (a == s) ≡ true → a ≢ s
other_station a s e = grind (arith, nat_tests)

-- a lock that is left after a station released all was held before, and is another station's
pub held_without_all : (xs : List Lock) (s : ℕ) (l : Lock) → IsHeld (without_all xs s) l → IsHeld xs l × (l.station ≢ s)
held_without_all xs s l h =
    (held_filter (is_others s) xs l h, other_station l.station s (held_passes (is_others s) xs l h))

-- and each other lock is left
pub left_without : (xs : List Lock) (s t : ℕ) (l : Lock) → IsHeld xs l → is_own s t l ≡ false → IsHeld (without xs s t) l
left_without xs s t l h other = held_kept (λ m. not (is_own s t m)) xs l (not_from_false (is_own s t l) other) h

no_station : (a s : ℕ) → a ≢ s → not (a == s) ≡ true
no_station a s other = grind (arith, nat_tests)

pub left_without_all : (xs : List Lock) (s : ℕ) (l : Lock) → IsHeld xs l → l.station ≢ s → IsHeld (without_all xs s) l
left_without_all xs s l h other = held_kept (is_others s) xs l (no_station l.station s other) h

-- of the locks that are left
pub apart_without : (xs : List Lock) (s t : ℕ) → AreApart xs → AreApart (without xs s t)
apart_without xs s t apart = apart_filter (λ l. not (is_own s t l)) xs apart

pub apart_without_all : (xs : List Lock) (s : ℕ) → AreApart xs → AreApart (without_all xs s)
apart_without_all xs s apart = apart_filter (is_others s) xs apart

free_number : (station s number r : ℕ) → station ≢ s → 1 ≤ r → (not (station == s) && (number == r || number == 0)) ≡ false → (0 < r) × (0 < number) × (number ≢ r)
free_number station s number r other h e = (omega arith, grind (arith, nat_tests), grind (arith, nat_tests))

free_station : (station s : ℕ) → station ≢ s → not (station == s) ≡ false → ⊥
free_station station s other e = grind (arith, nat_tests)

same_table : (a t : ℕ) → a ≡ t → (a == t) ≡ true
same_table a t e = grind (arith, nat_tests)

-- a free record is locked
pub apart_record : (xs : List Lock) (s t r : ℕ) → 1 ≤ r → free_record xs s t r ≡ true → AreApart xs → AreApart (with_lock xs s t r)
apart_record xs s t r h free apart = apart_new xs s t r
    (λ l held same other.
    let p : Lock → Bool = bars s r in
    let there : IsHeld (in_table xs t) l = held_kept (λ m. m.table == t) xs l (same_table l.table t same) held in
    free_number l.station s l.number r other h (none_held p (in_table xs t) l (not-true (list_any p (in_table xs t)) free) there))
    apart

-- a table in which no other station has a lock is locked
pub apart_whole : (xs : List Lock) (s t : ℕ) → free_whole xs s t ≡ true → AreApart xs → AreApart (with_lock xs s t 0)
apart_whole xs s t free apart = apart_new xs s t 0
    (λ l held same other.
    let p : Lock → Bool = is_others s in
    let there : IsHeld (in_table xs t) l = held_kept (λ m. m.table == t) xs l (same_table l.table t same) held in
    absurd (free_station l.station s other (none_held p (in_table xs t) l (not-true (list_any p (in_table xs t)) free) there)))
    apart

-- a lock on a record of a list is on one that is listed
pub held_listed : (s t : ℕ) (ns : List ℕ) (l : Lock) → IsHeld (map (lock_of t s) ns) l → (n : ℕ) × IsListed ns n × (l ≡ lock_of t s n)
held_listed s t [] l h = absurd h
held_listed s t (n ∷ ns) l (inl e) = (n, inl refl, e)
held_listed s t (n ∷ ns) l (inr h) = let i = held_listed s t ns l h in (i.0, inr i.1, i.2)

-- and each listed one has its lock
pub listed_held : (s t : ℕ) (ns : List ℕ) (n : ℕ) → IsListed ns n → IsHeld (map (lock_of t s) ns) (lock_of t s n)
listed_held s t [] n h = absurd h
listed_held s t (m ∷ ms) n (inl e) = inl (ap (lock_of t s) e)
listed_held s t (m ∷ ms) n (inr h) = inr (listed_held s t ms n h)

-- a lock that is held after a station took records is on one of them, or was held before
pub held_with_many : (xs : List Lock) (s t : ℕ) (ns : List ℕ) (l : Lock) → IsHeld (with_locks xs s t ns) l → IsHeld (map (lock_of t s) ns) l ⊎ IsHeld xs l
held_with_many xs s t ns l h =
    elim (held_append (filter (is_before s t) xs) (map (lock_of t s) ns ++ filter (is_after s t) xs) l h) [
      | inl i ↦ inr (held_filter (is_before s t) xs l i)
      | inr j ↦ elim (held_append (map (lock_of t s) ns) (filter (is_after s t) xs) l j) [ inl e ↦ inl e | inr k ↦ inr (held_filter (is_after s t) xs l k) ]
    ]

-- the locks that a station took over a list are held
pub listed_is_held : (xs : List Lock) (s t : ℕ) (ns : List ℕ) (n : ℕ) → IsListed ns n → IsHeld (with_records xs s t ns) (lock_of t s n)
listed_is_held xs s t ns n h =
    held_right (filter (is_before s t) xs) (map (lock_of t s) (different ns) ++ filter (is_after s t) xs) (lock_of t s n)
    (held_left (map (lock_of t s) (different ns)) (filter (is_after s t) xs) (lock_of t s n) (listed_held s t (different ns) n (all_different ns n h)))

-- a lock on one of the different records is on one that is listed
held_different : (s t : ℕ) (ns : List ℕ) (l : Lock) → IsHeld (map (lock_of t s) (different ns)) l → (n : ℕ) × IsListed ns n × (l ≡ lock_of t s n)
held_different s t ns l h = let i = held_listed s t (different ns) l h in (i.0, only_different ns i.0 i.1, i.2)

-- and they are the only ones that the station has in the table
pub own_is_listed : (xs : List Lock) (s t : ℕ) (ns : List ℕ) (l : Lock) → IsHeld (with_records xs s t ns) l → is_own s t l ≡ true → (n : ℕ) × IsListed ns n × (l ≡ lock_of t s n)
own_is_listed xs s t ns l h own =
    elim (held_append (filter (is_before s t) xs) (map (lock_of t s) (different ns) ++ filter (is_after s t) xs) l h) [
      | inl i ↦ absurd (not_before s t l own (held_passes (is_before s t) xs l i))
      | inr j ↦ elim (held_append (map (lock_of t s) (different ns)) (filter (is_after s t) xs) l j) [
        | inl e ↦ held_different s t ns l e
        | inr k ↦ absurd (not_after s t l own (held_passes (is_after s t) xs l k))
      ]
    ]

-- each lock after a station took records is on a listed one, or was held before
pub listed_or_held : (xs : List Lock) (s t : ℕ) (ns : List ℕ) (l : Lock) → IsHeld (with_records xs s t ns) l → ((n : ℕ) × IsListed ns n × (l ≡ lock_of t s n)) ⊎ IsHeld xs l
listed_or_held xs s t ns l h = elim (held_with_many xs s t (different ns) l h) [ inl i ↦ inl (held_different s t ns l i) | inr j ↦ inr j ]

-- the locks that aren't the station's in the table are held as before
pub others_with_records : (xs : List Lock) (s t : ℕ) (ns : List ℕ) (l : Lock) → IsHeld xs l → is_own s t l ≡ false → IsHeld (with_records xs s t ns) l
others_with_records xs s t ns l h other = by (is_before s t l) refl
  where
    by : (b : Bool) → is_before s t l ≡ b → IsHeld (with_records xs s t ns) l
    by true e = held_left (filter (is_before s t) xs) (map (lock_of t s) (different ns) ++ filter (is_after s t) xs) l (held_kept (is_before s t) xs l e h)
    by false e =
        held_right (filter (is_before s t) xs) (map (lock_of t s) (different ns) ++ filter (is_after s t) xs) l
        (held_right (map (lock_of t s) (different ns)) (filter (is_after s t) xs) l (held_kept (is_after s t) xs l (after_other s t l other e) h))

-- a free record and another station's lock in the table
free_beside : (xs : List Lock) (s t n : ℕ) (l : Lock) → 1 ≤ n → free_record xs s t n ≡ true → IsHeld xs l → l.table ≡ t → l.station ≢ s → (0 < n) × (0 < l.number) × (l.number ≢ n)
free_beside xs s t n l h free held same other =
    let p : Lock → Bool = bars s n in
    let there : IsHeld (in_table xs t) l = held_kept (λ m. m.table == t) xs l (same_table l.table t same) held in
    free_number l.station s l.number n other h (none_held p (in_table xs t) l (not-true (list_any p (in_table xs t)) free) there)

both_true : (a b : Bool) → (a && b) ≡ true → (a ≡ true) × (b ≡ true)
both_true true b e = (refl, e)
both_true false b e = let wrong : false ≡ true = e in cc

-- each of free records is free, and one
free_listed : (xs : List Lock) (s t : ℕ) (ns : List ℕ) (n : ℕ) → AreRecordNumbers ns → free_records xs s t ns ≡ true → IsListed ns n → (1 ≤ n) × (free_record xs s t n ≡ true)
free_listed xs s t [] n are e h = absurd h
free_listed xs s t (m ∷ ms) n are e (inl i) =
    let P : ℕ → Type 0 = λ k. (1 ≤ k) × (free_record xs s t k ≡ true) in
    subst P (sym i) (are.0, (both_true (free_record xs s t m) (free_records xs s t ms) e).0)
free_listed xs s t (m ∷ ms) n are e (inr h) = free_listed xs s t ms n are.1 (both_true (free_record xs s t m) (free_records xs s t ms) e).1 h

-- a lock on a listed record and one that was held before
listed_apart : (xs : List Lock) (s t : ℕ) (ns : List ℕ) (a b : Lock) → AreRecordNumbers ns → free_records xs s t ns ≡ true → (n : ℕ) × IsListed ns n × (a ≡ lock_of t s n) → IsHeld xs b
    → a.table ≡ b.table → a.station ≢ b.station → (0 < a.number) × (0 < b.number) × (a.number ≢ b.number)
listed_apart xs s t ns a b are free i held same other =
    let ok = free_listed xs s t ns i.0 are free i.1 in
    let table : a.table ≡ t = ap (λ (l : Lock). l.table) i.2 in
    let station : a.station ≡ s = ap (λ (l : Lock). l.station) i.2 in
    let number : a.number ≡ i.0 = ap (λ (l : Lock). l.number) i.2 in
    let beside = free_beside xs s t i.0 b ok.0 ok.1 held (sym same ∙ table) (λ e. other (station ∙ sym e)) in
    (omega (arith, beside.0), beside.1, λ e. beside.2 (sym e ∙ number))

-- a list of free records is locked
pub apart_records : (xs : List Lock) (s t : ℕ) (ns : List ℕ) → AreRecordNumbers ns → free_records xs s t ns ≡ true → AreApart xs → AreApart (with_records xs s t ns)
apart_records xs s t ns are free apart a b h i =
    elim (listed_or_held xs s t ns a h) [
      | inl j ↦ elim (listed_or_held xs s t ns b i) [
        | inl k ↦ λ _ other. absurd (other (ap (λ (l : Lock). l.station) j.2 ∙ sym (ap (λ (l : Lock). l.station) k.2)))
        | inr k ↦ listed_apart xs s t ns a b are free j k
      ]
      | inr j ↦ elim (listed_or_held xs s t ns b i) [
        | inl k ↦ λ same other.
            let g = listed_apart xs s t ns b a are free k j (sym same) (λ e. other (sym e)) in
            (g.1, g.0, λ e. g.2 (sym e))
        | inr k ↦ apart a b j k
      ]
    ]
