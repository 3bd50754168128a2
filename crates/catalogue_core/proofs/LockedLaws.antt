-- What a station has locked stays as it is in the steps of all others.
use Rattle.std.proofs.Common.{◌≡◌, ◌≢◌, ◌⊎◌, inl, inr, ℕ, ◌-◌, ◌≤◌, Bool, true, false, cond, ◌&&◌, ◌||◌, ◌==◌, List, [], ◌∷◌, Some, refl, sym, ap, ◌∙◌, arith}
use Rattle.std.specs.List.{filter, find, list_any}
use Rattle.std.proofs.lemmas.Bool.{cases_eq}
use Rattle.std.proofs.lemmas.Bool.Decides.{nat_tests}
use Rattle.lock_table.specs.Locks.{Lock, lock_of, in_table, lets_write, may_write, holder, station_of, IsHeld, AreApart}
use Rattle.lock_table.specs.Laws.{held_filter, held_passes}
use Rattle.catalogue_core.specs.declared.area.Area.{Area}
use Rattle.catalogue_core.specs.State.{State, area_of, area_at, IsOpenAt, HasStation, IsState}
use Rattle.catalogue_core.specs.Stays.{HasRecordLocked, HasTableLocked}
use Rattle.catalogue_core.specs.Step.{can_write, can_append}
use Rattle.catalogue_core.proofs.AreaLaws.{current_index}
use Rattle.catalogue_core.proofs.KeptLaws.{true_false}

-- ---- a lock that is held

-- one of the locks passes a test
pub some_held : (p : Lock → Bool) (ls : List Lock) → list_any p ls ≡ true → (l : Lock) × IsHeld ls l × (p l ≡ true)
some_held p [] e = absurd (true_false (sym e))
some_held p (x ∷ xs) e = by (p x) refl e (λ f. some_held p xs f)
  where
    by : (b : Bool) → p x ≡ b → (b || list_any p xs) ≡ true → (list_any p xs ≡ true → (l : Lock) × IsHeld xs l × (p l ≡ true)) → (l : Lock) × IsHeld (x ∷ xs) l × (p l ≡ true)
    by true is _ next = (x, inl refl, is)
    by false is f next = let rest = next f in (rest.0, inr rest.1, rest.2)

-- the station's own lock, which is on the record or on the whole table
record IsOwnLock (locks : List Lock) (station table number : ℕ) : Type 0 where
  lock : Lock
  held : IsHeld locks lock
  table_is : lock.table ≡ table
  station_is : lock.station ≡ station
  covers : (lock.number ≡ number) ⊎ (lock.number ≡ 0)

same_number : (a b : ℕ) → (a == b) ≡ true → a ≡ b
same_number a b e = grind (arith, nat_tests)

covered : (a n : ℕ) → (a == n || a == 0) ≡ true → (a ≡ n) ⊎ (a ≡ 0)
covered a n e = by (a == n) refl e
  where
    by : (b : Bool) → (a == n) ≡ b → (b || a == 0) ≡ true → (a ≡ n) ⊎ (a ≡ 0)
    by true is _ = inl (same_number a n is)
    by false _ f = inr (same_number a 0 f)

both_hold : (a b : Bool) → (a && b) ≡ true → (a ≡ true) × (b ≡ true)
both_hold true b e = (refl, e)
both_hold false b e = absurd (true_false (sym e))

own_lock : (locks : List Lock) (station table number : ℕ) → may_write locks station table number ≡ true → IsOwnLock locks station table number
own_lock locks station table number e =
    let p : Lock → Bool = lets_write station number in
    let one = some_held p (in_table locks table) e in
    let parts = both_hold (one.0.station == station) (one.0.number == number || one.0.number == 0) one.2 in
    record {
      lock = one.0;
      held = held_filter (λ (l : Lock). l.table == table) locks one.0 one.1;
      table_is = same_number one.0.table table (held_passes (λ (l : Lock). l.table == table) locks one.0 one.1);
      station_is = same_number one.0.station station parts.0;
      covers = covered one.0.number number parts.1;
    }

-- of two stations one alone has locked a record
not_both : (locks : List Lock) (station other table number : ℕ) → AreApart locks → other ≢ station → IsHeld locks (lock_of table station number) ⊎ IsHeld locks (lock_of table station 0)
    → IsOwnLock locks other table number → ⊥
not_both locks station other table number apart differ (inl held) own =
    let parts = apart own.lock (lock_of table station number) own.held held own.table_is (λ e. differ (sym own.station_is ∙ e)) in
    elim own.covers [ inl e ↦ parts.2 e | inr z ↦ omega (arith, parts.0, z) ]
not_both locks station other table number apart differ (inr held) own =
    let parts = apart own.lock (lock_of table station 0) own.held held own.table_is (λ e. differ (sym own.station_is ∙ e)) in
    omega (arith, parts.1)

-- ---- what the other station may not do

-- a station with a lock in a table has it open
pub locked_open : (s : State) (station table number : ℕ) → IsState s → HasRecordLocked s station table number → (1 ≤ station) × IsOpenAt s station table
locked_open s station table number ok (inl held) = ok.open_ (lock_of table station number) held
locked_open s station table number ok (inr held) = ok.open_ (lock_of table station 0) held

-- so no other has it open exclusively
pub no_exclusive : (s : State) (other station table number k : ℕ) (area : Area) → IsState s → HasStation s other → other ≢ station → HasRecordLocked s station table number
    → area_at s (other - 1) k ≡ Some area → area.table ≡ table → area.exclusive ≡ false
no_exclusive s other station table number k area ok has differ locked is same =
    let open_here = locked_open s station table number ok locked in
    let apart : other - 1 ≢ station - 1 = λ e. differ (omega (arith, e, has.counted, open_here.0)) in
    ok.alone (other - 1) (station - 1) k open_here.1.0 area open_here.1.1 apart is open_here.1.2 (same ∙ sym open_here.1.3)

-- and no other may write the record
pub cannot_write : (s : State) (other station table number : ℕ) (area : Area) → IsState s → HasStation s other → other ≢ station → HasRecordLocked s station table number
    → area_of s other ≡ Some area → area.table ≡ table → can_write s other area number ≡ true → ⊥
cannot_write s other station table number area ok has differ locked is same may =
    let shared = no_exclusive s other station table number (current_index s other) area ok has differ locked is same in
    let own : may_write s.locks.locks other area.table number ≡ true = sym (ap (λ (b : Bool). b || may_write s.locks.locks other area.table number) shared) ∙ may in
    not_both s.locks.locks station other table number ok.apart differ locked (own_lock s.locks.locks other table number (sym (ap (λ (t : ℕ). may_write s.locks.locks other t number) same) ∙ own))

kept_by : (p : Lock → Bool) (b : Bool) (x : Lock) (xs : List Lock) (l : Lock) → p x ≡ b → p l ≡ true → (IsHeld xs l → IsHeld (filter p xs) l) → IsHeld (x ∷ xs) l → IsHeld (cond b (x ∷ filter p xs) (filter p xs)) l
kept_by p true x xs l e t next (inl i) = inl i
kept_by p true x xs l e t next (inr h) = inr (next h)
kept_by p false x xs l e t next (inl i) = absurd (true_false (sym t ∙ ap p i ∙ e))
kept_by p false x xs l e t next (inr h) = next h

-- a lock that passes a test is among those that do
held_kept : (p : Lock → Bool) (xs : List Lock) (l : Lock) → p l ≡ true → IsHeld xs l → IsHeld (filter p xs) l
held_kept p [] l t h = h
held_kept p (x ∷ xs) l t h = kept_by p (p x) x xs l refl t (held_kept p xs l t) h

-- the first lock to pass a test, where one does
found_first : (p : Lock → Bool) (ls : List Lock) (l : Lock) → IsHeld ls l → p l ≡ true → (m : Lock) × (find p ls ≡ Some m) × IsHeld ls m × (p m ≡ true)
found_first p [] l h e = absurd h
found_first p (x ∷ xs) l h e = by (p x) refl h (λ rest. found_first p xs l rest e)
  where
    by : (b : Bool) → p x ≡ b → IsHeld (x ∷ xs) l → (IsHeld xs l → (m : Lock) × (find p xs ≡ Some m) × IsHeld xs m × (p m ≡ true)) → (m : Lock) × (find p (x ∷ xs) ≡ Some m) × IsHeld (x ∷ xs) m × (p m ≡ true)
    by true is _ next = (x, rw is refl, inl refl, is)
    by false is (inl same) next = absurd (true_false (sym e ∙ ap p same ∙ is))
    by false is (inr rest) next = let one = next rest in (one.0, rw is one.1, inr one.2, one.3)

is_same : (a b : ℕ) → a ≡ b → (a == b) ≡ true
is_same a b e = grind (arith, nat_tests)

-- the station that has locked the whole table is its holder
holder_of : (locks : List Lock) (station table : ℕ) → AreApart locks → IsHeld locks (lock_of table station 0) → holder locks table 0 ≡ station
holder_of locks station table apart held =
    let p : Lock → Bool = λ l. l.table == table in
    let q : Lock → Bool = λ l. l.number == 0 in
    let there : IsHeld (in_table locks table) (lock_of table station 0) = held_kept p locks (lock_of table station 0) (is_same table table refl) held in
    let one = found_first q (in_table locks table) (lock_of table station 0) there refl in
    let was : IsHeld locks one.0 = held_filter p locks one.0 one.2 in
    let in_it : one.0.table ≡ table = same_number one.0.table table (held_passes p locks one.0 one.2) in
    elim (cases_eq one.0.station station) [
      | inl same ↦ ap station_of one.1 ∙ same
      | inr differ ↦ let parts = apart one.0 (lock_of table station 0) was held in_it differ in absurd (omega (arith, parts.1))
    ]

no_holder : (h station other : ℕ) → 1 ≤ station → other ≢ station → h ≡ station → (h == 0 || h == other) ≡ true → ⊥
no_holder h station other counted differ e f = grind (arith, nat_tests)

-- no other may append to a table that a station has locked
pub cannot_append : (s : State) (other station table : ℕ) (area : Area) → IsState s → other ≢ station → HasTableLocked s station table → area.table ≡ table → can_append s other area ≡ true → ⊥
cannot_append s other station table area ok differ held same may =
    let one : 1 ≤ station = (ok.open_ (lock_of table station 0) held).0 in
    no_holder (holder s.locks.locks area.table 0) station other one differ (ap (λ (t : ℕ). holder s.locks.locks t 0) same ∙ holder_of s.locks.locks station table ok.apart held) may
