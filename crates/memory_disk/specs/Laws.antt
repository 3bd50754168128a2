-- That the model of a disk holds of these outcomes.
use Rattle.std.proofs.Common.{◌≡◌, ◌≢◌, inl, inr, ⊎_elim, ◌⊎◌, ℕ, ◌+◌, ◌≤◌, List, [], ◌∷◌, ◌++◌, length, take, drop, Bool, true, false, Option, None, Some, option_map, cond, refl, sym, ◌∙◌, ap, subst, arith, ◌-◌, append_assoc, length-append, length-take, length-drop}
use Rattle.std.specs.Prelude.{nat_le}
use Rattle.std.proofs.lemmas.Bool.{cases_Bool, both_ways, cond-true, cond-false, leb-true}
use Rattle.std.proofs.lemmas.List.{take_at}
use Rattle.std.proofs.lemmas.Slice.{drop-append-drop}
use Rattle.std.proofs.lemmas.Slice.Eq.{bytes_eq-Decides}
use Rattle.std.specs.Str.{bytes_eq}
use Rattle.files_in_place.specs.Folder.{Name, Folder, SameBut}
use Rattle.files_in_place.specs.Disk.{MayMove, HasMoved, SameButTwo, DiskMeaning, Elapses}
use Rattle.disk_in_place.specs.InPlace.{written_over, IsTorn, MayTear}
use Rattle.memory_disk.specs.declared.disk_call.DiskCall.{DiskCall}
use Rattle.memory_disk.specs.declared.disk_call.DiskCall.TheVariants.{Create, Append, SyncFile, Rename, Remove, SyncFolder, WriteAt, SyncInPlace}
use Rattle.memory_disk.specs.Seen.{DiskHistory, with_over, seen_after}
use Rattle.memory_disk.specs.Outcomes.{IsWhole, IsCreated, MayLeave, MightHaveLeft}

pub eq_same : (a b : Name) → a ≡ b → bytes_eq a b ≡ true
eq_same a b same = (bytes_eq-Decides a b).1 same

pub eq_other : (a b : Name) → a ≢ b → bytes_eq a b ≡ false
eq_other a b other = elim (cases_Bool (bytes_eq a b)) [
  | inl same ↦ absurd (other ((bytes_eq-Decides a b).0 same))
  | inr apart ↦ apart
]

pub same_or_other : (a b : Name) → (a ≡ b) ⊎ (a ≢ b)
same_or_other a b = elim (cases_Bool (bytes_eq a b)) [
  | inl same ↦ inl ((bytes_eq-Decides a b).0 same)
  | inr apart ↦ inr (λ same. both_ways (bytes_eq a b) apart (eq_same a b same))
]

-- what a call shows at the names that it doesn't touch
pub created_other : (name : Name) (before : List DiskCall) → SameBut name (seen_after before) (seen_after (Create name ∷ before))
created_other name before n other = cond-false (bytes_eq name n) (Some []) (seen_after before n) (eq_other name n (λ same. other (sym same)))

pub created : (name : Name) (before : List DiskCall) → seen_after (Create name ∷ before) name ≡ Some []
created name before = cond-true (bytes_eq name name) (Some []) (seen_after before name) (eq_same name name refl)

abbrev longer_by : List ℕ → Option (List ℕ) → Option (List ℕ)
longer_by bytes content = option_map (λ was. was ++ bytes) content

pub appended_other : (name : Name) (bytes : List ℕ) (before : List DiskCall) → SameBut name (seen_after before) (seen_after (Append name bytes ∷ before))
appended_other name bytes before n other = cond-false (bytes_eq name n) (longer_by bytes (seen_after before n)) (seen_after before n) (eq_other name n (λ same. other (sym same)))

pub appended : (name : Name) (bytes : List ℕ) (before : List DiskCall) → seen_after (Append name bytes ∷ before) name ≡ option_map (λ content. content ++ bytes) (seen_after before name)
appended name bytes before = cond-true (bytes_eq name name) (longer_by bytes (seen_after before name)) (seen_after before name) (eq_same name name refl)

pub removed_other : (name : Name) (before : List DiskCall) → SameBut name (seen_after before) (seen_after (Remove name ∷ before))
removed_other name before n other = cond-false (bytes_eq name n) None (seen_after before n) (eq_other name n (λ same. other (sym same)))

pub removed : (name : Name) (before : List DiskCall) → seen_after (Remove name ∷ before) name ≡ None
removed name before = cond-true (bytes_eq name name) None (seen_after before name) (eq_same name name refl)

-- what a rename shows, by whether the name is the new one or the old one
abbrev moved_by : Bool → Bool → Option (List ℕ) → Option (List ℕ) → Option (List ℕ)
moved_by is_to is_from from_content content = cond is_to from_content (cond is_from None content)

pub moved_to : (from to : Name) (before : List DiskCall) → seen_after (Rename from to ∷ before) to ≡ seen_after before from
moved_to from to before = ap (λ (b : Bool). moved_by b (bytes_eq from to) (seen_after before from) (seen_after before to)) (eq_same to to refl)

pub moved_from : (from to : Name) (before : List DiskCall) → from ≢ to → seen_after (Rename from to ∷ before) from ≡ None
moved_from from to before other =
    ap (λ (b : Bool). moved_by b (bytes_eq from from) (seen_after before from) (seen_after before from)) (eq_other to from (λ same. other (sym same)))
    ∙ ap (λ (b : Bool). moved_by false b (seen_after before from) (seen_after before from)) (eq_same from from refl)

pub moved_other : (from to : Name) (before : List DiskCall) → SameButTwo from to (seen_after before) (seen_after (Rename from to ∷ before))
moved_other from to before n not_from not_to =
    ap (λ (b : Bool). moved_by b (bytes_eq from n) (seen_after before from) (seen_after before n)) (eq_other to n (λ same. not_to (sym same)))
    ∙ ap (λ (b : Bool). moved_by false b (seen_after before from) (seen_after before n)) (eq_other from n (λ same. not_from (sym same)))

pub has_moved : (from to : Name) (before : List DiskCall) → from ≢ to → HasMoved from to (seen_after before) (seen_after (Rename from to ∷ before))
has_moved from to before other = record { there = moved_to from to before; gone = moved_from from to before other }

may_move : (from to : Name) (before : List DiskCall) → MayMove from to (seen_after before) (seen_after (Rename from to ∷ before))
may_move from to before = elim (same_or_other from to) [
  | inr other ↦ record { either = inr (moved_to from to before, inr (moved_from from to before other)); elsewhere = moved_other from to before }
  | inl same ↦ record {
    either = inr (moved_to from to before, inl (ap (seen_after (Rename from to ∷ before)) same ∙ moved_to from to before));
    elsewhere = moved_other from to before;
  }
]

-- bytes that are written over change no byte outside of their range
written_is_torn : (offset n : ℕ) (bytes old : List ℕ) → length bytes ≤ n → offset ≤ length old → IsTorn offset n old (written_over offset bytes old)
written_is_torn offset n bytes old no_more fits =
    let front : length (take offset old) ≡ offset = omega (arith, length-take offset old) in
    let whole : length (written_over offset bytes old) ≡ offset + (length bytes + (length old - (offset + length bytes))) =
    omega (arith, length-append (take offset old) (bytes ++ drop (offset + length bytes) old), length-append bytes (drop (offset + length bytes) old), length-drop (offset + length bytes) old, front) in
    record {
      before = take_at (take offset old) (bytes ++ drop (offset + length bytes) old) offset front;
      after = ap (drop (offset + n)) (sym (append_assoc (take offset old) bytes (drop (offset + length bytes) old)))
          ∙ drop-append-drop (offset + length bytes) old (take offset old ++ bytes) (offset + n) (omega arith) (omega (arith, length-append (take offset old) bytes, front));
      no_shorter = omega arith;
      no_longer = omega arith;
    }

-- a file that is written over, by no more bytes than these
pub over_is_torn : (offset n : ℕ) (bytes old : List ℕ) → length bytes ≤ n → IsTorn offset n old (with_over offset bytes old)
over_is_torn offset n bytes old no_more = elim (cases_Bool (nat_le offset (length old))) [
  | inl fits ↦ rw fits (written_is_torn offset n bytes old no_more (leb-true offset (length old) fits))
  | inr short ↦ rw short (record { before = refl; after = refl; no_shorter = omega arith; no_longer = omega arith })
]

pub written_other : (name : Name) (offset : ℕ) (bytes : List ℕ) (before : List DiskCall) → SameBut name (seen_after before) (seen_after (WriteAt name offset bytes ∷ before))
written_other name offset bytes before n other =
    cond-false (bytes_eq name n) (option_map (with_over offset bytes) (seen_after before n)) (seen_after before n) (eq_other name n (λ same. other (sym same)))

pub written : (name : Name) (offset : ℕ) (bytes : List ℕ) (before : List DiskCall) → seen_after (WriteAt name offset bytes ∷ before) name ≡ option_map (with_over offset bytes) (seen_after before name)
written name offset bytes before = cond-true (bytes_eq name name) (option_map (with_over offset bytes) (seen_after before name)) (seen_after before name) (eq_same name name refl)

-- a folder of which a file is written over, by no more bytes than these
pub over_may_tear : (name : Name) (offset n : ℕ) (bytes : List ℕ) (before : List DiskCall) → length bytes ≤ n → MayTear name offset n (seen_after before) (seen_after (WriteAt name offset bytes ∷ before))
over_may_tear name offset n bytes before no_more = record {
  torn = λ a is. (with_over offset bytes a, written name offset bytes before ∙ ap (option_map (with_over offset bytes)) is, over_is_torn offset n bytes a no_more);
  elsewhere = written_other name offset bytes before;
}

-- what is seen is one of the folders that a crash may leave
pub seen_may_stay : (calls : List DiskCall) → MayLeave calls (seen_after calls)
seen_may_stay [] = λ n. refl
seen_may_stay (Create name ∷ before) = (seen_after before, seen_may_stay before, created_other name before)
seen_may_stay (Append name bytes ∷ before) = (seen_after before, seen_may_stay before, appended_other name bytes before)
seen_may_stay (SyncFile name ∷ before) = seen_may_stay before
seen_may_stay (Rename from to ∷ before) = (seen_after before, seen_may_stay before, may_move from to before)
seen_may_stay (Remove name ∷ before) = (seen_after before, seen_may_stay before, record { either = inr (removed name before); elsewhere = removed_other name before })
seen_may_stay (SyncFolder ∷ before) = (seen_may_stay before, λ n whole. refl)
seen_may_stay (WriteAt name offset bytes ∷ before) = (seen_after before, seen_may_stay before, over_may_tear name offset (length bytes) bytes before (omega arith))
seen_may_stay (SyncInPlace name ∷ before) = (seen_may_stay before, refl)

pub none_whole : (calls : List DiskCall) (n : Name) → seen_after calls n ≡ None → IsWhole calls n
none_whole calls n none = inl none

pub counts_now : (calls : List DiskCall) (t : ℕ) (c : Folder) → t ≤ length calls → MayLeave calls c → MightHaveLeft t calls c
counts_now [] t c le now = now
counts_now (call ∷ before) t c le now = inl now

pub only_now : (calls : List DiskCall) (c : Folder) → MightHaveLeft (length calls) calls c → MayLeave calls c
only_now [] c left = left
only_now (call ∷ before) c (inl now) = now
only_now (call ∷ before) c (inr earlier) = absurd (omega (arith, earlier.0))

-- what a disk in memory means; its laws say that these outcomes follow the model of a disk
abbrev pub memory_meaning : DiskMeaning DiskHistory
memory_meaning = record {
  keeps_promises = Unit {0};
  seen = λ d. seen_after d.calls;
  may_leave = λ d. MayLeave d.calls;
  is_whole = λ d. IsWhole d.calls;
  is_new = λ d. IsCreated d.calls;
  moment = λ d. length d.calls;
  left_since = λ d t. MightHaveLeft t d.calls;
  faults = λ d. d.failures;
  none_whole = λ d n none. none_whole d.calls n none;
  seen_may_stay = λ d promised. seen_may_stay d.calls;
  counts_now = λ d t c le now. counts_now d.calls t c le now;
  only_now = λ d c left. only_now d.calls c left;
}

-- time goes on by one call more
pub elapses : (call : DiskCall) (old new : DiskHistory) → new.calls ≡ call ∷ old.calls → Elapses memory_meaning old new
elapses call old new is =
    let P : List DiskCall → Type 0 = λ calls. Elapses memory_meaning old (record { calls = calls; failures = new.failures }) in
    subst P (sym is) (record {
      later = omega arith;
      nothing_else = λ t c le since. ⊎_elim (λ now. inr now) (λ was. inl was.1) since;
      keeps = λ t c le past. inr (le, past);
    })

-- or by none
pub stands : (old new : DiskHistory) → new.calls ≡ old.calls → Elapses memory_meaning old new
stands old new is =
    let P : List DiskCall → Type 0 = λ calls. Elapses memory_meaning old (record { calls = calls; failures = new.failures }) in
    subst P (sym is) (record { later = omega arith; nothing_else = λ t c le since. inl since; keeps = λ t c le past. past })
