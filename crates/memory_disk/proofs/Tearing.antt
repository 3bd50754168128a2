-- Whatever a name has whose bytes aren't on the disk may be left.
use Rattle.std.proofs.Common.{Result, Ok, Err, IfOk, OnOk, get_or, take, drop, length, arith, ◌≤◌, ◌-◌, ◌≡◌, ◌≢◌, inl, inr, ℕ, List, [], ◌∷◌, Bool, true, false, Option, None, Some, IsSome, cond, refl, sym, ◌∙◌, ap, subst}
use Rattle.std.proofs.lemmas.Bool.{both_ways, cond-true, cond-false}
use Rattle.std.specs.Str.{bytes_eq}
use Rattle.files_in_place.specs.Folder.{Name, Folder, SameBut}
use Rattle.files_in_place.specs.Disk.{MayMove, IsDurable}
use Rattle.disk_in_place.specs.InPlace.{MayTear}
use Rattle.memory_disk.specs.declared.disk_call.DiskCall.{DiskCall}
use Rattle.memory_disk.specs.declared.disk_call.DiskCall.TheVariants.{Create, Append, SyncFile, Rename, Remove, SyncFolder, WriteAt, SyncInPlace}
use Rattle.memory_disk.specs.Seen.{seen_after}
use Rattle.memory_disk.specs.Outcomes.{AreSynced, IsWhole, MayLeave}
use Rattle.memory_disk.specs.Crashes.{AreKept, IsKept, are_kept, is_torn_by, KeepsWhole, MayStep}
use Rattle.memory_disk.specs.Laws.{eq_same, eq_other, same_or_other, created_other, appended_other, removed, removed_other, moved_to, moved_from, moved_other, written_other, over_may_tear, seen_may_stay}

-- the folder with this at a name
abbrev with_at : Name → Option (List ℕ) → Folder → Folder
with_at name content c n = cond (bytes_eq name n) content (c n)

at_it : (name : Name) (content : Option (List ℕ)) (c : Folder) (n : Name) → n ≡ name → with_at name content c n ≡ content
at_it name content c n same = cond-true (bytes_eq name n) content (c n) (eq_same name n (sym same))

at_other : (name : Name) (content : Option (List ℕ)) (c : Folder) (n : Name) → n ≢ name → with_at name content c n ≡ c n
at_other name content c n other = cond-false (bytes_eq name n) content (c n) (eq_other name n (λ same. other (sym same)))

-- the folder before a call that touches one name alone
keeps_before : (call : DiskCall) (name : Name) (before : List DiskCall) (c : Folder) → SameBut name (seen_after before) (seen_after (call ∷ before)) → ((n : Name) → n ≢ name → IsKept before n → IsKept (call ∷ before) n)
    → KeepsWhole (call ∷ before) c → KeepsWhole before (with_at name (seen_after before name) c)
keeps_before call name before c others lift keeps n whole = elim (same_or_other n name) [
  | inl same ↦ at_it name (seen_after before name) c n same ∙ ap (seen_after before) (sym same)
  | inr other ↦ at_other name (seen_after before name) c n other ∙ keeps n (lift n other whole) ∙ others n other
]

same_before : (name : Name) (content : Option (List ℕ)) (c : Folder) → SameBut name (with_at name content c) c
same_before name content c n other = sym (at_other name content c n other)

whole_created : (name : Name) (before : List DiskCall) (n : Name) → n ≢ name → IsKept before n → IsKept (Create name ∷ before) n
whole_created name before n other (inl none) = inl (created_other name before n other ∙ none)
whole_created name before n other (inr synced) = inr (other, synced)

whole_appended : (name : Name) (bytes : List ℕ) (before : List DiskCall) (n : Name) → n ≢ name → IsKept before n → IsKept (Append name bytes ∷ before) n
whole_appended name bytes before n other (inl none) = inl (appended_other name bytes before n other ∙ none)
whole_appended name bytes before n other (inr synced) = inr (other, synced)

whole_removed : (name : Name) (before : List DiskCall) (n : Name) → n ≢ name → IsKept before n → IsKept (Remove name ∷ before) n
whole_removed name before n other (inl none) = inl (removed_other name before n other ∙ none)
whole_removed name before n other (inr synced) = inr synced

whole_synced : (name : Name) (before : List DiskCall) (n : Name) → IsKept before n → IsKept (SyncFile name ∷ before) n
whole_synced name before n (inl none) = inl none
whole_synced name before n (inr synced) = inr (inr synced)

whole_moved : (from to : Name) (before : List DiskCall) → IsKept before from → IsKept (Rename from to ∷ before) to
whole_moved from to before (inl none) = inl (moved_to from to before ∙ none)
whole_moved from to before (inr synced) = inr (inl (refl, synced))

whole_stayed : (from to : Name) (before : List DiskCall) (n : Name) → n ≢ from → n ≢ to → IsKept before n → IsKept (Rename from to ∷ before) n
whole_stayed from to before n not_from not_to (inl none) = inl (moved_other from to before n not_from not_to ∙ none)
whole_stayed from to before n not_from not_to (inr synced) = inr (inr (not_to, synced))

module _ (from to : Name) (before : List DiskCall) (c : Folder) (keeps : KeepsWhole (Rename from to ∷ before) c) where
  -- the folder before a rename
  abbrev unmoved : Folder
  unmoved = with_at from (c to) (with_at to (seen_after before to) c)

  unmoved_other : (n : Name) → n ≢ from → n ≢ to → unmoved n ≡ c n
  unmoved_other n not_from not_to = at_other from (c to) (with_at to (seen_after before to) c) n not_from ∙ at_other to (seen_after before to) c n not_to

  keeps_unmoved : from ≢ to → KeepsWhole before unmoved
  keeps_unmoved apart n whole = elim (same_or_other n from) [
    | inl same ↦
        at_it from (c to) (with_at to (seen_after before to) c) n same ∙ keeps to (whole_moved from to before (subst (IsKept before) same whole)) ∙ moved_to from to before ∙ ap (seen_after before) (sym same)
    | inr not_from ↦ elim (same_or_other n to) [
      | inl same ↦ at_other from (c to) (with_at to (seen_after before to) c) n not_from ∙ at_it to (seen_after before to) c n same ∙ ap (seen_after before) (sym same)
      | inr not_to ↦ unmoved_other n not_from not_to ∙ keeps n (whole_stayed from to before n not_from not_to whole) ∙ moved_other from to before n not_from not_to
    ]
  ]

  moves_on : from ≢ to → MayMove from to unmoved c
  moves_on apart = record {
    either = inr (sym (at_it from (c to) (with_at to (seen_after before to) c) from refl), inr (keeps from (inl (moved_from from to before apart)) ∙ moved_from from to before apart));
    elsewhere = λ n not_from not_to. sym (unmoved_other n not_from not_to);
  }

  -- a rename to the same name
  keeps_same : from ≡ to → KeepsWhole before c
  keeps_same one n whole = elim (same_or_other n to) [
    | inl same ↦
        let here : IsKept before from = subst (IsKept before) (same ∙ sym one) whole in
        ap c same ∙ keeps to (whole_moved from to before here) ∙ moved_to from to before ∙ ap (seen_after before) (one ∙ sym same)
    | inr not_to ↦
        let not_from : n ≢ from = λ same. not_to (same ∙ one) in
        keeps n (whole_stayed from to before n not_from not_to whole) ∙ moved_other from to before n not_from not_to
  ]

kept_written : (name : Name) (offset : ℕ) (bytes : List ℕ) (before : List DiskCall) (n : Name) → n ≢ name → IsKept before n → IsKept (WriteAt name offset bytes ∷ before) n
kept_written name offset bytes before n other (inl none) = inl (written_other name offset bytes before n other ∙ none)
kept_written name offset bytes before n other (inr kept) = inr (inr kept)

kept_synced : (name : Name) (before : List DiskCall) (n : Name) → IsKept before n → IsKept (SyncInPlace name ∷ before) n
kept_synced name before n (inl none) = inl none
kept_synced name before n (inr kept) = inr (inr kept)

-- the file with what is seen, before it was written over
torn_over : (name : Name) (offset : ℕ) (bytes : List ℕ) (before : List DiskCall) (c : Folder) → c name ≡ seen_after (WriteAt name offset bytes ∷ before) name
    → MayTear name offset (length bytes) (with_at name (seen_after before name) c) c
torn_over name offset bytes before c is =
    let tear = over_may_tear name offset (length bytes) bytes before (omega arith) in
    record {
      torn = λ a was.
          let t = tear.torn a (sym (at_it name (seen_after before name) c name refl) ∙ was) in
          (t.0, is ∙ t.1, t.2);
      elsewhere = same_before name (seen_after before name) c;
    }

-- what is on the disk is kept
synced_kept : (calls : List DiskCall) (n : Name) → AreSynced calls n → AreKept calls n
synced_kept [] n synced = tt
synced_kept (Create name ∷ before) n synced = (synced.0, synced_kept before n synced.1)
synced_kept (Append name bytes ∷ before) n synced = (synced.0, synced_kept before n synced.1)
synced_kept (SyncFile name ∷ before) n (inl here) = inl here
synced_kept (SyncFile name ∷ before) n (inr was) = inr (synced_kept before n was)
synced_kept (Rename from to ∷ before) n (inl moved) = inl (moved.0, synced_kept before from moved.1)
synced_kept (Rename from to ∷ before) n (inr stayed) = inr (stayed.0, synced_kept before n stayed.1)
synced_kept (Remove name ∷ before) n synced = synced_kept before n synced
synced_kept (SyncFolder ∷ before) n synced = synced_kept before n synced
synced_kept (WriteAt name offset bytes ∷ before) n synced = inr (synced_kept before n synced.1)
synced_kept (SyncInPlace name ∷ before) n (inl here) = inl here
synced_kept (SyncInPlace name ∷ before) n (inr was) = inr (synced_kept before n was)

whole_kept : (calls : List DiskCall) (n : Name) → IsWhole calls n → IsKept calls n
whole_kept calls n (inl none) = inl none
whole_kept calls n (inr synced) = inr (synced_kept calls n synced)

-- A folder in which each name whose bytes are on the disk, or written over where they are, has what is seen is one of those that a crash may leave, whatever the
-- other names have.
pub may_tear : (calls : List DiskCall) (c : Folder) → KeepsWhole calls c → MayLeave calls c
may_tear [] c keeps = λ n. keeps n (inl refl)
may_tear (Create name ∷ before) c keeps = (
  with_at name (seen_after before name) c,
  may_tear before (with_at name (seen_after before name) c) (keeps_before (Create name) name before c (created_other name before) (whole_created name before) keeps),
  same_before name (seen_after before name) c,
)
may_tear (Append name bytes ∷ before) c keeps = (
  with_at name (seen_after before name) c,
  may_tear before (with_at name (seen_after before name) c) (keeps_before (Append name bytes) name before c (appended_other name bytes before) (whole_appended name bytes before) keeps),
  same_before name (seen_after before name) c,
)
may_tear (SyncFile name ∷ before) c keeps = may_tear before c (λ n whole. keeps n (whole_synced name before n whole))
may_tear (Rename from to ∷ before) c keeps = elim (same_or_other from to) [
  | inl one ↦ (c, may_tear before c (keeps_same from to before c keeps one), record { either = inl (refl, refl); elsewhere = λ n not_from not_to. refl })
  | inr apart ↦ (unmoved from to before c keeps, may_tear before (unmoved from to before c keeps) (keeps_unmoved from to before c keeps apart), moves_on from to before c keeps apart)
]
may_tear (Remove name ∷ before) c keeps = (
  with_at name (seen_after before name) c,
  may_tear before (with_at name (seen_after before name) c) (keeps_before (Remove name) name before c (removed_other name before) (whole_removed name before) keeps),
  record { either = inr (keeps name (inl (removed name before)) ∙ removed name before); elsewhere = same_before name (seen_after before name) c },
)
may_tear (SyncFolder ∷ before) c keeps = (may_tear before c keeps, λ n whole. keeps n (whole_kept before n whole))
may_tear (WriteAt name offset bytes ∷ before) c keeps = (
  with_at name (seen_after before name) c,
  may_tear before (with_at name (seen_after before name) c)
      (keeps_before (WriteAt name offset bytes) name before c (written_other name offset bytes before) (kept_written name offset bytes before) keeps),
  torn_over name offset bytes before c (keeps name (inr (inl refl))),
)
may_tear (SyncInPlace name ∷ before) c keeps = (may_tear before c (λ n kept. keeps n (kept_synced name before n kept)), keeps name (inr (inl refl)))

-- ---- what the functions leave

-- what is said to be unsynced is
abbrev test_by : Bool → Bool → Bool → Bool
test_by here this other = cond here this other

not_here : (m n : Name) (this other : Bool) → m ≢ n → test_by (bytes_eq m n) this other ≡ other
not_here m n this other apart = cond-false (bytes_eq m n) this other (eq_other m n apart)

is_here : (m n : Name) (this other : Bool) → m ≡ n → test_by (bytes_eq m n) this other ≡ this
is_here m n this other same = cond-true (bytes_eq m n) this other (eq_same m n same)

unsynced : (calls : List DiskCall) (n : Name) → are_kept calls n ≡ false → AreKept calls n → ⊥
unsynced [] n is synced = both_ways false refl (sym is)
unsynced (Create name ∷ before) n is synced = unsynced before n (sym (not_here name n false (are_kept before n) (λ same. synced.0 (sym same))) ∙ is) synced.1
unsynced (Append name bytes ∷ before) n is synced = unsynced before n (sym (not_here name n false (are_kept before n) (λ same. synced.0 (sym same))) ∙ is) synced.1
unsynced (SyncFile name ∷ before) n is synced = elim (same_or_other name n) [
  | inl same ↦ both_ways true (sym (is_here name n true (are_kept before n) same) ∙ is) refl
  | inr other ↦ elim synced [
    | inl here ↦ other (sym here)
    | inr was ↦ unsynced before n (sym (not_here name n true (are_kept before n) other) ∙ is) was
  ]
]
unsynced (Rename from to ∷ before) n is synced = elim (same_or_other to n) [
  | inl same ↦ elim synced [
    | inl moved ↦ unsynced before from (sym (is_here to n (are_kept before from) (are_kept before n) same) ∙ is) moved.1
    | inr stayed ↦ stayed.0 (sym same)
  ]
  | inr other ↦ elim synced [
    | inl moved ↦ other (sym moved.0)
    | inr stayed ↦ unsynced before n (sym (not_here to n (are_kept before from) (are_kept before n) other) ∙ is) stayed.1
  ]
]
unsynced (Remove name ∷ before) n is synced = unsynced before n is synced
unsynced (SyncFolder ∷ before) n is synced = unsynced before n is synced
unsynced (WriteAt name offset bytes ∷ before) n is synced = elim (same_or_other name n) [
  | inl same ↦ both_ways true (sym (is_here name n true (are_kept before n) same) ∙ is) refl
  | inr other ↦ elim synced [
    | inl here ↦ other (sym here)
    | inr was ↦ unsynced before n (sym (not_here name n true (are_kept before n) other) ∙ is) was
  ]
]
unsynced (SyncInPlace name ∷ before) n is synced = elim (same_or_other name n) [
  | inl same ↦ both_ways true (sym (is_here name n true (are_kept before n) same) ∙ is) refl
  | inr other ↦ elim synced [
    | inl here ↦ other (sym here)
    | inr was ↦ unsynced before n (sym (not_here name n true (are_kept before n) other) ∙ is) was
  ]
]

torn_unsynced : (synced : Bool) (content : Option (List ℕ)) → is_torn_by synced content ≡ true → synced ≡ false
torn_unsynced true content torn = absurd (both_ways false refl torn)
torn_unsynced false content torn = refl

torn_there : (synced : Bool) (content : Option (List ℕ)) → is_torn_by synced content ≡ true → content ≡ None → ⊥
torn_there true content torn none = both_ways false refl torn
torn_there false None torn none = both_ways false refl torn
torn_there false (Some bytes) torn none = absurd cc

-- what may be torn isn't on the disk
pub torn_apart : (calls : List DiskCall) (n : Name) → is_torn_by (are_kept calls n) (seen_after calls n) ≡ true → IsKept calls n → ⊥
torn_apart calls n torn (inl none) = torn_there (are_kept calls n) (seen_after calls n) torn none
torn_apart calls n torn (inr synced) = unsynced calls n (torn_unsynced (are_kept calls n) (seen_after calls n) torn) synced

-- a file that may be torn is
pub tears : (calls : List DiskCall) (name : Name) (old new : Folder) → is_torn_by (are_kept calls name) (seen_after calls name) ≡ true → SameBut name old new → KeepsWhole calls old → KeepsWhole calls new
tears calls name old new torn others keeps n whole =
    others n (λ same. torn_apart calls name torn (subst (IsKept calls) same whole)) ∙ keeps n whole

pub copied_moves : (from to : Name) (old new : Folder) → new to ≡ old from → SameBut to old new → MayMove from to old new
copied_moves from to old new there others = elim (same_or_other from to) [
  | inl same ↦ record { either = inr (there, inl (ap new same ∙ there)); elsewhere = λ n not_from not_to. others n not_to }
  | inr apart ↦ record { either = inr (there, inl (others from apart)); elsewhere = λ n not_from not_to. others n not_to }
]

pub on_both : {T E : Type 0} {P Q R : Type 0} (r : Result T E) → (P → Q → R) → OnOk r P → OnOk r Q → OnOk r R
on_both (Ok x) f p q = f p q
on_both (Err e) f p q = tt

pub if_ok : {T E : Type 0} (P Q : T → Type 0) (r : Result T E) → ((x : T) → P x → Q x) → IfOk r P → IfOk r Q
if_ok P Q (Ok x) f p = f x p
if_ok P Q (Err e) f p = tt

-- the calls before the last one, as the code takes them
pub rest_is : (calls : List DiskCall) → take (length calls - 1) (drop 1 calls) ≡ drop 1 calls
rest_is [] = refl
rest_is (call ∷ before) =
    let count : length (call ∷ before) - 1 ≡ length before = omega arith in
    ap (λ (k : ℕ). take k before) count ∙ take_all before
  where
    take_all : (xs : List DiskCall) → take (length xs) xs ≡ xs
    take_all [] = refl
    take_all (x ∷ xs) = ap (λ (l : List DiskCall). x ∷ l) (take_all xs)

-- another call is last
steps : (call : DiskCall) (before : List DiskCall) (old new : Folder) → (call ≢ SyncFolder) → ((n : Name) → call ≢ SyncInPlace n) → MayLeave before old → MayStep call old new → MayLeave (call ∷ before) new
steps (Create name) before old new other in_place was step = (old, was, step)
steps (Append name bytes) before old new other in_place was step = (old, was, step)
steps (SyncFile name) before old new other in_place was step = subst (MayLeave before) (sym step) was
steps (Rename from to) before old new other in_place was step = (old, was, step)
steps (Remove name) before old new other in_place was step = (old, was, step)
steps SyncFolder before old new other in_place was step = absurd (other refl)
steps (WriteAt name offset bytes) before old new other in_place was step = (old, was, step)
steps (SyncInPlace name) before old new other in_place was step = absurd (in_place name refl)

pub stepped : (calls : List DiskCall) (last : DiskCall) (old new : Folder) → 1 ≤ length calls → last ≡ get_or calls 0 last → (last ≢ SyncFolder) → ((n : Name) → last ≢ SyncInPlace n) → MayLeave (drop 1 calls) old → MayStep last old new → MayLeave calls new
stepped [] last old new le is other in_place was step = absurd (omega arith)
stepped (call ∷ before) last old new le is other in_place was step =
    subst (λ (x : DiskCall). MayLeave (x ∷ before) new) is (steps last before old new other in_place was step)

-- a file that is written over is torn at most
pub writes_torn : (given name : Name) (offset n : ℕ) (bytes : List ℕ) (before after : List DiskCall) → name ≡ given → length bytes ≤ n → after ≡ WriteAt name offset bytes ∷ before
    → MayTear given offset n (seen_after before) (seen_after after)
writes_torn given name offset n bytes before after same no_more is =
    subst (λ (l : List DiskCall). MayTear given offset n (seen_after before) (seen_after l)) (sym is)
    (subst (λ (m : Name). MayTear m offset n (seen_after before) (seen_after (WriteAt name offset bytes ∷ before))) same (over_may_tear name offset n bytes before no_more))

-- a file that is synced where it is stays
pub durable_in_place : (given name : Name) (before after : List DiskCall) → name ≡ given → ((c : Folder) → MayLeave before c → IsSome (c given)) → after ≡ SyncInPlace name ∷ before
    → IsDurable given (seen_after after) (MayLeave after)
durable_in_place given name before after same named is =
    subst (λ (l : List DiskCall). IsDurable given (seen_after l) (MayLeave l)) (sym is)
    (record {
      there = named (seen_after before) (seen_may_stay before);
      always = λ c left. ap c (sym same) ∙ left.1 ∙ ap (seen_after before) same;
    })
