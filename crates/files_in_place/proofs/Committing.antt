-- The folders of a commit: before the list has its name, when it gets it, and after that.
use Rattle.std.proofs.Common.{◌≡◌, ◌≢◌, inl, inr, List, [], ◌∷◌, Bool, true, false, Option, None, Some, IsSome, if◌then◌else◌, ℕ, refl, sym, ◌∙◌, ap, subst}
use Rattle.std.proofs.lemmas.Bool.{cases_Bool, both_ways, and_parts, cond-true, cond-false}
use Rattle.std.specs.List.{list_any, list_all, AllByRecursion}
use Rattle.std.specs.Str.{bytes_eq}
use Rattle.files_in_place.specs.Folder.{Name, Folder, is_reserved, temporary, list_name, list_bytes, names_in, is_listed}
use Rattle.files_in_place.specs.Disk.{DiskMeaning, AfterStep, SameButTwo, HasMoved, MayMove, IsDurable}
use Rattle.files_in_place.specs.Recovery.{RecoversTo, SameFree, StillRecovers}
use Rattle.files_in_place.specs.Staged.{is_staged, is_file_name, is_name_byte, is_dots, with_staged, IsUncommitted, AreReady, IsPut}
use Rattle.files_in_place.proofs.NameLists.{names_of-list_bytes}
use Rattle.files_in_place.proofs.Meaning.{free_other, temporary-inj, recovered_by, recovered_free, recovered_reserved, first_there}
use Rattle.files_in_place.proofs.Uncommitted.{second_true, staged_free, apart_from_list, uncommitted_old}

-- a file's name has no line feed
byte_no_feed : (b : ℕ) → is_name_byte b ≡ true → b ≢ 10
byte_no_feed b is feed = absurd (both_ways false refl (sym (ap is_name_byte feed) ∙ is))

bytes_no_feed : (name : Name) → list_all is_name_byte name ≡ true → AllByRecursion (λ b. b ≢ 10) name
bytes_no_feed [] is = tt
bytes_no_feed (b ∷ name) is = elim (cases_Bool (is_name_byte b)) [
  | inl here ↦ (byte_no_feed b here, bytes_no_feed name (sym (rw here refl) ∙ is))
  | inr isnt ↦ absurd (both_ways false refl (sym (rw isnt refl) ∙ is))
]

pub one_line : (name : Name) → is_file_name name ≡ true → AllByRecursion (λ b. b ≢ 10) name
one_line name is = bytes_no_feed name (and_parts _ _ (second_true (is_dots name) _ (second_true (is_reserved name) _ is))).0

lines_fit : (names : List Name) → AllByRecursion (λ name. is_file_name name ≡ true) names → AllByRecursion (AllByRecursion (λ b. b ≢ 10)) names
lines_fit [] fit = tt
lines_fit (name ∷ names) fit = (one_line name fit.0, lines_fit names fit.1)

-- a folder that has the list lists the names of the set
pub listed_staged : (names : List Name) (c : Folder) (n : Name) → AllByRecursion (λ name. is_file_name name ≡ true) names → c list_name ≡ Some (list_bytes names) → is_listed c n ≡ is_staged names n
listed_staged names c n fit list =
    ap (λ (l : List Name). list_any (λ listed. bytes_eq listed n) l) (ap names_in list ∙ names_of-list_bytes names (lines_fit names fit))

-- what the set has at a name, or else what was there
abbrev staged_or : List Name → Folder → Folder
staged_or names old n = if is_staged names n then old (temporary n) else old n

chosen : (names : List Name) (old c : Folder) (n : Name) → ((m : Name) → is_staged names m ≡ true → IsSome (old (temporary m))) → ((m : Name) → is_staged names m ≡ true → c (temporary m) ≡ old (temporary m)) → c n ≡ old n
    → recovered_by (is_staged names n) (c (temporary n)) (c n) ≡ staged_or names old n
chosen names old c n there same here = elim (cases_Bool (is_staged names n)) [
  | inl staged ↦
      let P : Option (List ℕ) → Type 0 = λ o. IsSome o in
      let lies : c (temporary n) ≡ old (temporary n) = same n staged in
      ap (λ (b : Bool). recovered_by b (c (temporary n)) (c n)) staged
      ∙ first_there (c (temporary n)) (c n) (subst P (sym lies) (there n staged))
      ∙ lies
      ∙ sym (cond-true (is_staged names n) (old (temporary n)) (old n) staged)
  | inr unstaged ↦
      ap (λ (b : Bool). recovered_by b (c (temporary n)) (c n)) unstaged
      ∙ here
      ∙ sym (cond-false (is_staged names n) (old (temporary n)) (old n) unstaged)
]

-- with the list, recovery makes the new files of it
pub with_list : (names : List Name) (old c : Folder) → AllByRecursion (λ name. is_file_name name ≡ true) names → ((n : Name) → is_staged names n ≡ true → IsSome (old (temporary n)))
    → c list_name ≡ Some (list_bytes names) → ((n : Name) → is_staged names n ≡ true → c (temporary n) ≡ old (temporary n)) → SameFree old c → RecoversTo (with_staged names old) c
with_list names old c fit there list same free_same n = elim (cases_Bool (is_reserved n)) [
  | inl res ↦ recovered_reserved c n res ∙ sym (cond-true (is_reserved n) None (staged_or names old n) res)
  | inr free ↦
      recovered_free c n free
      ∙ ap (λ (b : Bool). recovered_by b (c (temporary n)) (c n)) (listed_staged names c n fit list)
      ∙ chosen names old c n there same (free_same n free)
      ∙ sym (cond-false (is_reserved n) None (staged_or names old n) free)
]

pub put_old : (names : List Name) (folder : Folder) (outcomes : Folder → Type 0) → IsUncommitted folder outcomes → (c : Folder) → outcomes c → IsPut names folder c
put_old names folder outcomes un c now = record { either = inl (uncommitted_old folder outcomes un c now); others = λ n free unstaged. un.same c now n free }

module _ {D : Type 0} (m : DiskMeaning D) (names : List Name) (disk : D) (ready : AreReady m names disk) where
  -- the temporary names of the set aren't touched where the list gets its name
  temporary_same : (d c : Folder) → SameButTwo (temporary list_name) list_name d c → (n : Name) → is_staged names n ≡ true → c (temporary n) ≡ d (temporary n)
  temporary_same d c same n staged =
      let free : is_reserved n ≡ false = staged_free names n ready.fit staged in
      same (temporary n) (λ met. free_other n list_name free refl (temporary-inj n list_name met)) (apart_from_list n free)

  free_same : (d c : Folder) → SameButTwo (temporary list_name) list_name d c → SameFree d c
  free_same d c same n free = same n (free_other n (temporary list_name) free refl) (free_other n list_name free refl)

  pub list_durable : (folder : Folder) (outcomes : Folder → Type 0) → folder ≡ (m.seen disk) → ((c : Folder) → outcomes c → (n : Name) → c n ≡ (m.seen disk) n) → IsDurable (temporary list_name) folder outcomes
  list_durable folder outcomes is only =
      let P : Option (List ℕ) → Type 0 = λ o. IsSome o in
      let has : folder (temporary list_name) ≡ (m.seen disk) (temporary list_name) = ap (λ (f : Folder). f (temporary list_name)) is in
      record { there = subst P (sym (has ∙ ready.list)) refl; always = λ c now. only c now (temporary list_name) ∙ sym has }

  -- a crash comes while the list gets its name
  pub naming_means : (outcomes : Folder → Type 0) → ((c : Folder) → outcomes c → (n : Name) → c n ≡ (m.seen disk) n) → (c : Folder) → AfterStep (MayMove (temporary list_name) list_name) outcomes c → IsPut names (m.seen disk) c
  naming_means outcomes only c from =
      let d = from.0 in
      let was : (n : Name) → d n ≡ (m.seen disk) n = only d from.1 in
      let same : SameFree (m.seen disk) c = λ n free. free_same d c from.2.elsewhere n free ∙ was n in
      record {
        either = elim from.2.either [
          | inl still ↦
              let none : c list_name ≡ None = still.0 ∙ was list_name ∙ ready.uncommitted.no_list in
              let here : IsUncommitted (m.seen disk) (λ e. e ≡ c) = record {
                no_list = ready.uncommitted.no_list;
                none_left = λ e is. ap (λ (f : Folder). f list_name) is ∙ none;
                same = λ e is n free. ap (λ (f : Folder). f n) is ∙ same n free;
              } in
              inl (uncommitted_old (m.seen disk) (λ e. e ≡ c) here c refl)
          | inr moved ↦ inr (with_list names (m.seen disk) c ready.fit ready.there (moved.0 ∙ was (temporary list_name) ∙ ready.list)
              (λ n staged. temporary_same d c from.2.elsewhere n staged ∙ was (temporary n)) same)
        ];
        others = λ n free unstaged. same n free;
      }

  list_there : (mid new : Folder) → mid ≡ (m.seen disk) → HasMoved (temporary list_name) list_name mid new → new list_name ≡ Some (list_bytes names)
  list_there mid new is moved = moved.there ∙ ap (λ (f : Folder). f (temporary list_name)) is ∙ ready.list

  -- it has the names of the set
  pub listed_names : (mid new : Folder) → mid ≡ (m.seen disk) → HasMoved (temporary list_name) list_name mid new → (after : Folder) → after ≡ new → names ≡ names_in (after list_name)
  listed_names mid new is moved after same =
      sym (ap names_in (ap (λ (f : Folder). f list_name) same ∙ list_there mid new is moved) ∙ names_of-list_bytes names (lines_fit names ready.fit))

  same_new : (mid new : Folder) → mid ≡ (m.seen disk) → SameButTwo (temporary list_name) list_name mid new → SameFree (m.seen disk) new
  same_new mid new is others n free = free_same mid new others n free ∙ ap (λ (f : Folder). f n) is

  -- the list has its name
  pub named_means : (mid new : Folder) → mid ≡ (m.seen disk) → HasMoved (temporary list_name) list_name mid new → SameButTwo (temporary list_name) list_name mid new → RecoversTo (with_staged names (m.seen disk)) new
  named_means mid new is moved others =
      with_list names (m.seen disk) new ready.fit ready.there (list_there mid new is moved) (λ n staged. temporary_same mid new others n staged ∙ ap (λ (f : Folder). f (temporary n)) is) (same_new mid new is others)

  -- a crash comes while recovery goes on from there
  pub recovering_means : (mid new : Folder) → mid ≡ (m.seen disk) → HasMoved (temporary list_name) list_name mid new → SameButTwo (temporary list_name) list_name mid new → (after c : Folder) → after ≡ new → StillRecovers after c → IsPut names (m.seen disk) c
  recovering_means mid new is moved others after c same still =
      let P : Folder → Type 0 = λ f. StillRecovers f c in
      let goes : StillRecovers new c = subst P same still in
      let means = named_means mid new is moved others in
      record {
        either = inr (λ n. goes.recovers n ∙ means n);
        others = λ n free unstaged. goes.unlisted n free (listed_staged names new n ready.fit (list_there mid new is moved) ∙ unstaged) ∙ same_new mid new is others n free;
      }
