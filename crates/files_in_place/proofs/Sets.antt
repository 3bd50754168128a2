-- A set while it is written, and when it is put in place.
use Rattle.std.proofs.Common.{◌≡◌, ◌≢◌, ◌⊎◌, ◌++◌, if◌then◌else◌, inl, inr, List, [], ◌∷◌, true, false, Option, None, Some, IsSome, option_map, ℕ, refl, sym, ◌∙◌, ap, subst}
use Rattle.std.proofs.lemmas.Bool.{cases_Bool, both_ways, cond-true}
use Rattle.std.proofs.lemmas.Slice.Eq.{bytes_eq-Decides}
use Rattle.std.specs.List.{AllByRecursion}
use Rattle.std.specs.Str.{bytes_eq}
use Rattle.files_in_place.specs.Folder.{Name, Folder, SameBut, is_reserved, temporary, list_name, without_reserved}
use Rattle.files_in_place.specs.Recovery.{IsClean, SameFree, HasOldFiles}
use Rattle.files_in_place.specs.declared.phase.Phase.TheVariants.{Staging, Failed, Ended}
use Rattle.files_in_place.specs.Staged.{is_staged, is_file_name, with_staged, IsUncommitted, AreStaged, AreLeft, HoldsInPhase, RunsUncommitted, IsPut, IsOldOrNew, SameUnstaged}
use Rattle.files_in_place.specs.Disk.{DiskMeaning, LeavesOnly}
use Rattle.files_in_place.proofs.Runs.{started, runs_on, leaves_by}
use Rattle.files_in_place.proofs.Committing.{put_old}
use Rattle.files_in_place.proofs.Meaning.{free_other, temporary-inj, same_name}
use Rattle.files_in_place.proofs.Ending.{without_res}
use Rattle.files_in_place.proofs.Uncommitted.{staged_left, old_files_from, some_inj}

-- a name among the names and one more
pub more_staged : (names : List Name) (name n : Name) → is_staged (names ++ name ∷ []) n ≡ true → (is_staged names n ≡ true) ⊎ (name ≡ n)
more_staged [] name n is = elim (cases_Bool (bytes_eq name n)) [
  | inl same ↦ inr ((bytes_eq-Decides name n).0 same)
  | inr other ↦ absurd (both_ways false refl (sym (rw other refl) ∙ is))
]
more_staged (x ∷ names) name n is = elim (cases_Bool (bytes_eq x n)) [
  | inl same ↦ inl (rw same refl)
  | inr other ↦ elim (more_staged names name n (sym (rw other refl) ∙ is)) [
    | inl staged ↦ inl (rw other staged)
    | inr same ↦ inr same
  ]
]

still_staged : (names : List Name) (name n : Name) → is_staged names n ≡ true → is_staged (names ++ name ∷ []) n ≡ true
still_staged [] name n is = absurd (both_ways false refl is)
still_staged (x ∷ names) name n is = elim (cases_Bool (bytes_eq x n)) [
  | inl same ↦ rw same refl
  | inr other ↦ rw other (still_staged names name n (sym (rw other refl) ∙ is))
]

self_staged : (names : List Name) (name : Name) → is_staged (names ++ name ∷ []) name ≡ true
self_staged [] name = rw ((bytes_eq-Decides name name).1 refl) refl
self_staged (x ∷ names) name = elim (cases_Bool (bytes_eq x name)) [
  | inl same ↦ rw same refl
  | inr other ↦ rw other (self_staged names name)
]

pub unstaged_before : (names : List Name) (name n : Name) → is_staged (names ++ name ∷ []) n ≡ false → is_staged names n ≡ false
unstaged_before names name n is = elim (cases_Bool (is_staged names n)) [
  | inl staged ↦ absurd (both_ways (is_staged (names ++ name ∷ []) n) is (still_staged names name n staged))
  | inr unstaged ↦ unstaged
]

pub unstaged_other : (names : List Name) (name n : Name) → is_staged (names ++ name ∷ []) n ≡ false → n ≢ name
unstaged_other names name n is same = both_ways (is_staged (names ++ name ∷ []) n) is (ap (is_staged (names ++ name ∷ [])) same ∙ self_staged names name)

fit_more : (names : List Name) (name : Name) → AllByRecursion (λ m. is_file_name m ≡ true) names → is_file_name name ≡ true → AllByRecursion (λ m. is_file_name m ≡ true) (names ++ name ∷ [])
fit_more [] name fit is = (is, tt)
fit_more (x ∷ names) name fit is = (fit.0, fit_more names name fit.1 is)

other_temporary : (lies name n : Name) → lies ≡ temporary name → n ≢ name → temporary n ≢ lies
other_temporary lies name n is other same = other (temporary-inj n name (same ∙ is))

module _ {D : Type 0} (m : DiskMeaning D) where
  -- what is true in each phase
  pub in_staging : (names : List Name) (current : Option Name) (disk : D) → AreStaged m names current disk → HoldsInPhase m Staging names current disk
  in_staging names current disk staged = record {
    staged = λ is. staged;
    left = λ going. staged_left m names current disk staged;
  }

  pub in_failed : (names : List Name) (current : Option Name) (disk : D) → AreLeft m disk → HoldsInPhase m Failed names current disk
  in_failed names current disk left = record { staged = λ is. absurd (failed_apart is); left = λ going. left }
    where
      failed_apart : Failed ≡ Staging → ⊥
      failed_apart same = cc

  pub in_ended : (names : List Name) (current : Option Name) (disk : D) → HoldsInPhase m Ended names current disk
  in_ended names current disk = record { staged = λ is. absurd (ended_apart is); left = λ going. absurd (going refl) }
    where
      ended_apart : Ended ≡ Staging → ⊥
      ended_apart same = cc

  -- one file more is begun
  pub staged_more : (names : List Name) (current : Option Name) (old new : D) (name lies : Name) → AreStaged m names current old
      → lies ≡ temporary name → is_file_name name ≡ true → is_staged names name ≡ false → SameBut lies (m.seen old) (m.seen new) → m.seen new lies ≡ Some [] → ((n : Name) → n ≢ lies → m.is_whole old n → m.is_whole new n) → m.is_new new lies → IsUncommitted (m.seen new) (m.may_leave new)
      → AreStaged m (names ++ name ∷ []) (Some lies) new
  staged_more names current old new name lies staged is fit unstaged others empty whole fresh un =
      let P : Option (List ℕ) → Type 0 = λ o. IsSome o in
      record {
        fit = fit_more names name staged.fit fit;
        there = λ n among. elim (more_staged names name n among) [
          | inl was ↦
              let other : n ≢ name = λ same. both_ways (is_staged names n) (ap (is_staged names) same ∙ unstaged) was in
              subst P (sym (others (temporary n) (other_temporary lies name n is other))) (staged.there n was)
          | inr same ↦ subst P (sym (ap (λ (name : Name). m.seen new (temporary name)) (sym same) ∙ ap (m.seen new) (sym is) ∙ empty)) refl
        ];
        no_other = λ n out. others (temporary n) (other_temporary lies name n is (unstaged_other names name n out)) ∙ staged.no_other n (unstaged_before names name n out);
        whole = λ n none. whole n
            (λ same. none (name, same ∙ is, self_staged names name))
            (staged.whole n (λ among. none (among.0, among.1, still_staged names name among.0 among.2)));
        named = λ begun same. (name, sym (some_inj lies begun same) ∙ is, self_staged names name);
        fresh = λ begun same. subst (m.is_new new) (some_inj lies begun same) fresh;
        uncommitted = un;
      }

  -- bytes are written to the file begun last
  pub staged_written : (names : List Name) (current : Option Name) (old new : D) (lies : Name) (bytes : List ℕ) → AreStaged m names current old
      → current ≡ Some lies → SameBut lies (m.seen old) (m.seen new) → m.seen new lies ≡ option_map (λ content. content ++ bytes) (m.seen old lies) → ((n : Name) → n ≢ lies → m.is_whole old n → m.is_whole new n) → m.is_new new lies → IsUncommitted (m.seen new) (m.may_leave new)
      → AreStaged m names current new
  staged_written names current old new lies bytes staged is others written whole fresh un =
      let P : Option (List ℕ) → Type 0 = λ o. IsSome o in
      let file = staged.named lies is in
      record {
        fit = staged.fit;
        there = λ n among. elim (same_name (temporary n) lies) [
          | inl same ↦ subst P (sym (ap (m.seen new) same ∙ written)) (still_some (m.seen old lies) bytes (subst P (ap (m.seen old) same) (staged.there n among)))
          | inr other ↦ subst P (sym (others (temporary n) other)) (staged.there n among)
        ];
        no_other = λ n out. others (temporary n) (λ same.
            let met : n ≡ file.0 = temporary-inj n file.0 (same ∙ file.1) in
            both_ways (is_staged names n) out (ap (is_staged names) met ∙ file.2)) ∙ staged.no_other n out;
        whole = λ n none. whole n (λ same. none (file.0, same ∙ file.1, file.2)) (staged.whole n none);
        named = staged.named;
        fresh = λ begun same. subst (m.is_new new) (some_inj lies begun (sym is ∙ same)) fresh;
        uncommitted = un;
      }
    where
      still_some : (o : Option (List ℕ)) (bytes : List ℕ) → IsSome o → IsSome (option_map (λ content. content ++ bytes) o)
      still_some None bytes there = absurd (both_ways false refl there)
      still_some (Some content) bytes there = refl

-- the list's temporary name is none of the set's
pub with_staged_same : (names : List Name) (old mid : Folder) → AllByRecursion (λ name. is_file_name name ≡ true) names → SameBut (temporary list_name) old mid → (n : Name) → with_staged names mid n ≡ with_staged names old n
with_staged_same names old mid fit others n = elim (cases_Bool (is_reserved n)) [
  | inl res ↦ cond-true (is_reserved n) None (if is_staged names n then mid (temporary n) else mid n) res ∙ sym (cond-true (is_reserved n) None (if is_staged names n then old (temporary n) else old n) res)
  | inr free ↦
      let same : mid n ≡ old n = others n (free_other n (temporary list_name) free refl) in
      let lies : mid (temporary n) ≡ old (temporary n) = others (temporary n) (λ met. free_other n list_name free refl (temporary-inj n list_name met)) in
      ap (λ (x : Option (List ℕ)). if is_reserved n then None else if is_staged names n then x else mid n) lies
      ∙ ap (λ (x : Option (List ℕ)). if is_reserved n then None else if is_staged names n then old (temporary n) else x) same
]

pub put_from : (names : List Name) (old mid c : Folder) → AllByRecursion (λ name. is_file_name name ≡ true) names → SameBut (temporary list_name) old mid → IsPut names mid c → IsPut names old c
put_from names old mid c fit others put =
    let free_same : SameFree old mid = λ n free. others n (free_other n (temporary list_name) free refl) in
    record {
      either = elim put.either [
        | inl has ↦ inl (old_files_from old mid c free_same has)
        | inr new ↦ inr (λ n. new n ∙ with_staged_same names old mid fit others n)
      ];
      others = λ n free unstaged. put.others n free unstaged ∙ free_same n free;
    }

pub put_of_old : (names : List Name) (old c : Folder) → HasOldFiles old c → IsPut names old c
put_of_old names old c has = record { either = inl has; others = λ n free unstaged. has.same n free }

pub put_clean : (names : List Name) (old new : Folder) → ((n : Name) → new n ≡ with_staged names old n) → IsClean new
put_clean names old new is n res = is n ∙ cond-true (is_reserved n) None (if is_staged names n then old (temporary n) else old n) res

pub abandoned_clean : (old new : Folder) → ((n : Name) → new n ≡ without_reserved old n) → IsClean new
abandoned_clean old new is n res = is n ∙ without_res old n res

module _ {D : Type 0} (m : DiskMeaning D) where
  -- before a set is put in place
  pub put_none : (names : List Name) (old : D) → IsUncommitted (m.seen old) (m.may_leave old) → LeavesOnly m old old (IsPut names (m.seen old))
  put_none names old un = started m old (IsPut names (m.seen old)) (put_old names (m.seen old) (m.may_leave old) un)

  -- while its list is written
  pub put_listed : (names : List Name) (old mid : D) → RunsUncommitted m old mid → LeavesOnly m old mid (IsPut names (m.seen old))
  put_listed names old mid run = leaves_by m old mid (HasOldFiles (m.seen old)) (IsPut names (m.seen old)) run.moments (put_of_old names (m.seen old))

  -- and to the end
  pub put_all : (names listed : List Name) (old mid new : D) → listed ≡ names → AllByRecursion (λ name. is_file_name name ≡ true) names → SameBut (temporary list_name) (m.seen old) (m.seen mid) → RunsUncommitted m old mid
      → LeavesOnly m mid new (IsPut listed (m.seen mid)) → LeavesOnly m old new (IsPut names (m.seen old))
  put_all names listed old mid new same fit others run put =
      runs_on m old mid new (IsPut names (m.seen old)) (IsPut listed (m.seen mid)) (put_listed names old mid run) put
      (λ c is. put_from names (m.seen old) (m.seen mid) c fit others (subst (λ (l : List Name). IsPut l (m.seen mid) c) same is))

  pub put_either : (names : List Name) (old new : D) → LeavesOnly m old new (IsPut names (m.seen old)) → LeavesOnly m old new (IsOldOrNew names (m.seen old))
  put_either names old new put = leaves_by m old new (IsPut names (m.seen old)) (IsOldOrNew names (m.seen old)) put (λ c is. is.either)

  pub put_others : (names : List Name) (old new : D) → LeavesOnly m old new (IsPut names (m.seen old)) → LeavesOnly m old new (SameUnstaged names (m.seen old))
  put_others names old new put = leaves_by m old new (IsPut names (m.seen old)) (SameUnstaged names (m.seen old)) put (λ c is. is.others)
