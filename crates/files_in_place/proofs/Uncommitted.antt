-- Folders of a set that has no list yet.
use Rattle.std.proofs.Common.{◌≡◌, ◌≢◌, ◌⊎◌, inl, inr, map, arith, List, [], ◌∷◌, Bool, true, false, Option, None, Some, IsSome, ℕ, refl, sym, ◌∙◌, ap, subst, not, ◌&&◌}
use Rattle.std.proofs.lemmas.Bool.{cases_Bool, both_ways}
use Rattle.std.proofs.lemmas.Slice.Eq.{bytes_eq-Decides}
use Rattle.std.proofs.lemmas.List.Elements.{Contains-append_right}
use Rattle.std.specs.List.{AllByRecursion, Contains}
use Rattle.std.specs.Str.{bytes_eq}
use Rattle.files_in_place.specs.Folder.{Name, Folder, SameBut, is_reserved, temporary, list_name, list_bytes}
use Rattle.files_in_place.specs.Disk.{DiskMeaning, AfterStep, ComesBy, Shrinks, IsSynced, Elapses, OnlyReads, ChangesFile, Steps}
use Rattle.files_in_place.specs.Recovery.{IsClean, IsFinished, SameFree, HasOldFiles, LosesReserved}
use Rattle.files_in_place.specs.Staged.{is_staged, is_file_name, IsUncommitted, IsStagedAs, IsFreeFor, AreStaged, AreLeft, AreReady, RunsUncommitted}
use Rattle.files_in_place.proofs.Runs.{started, goes_on, runs_on}
use Rattle.files_in_place.proofs.Meaning.{free_other, same_name, temporary-inj, temporary_apart, lost_same}
use Rattle.files_in_place.proofs.Ending.{unlisted_finished, finished_without, without_same}

both_true : (a b : Bool) → not a && b ≡ true → a ≡ false
both_true true b is = absurd (both_ways false refl is)
both_true false b is = refl

pub second_true : (a b : Bool) → not a && b ≡ true → b ≡ true
second_true true b is = absurd (both_ways false refl is)
second_true false b is = is

-- a file's name isn't reserved
pub name_free : (n : Name) → is_file_name n ≡ true → is_reserved n ≡ false
name_free n is = both_true (is_reserved n) _ is

-- a name of the set is a file's name
pub staged_fit : (names : List Name) (n : Name) → AllByRecursion (λ name. is_file_name name ≡ true) names → is_staged names n ≡ true → is_file_name n ≡ true
staged_fit [] n fit staged = absurd (both_ways false refl staged)
staged_fit (name ∷ names) n fit staged = elim (cases_Bool (bytes_eq name n)) [
  | inl same ↦ ap is_file_name (sym ((bytes_eq-Decides name n).0 same)) ∙ fit.0
  | inr other ↦ staged_fit names n fit.1 (sym (rw other refl) ∙ staged)
]

pub staged_free : (names : List Name) (n : Name) → AllByRecursion (λ name. is_file_name name ≡ true) names → is_staged names n ≡ true → is_reserved n ≡ false
staged_free names n fit staged = name_free n (staged_fit names n fit staged)

-- no reserved name is in the set
pub reserved_unstaged : (names : List Name) (n : Name) → AllByRecursion (λ name. is_file_name name ≡ true) names → is_reserved n ≡ true → is_staged names n ≡ false
reserved_unstaged names n fit res = elim (cases_Bool (is_staged names n)) [
  | inl staged ↦ absurd (both_ways (is_reserved n) (staged_free names n fit staged) res)
  | inr not ↦ not
]

-- a name is the temporary one of a name of the set, or of none
pub staged_or_not : (names : List Name) (n : Name) → Contains (map temporary names) n ⊎ (¬ IsStagedAs names n)
staged_or_not [] n = inr (λ is. both_ways false refl is.2)
staged_or_not (name ∷ names) n = elim (same_name n (temporary name)) [
  | inl same ↦ inl (0, omega arith, sym same)
  | inr other ↦ elim (staged_or_not names n) [
    | inl later ↦ inl (Contains-append_right (temporary name ∷ []) (map temporary names) n later)
    | inr none ↦ inr (λ is. elim (cases_Bool (bytes_eq name is.0)) [
      | inl same ↦ other (is.1 ∙ ap temporary (sym ((bytes_eq-Decides name is.0).0 same)))
      | inr apart ↦ none (is.0, is.1, sym (rw apart refl) ∙ is.2)
    ])
  ]
]

-- the temporary name of a file isn't the list's
pub apart_from_list : (n : Name) → is_reserved n ≡ false → temporary n ≢ list_name
apart_from_list n free same = temporary_apart n same

pub list_apart : temporary list_name ≢ list_name
list_apart same = temporary_apart list_name same

-- a reserved name beside the list's, to which something happens
pub record IsTemporary (lies : Name) : Type 0 where
  pub res : is_reserved lies ≡ true
  pub apart : lies ≢ list_name

pub free_temporary : (names : List Name) (lies : Name) → IsFreeFor names lies → IsTemporary lies
free_temporary names lies is =
    let free : is_reserved is.0 ≡ false = name_free is.0 is.3 in
    record { res = ap is_reserved is.1; apart = λ same. apart_from_list is.0 free (sym is.1 ∙ same) }

pub staged_temporary : (names : List Name) (lies : Name) → AllByRecursion (λ name. is_file_name name ≡ true) names → IsStagedAs names lies → IsTemporary lies
staged_temporary names lies fit is =
    let free : is_reserved is.0 ≡ false = staged_free names is.0 fit is.2 in
    record { res = ap is_reserved is.1; apart = λ same. apart_from_list is.0 free (sym is.1 ∙ same) }

pub list_temporary : IsTemporary (temporary list_name)
list_temporary = record { res = refl; apart = list_apart }

-- what a crash leaves are the old files
pub uncommitted_old : (folder : Folder) (outcomes : Folder → Type 0) → IsUncommitted folder outcomes → (c : Folder) → outcomes c → HasOldFiles folder c
uncommitted_old folder outcomes un c now = record {
  same = un.same c now;
  recovers = λ n. finished_without c (unlisted_finished c (un.none_left c now)) n ∙ without_same folder c (un.same c now) n;
}

pub old_files_from : (old new c : Folder) → SameFree old new → HasOldFiles new c → HasOldFiles old c
old_files_from old new c same has = record {
  same = λ n free. has.same n free ∙ same n free;
  recovers = λ n. has.recovers n ∙ without_same old new same n;
}

pub un_shrinks : (old new : Folder) (before after : Folder → Type 0) → new ≡ old → Shrinks before after → IsUncommitted old before → IsUncommitted new after
un_shrinks old new before after same shrinks un = record {
  no_list = ap (λ (f : Folder). f list_name) same ∙ un.no_list;
  none_left = λ c now. un.none_left c (shrinks c now);
  same = λ c now n free. un.same c (shrinks c now) n free ∙ ap (λ (f : Folder). f n) (sym same);
}

pub step_free : (lies : Name) (old new : Folder) → IsTemporary lies → SameBut lies old new → SameFree old new
step_free lies old new is others n free = others n (free_other n lies free is.res)

pub un_step : (lies : Name) (old new : Folder) (before after : Folder → Type 0) → IsTemporary lies → SameBut lies old new → ComesBy (SameBut lies) before after → IsUncommitted old before → IsUncommitted new after
un_step lies old new before after is others comes un = record {
  no_list = others list_name (λ same. is.apart (sym same)) ∙ un.no_list;
  none_left = λ c now. let from = comes c now in from.2 list_name (λ same. is.apart (sym same)) ∙ un.none_left from.0 from.1;
  same = λ c now n free.
      let from = comes c now in
      let other = free_other n lies free is.res in
      from.2 n other ∙ un.same from.0 from.1 n free ∙ sym (others n other);
}

pub un_after : (lies : Name) (folder : Folder) (before : Folder → Type 0) → IsTemporary lies → IsUncommitted folder before → (c : Folder) → AfterStep (SameBut lies) before c → HasOldFiles folder c
un_after lies folder before is un c from =
    uncommitted_old folder (AfterStep (SameBut lies) before)
    (un_step lies folder folder before (AfterStep (SameBut lies) before) is (λ n other. refl) (λ d now. now) un) c from

-- while files of reserved names are removed
pub loses_means : (folder : Folder) (outcomes : Folder → Type 0) → IsUncommitted folder outcomes → (c : Folder) → AfterStep LosesReserved outcomes c → HasOldFiles folder c
loses_means folder outcomes un c from =
    let d = from.0 in
    let same : SameFree folder d = un.same d from.1 in
    let finished : IsFinished d = unlisted_finished d (un.none_left d from.1) in
    record {
      same = λ n free. from.2.same n free ∙ same n free;
      recovers = λ n. lost_same d c finished from.2 n ∙ finished_without d finished n ∙ without_same folder d same n;
    }

pub clean_uncommitted : (folder : Folder) (is_whole : Name → Type 0) (outcomes : Folder → Type 0) → IsClean folder → IsSynced folder is_whole outcomes → IsUncommitted folder outcomes
clean_uncommitted folder is_whole outcomes clean synced = record {
  no_list = clean list_name refl;
  none_left = λ c now. synced.only c now list_name ∙ clean list_name refl;
  same = λ c now n free. synced.only c now n;
}

pub none_some : (lies : Name) → None ≡ Some lies → ⊥
none_some lies same = absurd (cc same)

abbrev name_in : Option Name → Name
name_in None = []
name_in (Some name) = name

pub some_inj : (a b : Name) → Some a ≡ Some b → a ≡ b
some_inj a b same = ap name_in same

module _ {D : Type 0} (m : DiskMeaning D) where
  -- a set without files
  pub staged_none : (names : List Name) (disk : D) → names ≡ [] → IsClean (m.seen disk) → IsSynced (m.seen disk) (m.is_whole disk) (m.may_leave disk) → AreStaged m names None disk
  staged_none names disk none clean synced =
      let P : List Name → Type 0 = λ l. AreStaged m l None disk in
      let empty : AreStaged m [] None disk = record {
        fit = tt;
        there = λ n staged. absurd (both_ways false refl staged);
        no_other = λ n unstaged. clean (temporary n) refl;
        whole = λ n other. synced.whole n;
        named = λ lies same. absurd (none_some lies same);
        fresh = λ lies same. absurd (none_some lies same);
        uncommitted = clean_uncommitted (m.seen disk) (m.is_whole disk) (m.may_leave disk) clean synced;
      } in
      subst P (sym none) empty

  -- where a set is being written, nothing of it counts
  pub staged_left : (names : List Name) (current : Option Name) (disk : D) → AreStaged m names current disk → AreLeft m disk
  staged_left names current disk staged = record {
    whole = λ n free. staged.whole n (λ is. both_ways (is_reserved n) free (ap is_reserved is.1));
    uncommitted = staged.uncommitted;
  }

  left_reads : (old new : D) → OnlyReads m old new → AreLeft m old → AreLeft m new
  left_reads old new reads left = record {
    whole = λ n free. reads.whole n (left.whole n free);
    uncommitted = un_shrinks (m.seen old) (m.seen new) (m.may_leave old) (m.may_leave new) reads.seen reads.crash left.uncommitted;
  }

  left_step : (lies : Name) (old new : D) → IsTemporary lies → SameBut lies (m.seen old) (m.seen new) → ((n : Name) → n ≢ lies → m.is_whole old n → m.is_whole new n) → ComesBy (SameBut lies) (m.may_leave old) (m.may_leave new)
      → AreLeft m old → AreLeft m new
  left_step lies old new is others kept comes left = record {
    whole = λ n free. kept n (free_other n lies free is.res) (left.whole n free);
    uncommitted = un_step lies (m.seen old) (m.seen new) (m.may_leave old) (m.may_leave new) is others comes left.uncommitted;
  }

  pub list_ready : (names : List Name) (current : Option Name) (old new : D) → AreStaged m names current old → SameBut (temporary list_name) (m.seen old) (m.seen new)
      → m.seen new (temporary list_name) ≡ Some (list_bytes names) → ((n : Name) → m.is_whole new n) → IsUncommitted (m.seen new) (m.may_leave new) → AreReady m names new
  list_ready names current old new staged others list whole un = record {
    fit = staged.fit;
    there = λ n is.
        let free = staged_free names n staged.fit is in
        let P : Option (List ℕ) → Type 0 = λ o. IsSome o in
        subst P (sym (others (temporary n) (λ met. free_other n list_name free refl (temporary-inj n list_name met)))) (staged.there n is);
    list = list;
    whole = whole;
    uncommitted = un;
  }

  pub run_none : (old : D) → AreLeft m old → RunsUncommitted m old old
  run_none old left = record {
    same = λ n free. refl;
    left = left;
    moments = started m old (HasOldFiles (m.seen old)) (uncommitted_old (m.seen old) (m.may_leave old) left.uncommitted);
  }

  -- one call more
  run_call : (old mid new : D) → RunsUncommitted m old mid → Elapses m mid new
      → SameFree (m.seen mid) (m.seen new) → AreLeft m new → RunsUncommitted m old new
  run_call old mid new run time same left =
      let whole : SameFree (m.seen old) (m.seen new) = λ n free. same n free ∙ run.same n free in
      record {
        same = whole;
        left = left;
        moments = goes_on m old mid new (HasOldFiles (m.seen old)) run.moments time
            (λ c now. old_files_from (m.seen old) (m.seen new) c whole (uncommitted_old (m.seen new) (m.may_leave new) left.uncommitted c now));
      }

  -- one call more, which changes no file
  pub run_reads : (old mid new : D) → RunsUncommitted m old mid → OnlyReads m mid new → RunsUncommitted m old new
  run_reads old mid new run reads = run_call old mid new run reads.time (λ n free. ap (λ (f : Folder). f n) reads.seen) (left_reads mid new reads run.left)

  -- the first call for a set, which changes no file
  pub run_synced : (names : List Name) (current : Option Name) (old new : D) → AreStaged m names current old → OnlyReads m old new → RunsUncommitted m old new
  run_synced names current old new staged reads = run_reads old old new (run_none old (staged_left names current old staged)) reads

  -- one call more, for a file of a temporary name
  pub run_step : (lies : Name) (old mid new : D) → RunsUncommitted m old mid → IsTemporary lies → ChangesFile m lies mid new → RunsUncommitted m old new
  run_step lies old mid new run is changes =
      run_call old mid new run changes.time (step_free lies (m.seen mid) (m.seen new) is changes.others) (left_step lies mid new is changes.others changes.whole changes.crash run.left)

  -- some calls more, for a file of a temporary name
  pub run_steps : (lies : Name) (old mid new : D) → RunsUncommitted m old mid → IsTemporary lies → SameBut lies (m.seen mid) (m.seen new) → ((n : Name) → n ≢ lies → m.is_whole mid n → m.is_whole new n)
      → Steps m (SameBut lies) mid new → RunsUncommitted m old new
  run_steps lies old mid new run is others kept steps = record {
    same = λ n free. step_free lies (m.seen mid) (m.seen new) is others n free ∙ run.same n free;
    left = left_step lies mid new is others kept steps.crash run.left;
    moments = runs_on m old mid new (HasOldFiles (m.seen old)) (AfterStep (SameBut lies) (m.may_leave mid)) run.moments steps.moments
        (λ c has. old_files_from (m.seen old) (m.seen mid) c run.same (un_after lies (m.seen mid) (m.may_leave mid) is run.left.uncommitted c has));
  }

  -- bytes are written to the file of a set that was begun last
  pub run_written : (names : List Name) (current : Option Name) (lies : Name) (old new : D) → AreStaged m names current old → current ≡ Some lies → ChangesFile m lies old new → RunsUncommitted m old new
  run_written names current lies old new staged is changes =
      run_step lies old old new (run_none old (staged_left names current old staged)) (staged_temporary names lies staged.fit (staged.named lies is)) changes
