-- What a crash leaves of a folder since new files for it began.
use Rattle.std.proofs.Common.{◌≡◌, ◌≢◌, ◌⊎◌, inl, inr, ℕ, ◌+◌, ◌<◌, ◌≤◌, List, false, Option, None, Some, IfSome, arith, refl, sym, ◌∙◌, ap, subst}
use Rattle.std.proofs.lemmas.Bool.{cases_Bool, both_ways}
use Rattle.files_in_place.proofs.Runs.{leaves_by, runs_on}
use Rattle.files_in_place.proofs.Uncommitted.{old_files_from}
use Rattle.files_in_place.specs.Disk.{DiskMeaning, LeavesOnly}
use Rattle.files_in_place.specs.Faults.{IsOfDisk}
use Rattle.files_in_place.specs.Folder.{Name, Folder, SameBut, is_reserved, temporary, first_of}
use Rattle.files_in_place.specs.Recovery.{HasOldFiles, SameFree}
use Rattle.files_in_place.specs.Staged.{Set, HasBeenReady}
use Rattle.files_in_place.specs.declared.phase.Phase.{Phase}
use Rattle.files_in_place.specs.declared.phase.Phase.TheVariants.{Staging, Failed, Ended}
use Rattle.files_in_place.specs.declared.faults.SetFault.{SetFault}
use Rattle.files_in_place.specs.declared.faults.SetFault.TheVariants as F
use Rattle.folders.specs.declared.finish_fault.FinishFault.{FinishFault}
use Rattle.folders.specs.declared.finish_fault.FinishFault.TheVariants as finish
use Rattle.folders.specs.declared.named.NamedFile.{NamedFile}
use Rattle.folders.specs.Files.{file_at, files_in}
use Rattle.folders.specs.Placed.{with_files, AreWritten, IsCurrent, IsOldOrPlaced, IsPlaced, KeepsOld}

some_is : (a b : Name) → Some a ≡ Some b → a ≡ b
some_is a b same = ap (λ (o : Option Name). elim o [ Some m ↦ m | None ↦ a ]) same

-- ---- names

-- a name that isn't reserved is no temporary one
free_apart : (name n : Name) → is_reserved n ≡ false → n ≢ temporary name
free_apart name n free is = both_ways (is_reserved n) free (ap is_reserved is)

-- a file that begins touches no name that isn't reserved
pub begun_free : (name : Name) (old new : Folder) → SameBut (temporary name) old new → SameFree old new
begun_free name old new others n free = others n (free_apart name n free)

current_apart : (files : List NamedFile) (current : Option Name) (n : Name) → IsCurrent files current → is_reserved n ≡ false → current ≢ Some n
current_apart files None n last free is = absurd cc
current_apart files (Some lies) n last free is = free_apart last.last.name n free (sym (some_is lies n is) ∙ some_is lies (temporary last.last.name) last.begun)

-- nor does what is written
pub written_free : (written : List ℕ) (names : List Name) (current : Option Name) (old new : Folder) → AreWritten written names current old → ((n : Name) → current ≢ Some n → new n ≡ old n) → SameFree old new
written_free written names current old new w others n free = others n (current_apart w.files current n w.last free)

-- files stand in the same way in a folder that has the same files
pub with_files_same : (files : List NamedFile) (old mid : Folder) → SameFree old mid → (n : Name) → with_files files mid n ≡ with_files files old n
with_files_same files old mid same n = elim (cases_Bool (is_reserved n)) [
  | inl reserved ↦ rw reserved refl
  | inr free ↦ rw free (ap (first_of (file_at files n)) (same n free))
]

-- what stands for the old files or the new ones, where the old ones are the same
placed_from : (written : List ℕ) (old mid c : Folder) → SameFree old mid → IsOldOrPlaced written mid c → IsOldOrPlaced written old c
placed_from written old mid c same either = elim either [
  | inl was ↦ inl (old_files_from old mid c same was)
  | inr will ↦ inr (λ n. will n ∙ with_files_same (files_in written) old mid same n)
]

-- ---- phases

ended_or : (phase : Phase) → (phase ≡ Ended) ⊎ (phase ≢ Ended)
ended_or Ended = inl refl
ended_or Staging = inr (λ is. absurd cc)
ended_or Failed = inr (λ is. absurd cc)

staging_or : (phase : Phase) → (phase ≡ Staging) ⊎ (phase ≢ Staging)
staging_or Staging = inl refl
staging_or Failed = inr (λ is. absurd cc)
staging_or Ended = inr (λ is. absurd cc)

pub not_ended : (phase : Phase) → phase ≡ Staging → phase ≢ Ended
not_ended phase staging ended = let clash : Staging ≡ Ended = sym staging ∙ ended in absurd cc

-- what is said of a set that can still be abandoned
pub going : (phase : Phase) (said : FinishFault) → (phase ≡ Ended → said ≡ finish.Unfinished) → said ≢ finish.Unfinished → phase ≢ Ended
going phase said ended other is = other (ended is)

-- some of the new files are said to be in place only where none can be removed any more
pub has_ended : (phase : Phase) (fault : SetFault) (said : FinishFault) → (phase ≢ Ended → fault ≡ F.NoMemory → said ≡ finish.NoMemory) → (phase ≢ Ended → fault ≢ F.NoMemory → said ≡ finish.Unwritten) → IsOfDisk fault
    → said ≡ finish.Unfinished → phase ≡ Ended
has_ended phase fault said memory other of is = elim (ended_or phase) [
  | inl ended ↦ ended
  | inr goes ↦ elim of [
    | inl none ↦ let clash : finish.NoMemory ≡ finish.Unfinished = sym (memory goes none) ∙ is in absurd cc
    | inr failed ↦
        let was : said ≡ finish.Unwritten = other goes (λ none. let clash : F.Failed ≡ F.NoMemory = sym failed ∙ none in absurd cc) in
        let clash : finish.Unwritten ≡ finish.Unfinished = sym was ∙ is in
        absurd cc
  ]
]

-- new files are said to be unwritten only where the disk has failed
pub disk_failed : (phase : Phase) (fault : SetFault) (said : FinishFault) → (phase ≡ Ended → said ≡ finish.Unfinished) → (phase ≢ Ended → fault ≡ F.NoMemory → said ≡ finish.NoMemory) → IsOfDisk fault → said ≡ finish.Unwritten → fault ≡ F.Failed
disk_failed phase fault said ended memory of is = elim of [
  | inl none ↦ elim (ended_or phase) [
    | inl end ↦ let was : said ≡ finish.Unfinished = ended end in let clash : finish.Unfinished ≡ finish.Unwritten = sym was ∙ is in absurd cc
    | inr goes ↦ let was : said ≡ finish.NoMemory = memory goes none in let clash : finish.NoMemory ≡ finish.Unwritten = sym was ∙ is in absurd cc
  ]
  | inr failed ↦ failed
]

-- a count that has risen is not zero
pub has_risen : (before after : ℕ) → after ≡ before + 1 → after ≢ 0
has_risen before after rose none = omega (arith, rose, none)

pub rises_through : (before mid after : ℕ) → before < mid → mid ≤ after → before < after
rises_through before mid after rose later = omega (arith, rose, later)

-- the disk has failed as often as at the beginning, or more often
pub fails_on : {D : Type 0} (origin : Option D) (faults : D → ℕ) (old new : D) → faults old ≤ faults new → IfSome origin (λ start. faults start ≤ faults old) → IfSome origin (λ start. faults start ≤ faults new)
fails_on None faults old new later was = tt
fails_on (Some start) faults old new later was = omega (arith, later, was)

-- ---- moments

-- what is said of the beginning, where it is this
pub since_this : {D : Type 0} (origin : Option D) (start : D) (P : D → Type 0) → origin ≡ Some start → IfSome origin P → P start
since_this {D} origin start P is since = subst (λ (o : Option D). IfSome o P) is since

-- what follows of any beginning that is asked for
pub since_any : {D : Type 0} (origin : Option D) (P Q : D → Type 0) → ((start : D) → P start → Q start) → IfSome origin P → IfSome origin Q
since_any None P Q follows was = tt
since_any (Some start) P Q follows was = follows start was

module _ {D : Type 0} (m : DiskMeaning D) where
  -- what is left has more
  pub leaves_as : (start now : D) (P Q : Folder → Type 0) → LeavesOnly m start now P → ((c : Folder) → P c → Q c) → LeavesOnly m start now Q
  leaves_as start now P Q leaves more = leaves_by m start now P Q leaves more

  -- a run more
  pub leaves_on : (start mid now : D) (P Q R : Folder → Type 0) → LeavesOnly m start mid P → LeavesOnly m mid now Q → ((c : Folder) → P c → R c) → ((c : Folder) → Q c → R c)
      → LeavesOnly m start now R
  leaves_on start mid now P Q R first second of_first of_second = runs_on m start mid now R Q (leaves_as start mid P R first of_first) second of_second

  -- one call more on files that are written
  keeps_on : (start : D) (old new : Set D) → old.phase ≡ Staging → LeavesOnly m old.disk new.disk (HasOldFiles (m.seen old.disk)) → SameFree (m.seen old.disk) (m.seen new.disk)
      → KeepsOld m start old → KeepsOld m start new
  keeps_on start old new staging leaves same was =
      let before : SameFree (m.seen start) (m.seen old.disk) = was.same (not_ended old.phase staging) in
      record {
        same = λ _ n free. same n free ∙ before n free;
        leaves = leaves_on start old.disk new.disk (HasOldFiles (m.seen start)) (HasOldFiles (m.seen old.disk)) (HasOldFiles (m.seen start)) was.leaves leaves
            (λ c has. has) (λ c has. old_files_from (m.seen start) (m.seen old.disk) c before has);
      }

  -- so it is of a call that may be refused
  pub keeps_after : (start : D) (old new : Set D) → (old.phase ≢ Staging → new ≡ old) → (old.phase ≡ Staging → LeavesOnly m old.disk new.disk (HasOldFiles (m.seen old.disk)))
      → (old.phase ≡ Staging → SameFree (m.seen old.disk) (m.seen new.disk)) → KeepsOld m start old → KeepsOld m start new
  keeps_after start old new closed leaves same was = elim (staging_or old.phase) [
    | inl staging ↦ keeps_on start old new staging (leaves staging) (same staging) was
    | inr other ↦ subst (λ (s : Set D). KeepsOld m start s) (sym (closed other)) was
  ]

  -- files that are removed, or could not be
  pub keeps_removed : (start : D) (old new : Set D) → (old.phase ≡ Ended → new ≡ old) → (old.phase ≢ Ended → LeavesOnly m old.disk new.disk (HasOldFiles (m.seen old.disk)))
      → (old.phase ≢ Ended → new.phase ≢ Ended → SameFree (m.seen old.disk) (m.seen new.disk)) → KeepsOld m start old → KeepsOld m start new
  keeps_removed start old new closed leaves same was = elim (ended_or old.phase) [
    | inl ended ↦ subst (λ (s : Set D). KeepsOld m start s) (sym (closed ended)) was
    | inr goes ↦ record {
      same = λ still n free. same goes still n free ∙ was.same goes n free;
      leaves = leaves_on start old.disk new.disk (HasOldFiles (m.seen start)) (HasOldFiles (m.seen old.disk)) (HasOldFiles (m.seen start)) was.leaves (leaves goes)
          (λ c has. has) (λ c has. old_files_from (m.seen start) (m.seen old.disk) c (was.same goes) has);
    }
  ]

  -- files that are put in place
  pub placed_since : (start : D) (old : Set D) (now : D) (written : List ℕ) → old.phase ≡ Staging → LeavesOnly m old.disk now (IsOldOrPlaced written (m.seen old.disk))
      → KeepsOld m start old → LeavesOnly m start now (IsOldOrPlaced written (m.seen start))
  placed_since start old now written staging leaves was =
      let before : SameFree (m.seen start) (m.seen old.disk) = was.same (not_ended old.phase staging) in
      leaves_on start old.disk now (HasOldFiles (m.seen start)) (IsOldOrPlaced written (m.seen old.disk)) (IsOldOrPlaced written (m.seen start)) was.leaves leaves
      (λ c has. inl has) (λ c either. placed_from written (m.seen start) (m.seen old.disk) c before either)

  -- files that are removed again
  pub kept_since : (start : D) (old : Set D) (now : D) → old.phase ≡ Staging → LeavesOnly m old.disk now (HasOldFiles (m.seen old.disk))
      → KeepsOld m start old → LeavesOnly m start now (HasOldFiles (m.seen start))
  kept_since start old now staging leaves was =
      let before : SameFree (m.seen start) (m.seen old.disk) = was.same (not_ended old.phase staging) in
      leaves_on start old.disk now (HasOldFiles (m.seen start)) (HasOldFiles (m.seen old.disk)) (HasOldFiles (m.seen start)) was.leaves leaves
      (λ c has. has) (λ c has. old_files_from (m.seen start) (m.seen old.disk) c before has)

  -- what holds of the old files holds after files that were not put in place are removed, where they can be
  pub undone_leaves : (old : D) (mid new : Set D) (out : D) (P : Folder → Type 0) → out ≡ new.disk → LeavesOnly m old mid.disk P → ((c : Folder) → HasOldFiles (m.seen old) c → P c)
      → (mid.phase ≢ Ended → SameFree (m.seen old) (m.seen mid.disk)) → (mid.phase ≡ Ended → new ≡ mid) → (mid.phase ≢ Ended → LeavesOnly m mid.disk new.disk (HasOldFiles (m.seen mid.disk)))
      → LeavesOnly m old out P
  undone_leaves old mid new out P is leaves of_old same kept more = subst (λ (d : D). LeavesOnly m old d P) (sym is) (elim (ended_or mid.phase) [
    | inl ended ↦ subst (λ (s : Set D). LeavesOnly m old s.disk P) (sym (kept ended)) leaves
    | inr goes ↦ leaves_on old mid.disk new.disk P (HasOldFiles (m.seen mid.disk)) P leaves (more goes) (λ c p. p) (λ c has. of_old c (old_files_from (m.seen old) (m.seen mid.disk) c (same goes) has))
  ])

-- files that are in place in the folder of the beginning
pub placed_from_start : {D : Type 0} (m : DiskMeaning D) (written : List ℕ) (start : D) (old : Set D) (now : D) → old.phase ≡ Staging
    → IsPlaced written (m.seen old.disk) (m.seen now) → KeepsOld m start old → IsPlaced written (m.seen start) (m.seen now)
placed_from_start m written start old now staging placed was n = placed n ∙ with_files_same (files_in written) (m.seen start) (m.seen old.disk) (was.same (not_ended old.phase staging)) n

-- files that were ready in a call were so since the beginning
pub ready_since : {D : Type 0} (m : DiskMeaning D) (names : List Name) (start : D) (old : Set D) (now : D) → old.phase ≡ Staging
    → HasBeenReady m names (m.moment old.disk) (m.seen old.disk) now → KeepsOld m start old → HasBeenReady m names (m.moment start) (m.seen start) now
ready_since m names start old now staging been was = record {
  earlier = been.earlier;
  since = omega (arith, been.since, was.leaves.later);
  later = been.later;
  reached = been.reached;
  ready = been.ready;
  same = λ n free. been.same n free ∙ was.same (not_ended old.phase staging) n free;
}
