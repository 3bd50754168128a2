-- Work whose files are in place, or why they are not.
use Rattle.std.proofs.Common.{◌≡◌, ◌⊎◌, ℕ, ◌<◌, ◌≤◌, arith, Bool, true, false, Option, Some, None, Err, inl, inr, refl, ap, sym, ◌∙◌, subst}
use Rattle.std.specs.Prelude.{IsErrOf}
use Rattle.files_in_place.specs.declared.faults.RecoveryFault.{RecoveryFault}
use Rattle.files_in_place.specs.declared.faults.RecoveryFault.TheVariants as recovery
use Rattle.files_in_place.specs.declared.faults.SetFault.{SetFault}
use Rattle.files_in_place.specs.declared.faults.SetFault.TheVariants as set
use Rattle.folders.specs.declared.finish_fault.FinishFault.{FinishFault}
use Rattle.folders.specs.declared.finish_fault.FinishFault.TheVariants as finish
use Rattle.program_frame.specs.declared.ending.Failure.{Failure}
use Rattle.program_frame.specs.declared.ending.Failure.TheVariants.{Work, Folder as OfFolder}
use Rattle.program_frame.specs.declared.folder.FolderFault.{FolderFault}
use Rattle.program_frame.specs.declared.folder.FolderFault.TheVariants.{Unwritten, Unfinished}
use Rattle.program_frame.specs.declared.folder.PlaceFault.{PlaceFault}
use Rattle.program_frame.specs.declared.folder.PlaceFault.TheVariants.{NoMemory, Folder}
use Rattle.program_frame.specs.Endings.{place_failure}
use Rattle.program_frame.specs.Jobs.{given_up, IsLoadFailure, IsPlaceFailure}
use Rattle.program_frame.specs.PlaceFaults.{unplaced_files, unrecovered_folder, IsOfBeginning, IsOfRecovery}
use Rattle.program_frame.proofs.PlacingLaws.{never_unbegun, recovery_said, unfinished_only, unwritten_only}

module _ {F : Type 0} (none : F) where
  -- ---- what a failure says of its folder

  told_of : {T : Type 0} (said : FolderFault) (fault : PlaceFault) (failure : Failure F) → failure ≡ place_failure none fault → IsErrOf {T = T} (Err failure) (OfFolder said) → fault ≡ Folder said
  told_of said NoMemory failure is e =
      let told : failure ≡ OfFolder said = cc in
      let clash : Work none ≡ OfFolder said = sym is ∙ told in
      absurd cc
  told_of said (Folder why) failure is e =
      let told : failure ≡ OfFolder said = cc in
      let same = sym is ∙ told in
      cc

  -- ---- files that were not put in place

  place_fault : (fails : F → Type 0) (ended : Type 0) (why : FinishFault) → ended → IsPlaceFailure fails none ended (place_failure none (unplaced_files why))
  place_fault fails ended finish.NoMemory whole = inl refl
  place_fault fails ended finish.Unwritten whole = whole
  place_fault fails ended finish.Unfinished whole = whole

  -- the work came to its end
  pub unplaced : (fails : F → Type 0) (ended : Type 0) (why : FinishFault) (fault : PlaceFault) (failure : Failure F) → failure ≡ place_failure none fault → fault ≡ unplaced_files why → ended
      → IsPlaceFailure fails none ended failure
  unplaced fails ended why fault failure is was whole = subst (IsPlaceFailure fails none ended) (sym (is ∙ ap (place_failure none) was)) (place_fault fails ended why whole)

  -- it is not that the work was not begun
  pub begun_before : {T : Type 0} (why : FinishFault) (said : FolderFault) (fault : PlaceFault) (failure : Failure F) → IsOfBeginning said → failure ≡ place_failure none fault → fault ≡ unplaced_files why → IsErrOf {T = T} (Err failure) (OfFolder said) → ⊥
  begun_before {T} why said fault failure un is was e = never_unbegun why said un (sym was ∙ told_of {T = T} said fault failure is e)

  -- it is said only where the disk has failed
  pub unwritten_cause : {T : Type 0} (before end now : ℕ) (why : FinishFault) (said : PlaceFault) (failure : Failure F) → failure ≡ place_failure none said → said ≡ unplaced_files why → before ≤ end → (why ≡ finish.Unwritten → end < now)
      → IsErrOf {T = T} (Err failure) (OfFolder Unwritten) → before < now
  unwritten_cause {T} before end now why said failure is was counted failed e =
      let told : why ≡ finish.Unwritten = unwritten_only why (sym was ∙ told_of {T = T} Unwritten said failure is e) in
      omega (arith, counted, failed told)

  -- what is true where some of them may be in place
  pub unfinished_then : {T : Type 0} (P : Type 0) (why : FinishFault) (said : PlaceFault) (failure : Failure F) → failure ≡ place_failure none said → said ≡ unplaced_files why → (why ≡ finish.Unfinished → P)
      → IsErrOf {T = T} (Err failure) (OfFolder Unfinished) → P
  unfinished_then {T} P why said failure is was then e = then (unfinished_only why (sym was ∙ told_of {T = T} Unfinished said failure is e))

  -- ---- a folder that was not recovered

  -- what is said of that
  pub unrecovered_said : {T : Type 0} (why : RecoveryFault) (said : FolderFault) (fault : PlaceFault) (failure : Failure F) → failure ≡ place_failure none fault → fault ≡ unrecovered_folder why → IsErrOf {T = T} (Err failure) (OfFolder said)
      → unrecovered_folder why ≡ Folder said
  unrecovered_said {T} why said fault failure is was e = sym was ∙ told_of {T = T} said fault failure is e

  -- nothing else is
  pub unrecovered_only : {T : Type 0} (why : RecoveryFault) (said : FolderFault) (fault : PlaceFault) (failure : Failure F) → failure ≡ place_failure none fault → fault ≡ unrecovered_folder why → IsErrOf {T = T} (Err failure) (OfFolder said)
      → IsOfRecovery said
  unrecovered_only {T} why said fault failure is was e = recovery_said why said (unrecovered_said {T = T} why said fault failure is was e)

  unrecovered_place : (fails : F → Type 0) (ended : Type 0) (why : RecoveryFault) → IsPlaceFailure fails none ended (place_failure none (unrecovered_folder why))
  unrecovered_place fails ended recovery.NoMemory = inl refl
  unrecovered_place fails ended recovery.Failed = tt
  unrecovered_place fails ended recovery.BadList = tt
  unrecovered_place fails ended (recovery.Unreplaced name) = tt

  pub unrecovered_fault : (fails : F → Type 0) (ended : Type 0) (why : RecoveryFault) (fault : PlaceFault) (failure : Failure F) → failure ≡ place_failure none fault → fault ≡ unrecovered_folder why → IsPlaceFailure fails none ended failure
  unrecovered_fault fails ended why fault failure is was = subst (IsPlaceFailure fails none ended) (sym (is ∙ ap (place_failure none) was)) (unrecovered_place fails ended why)

  -- ---- loads

  place_load : (loads : F → Type 0) (same : Type 0) (fault : PlaceFault) → same → IsLoadFailure loads none same (place_failure none fault)
  place_load loads same NoMemory kept = inl refl
  place_load loads same (Folder why) kept = kept

  -- where no load has failed, none has where new files are not in place
  pub unplaced_load : (loads : F → Type 0) (same : Type 0) (fault : PlaceFault) (failure : Failure F) → failure ≡ place_failure none fault → same → IsLoadFailure loads none same failure
  unplaced_load loads same fault failure is kept = subst (IsLoadFailure loads none same) (sym is) (place_load loads same fault kept)

  -- ---- work that was given up

  given_up_case : (P : F → Type 0) (unwritten : Bool) (last : Option SetFault) (fault : F) → P fault → (given_up unwritten none last fault ≡ none) ⊎ P (given_up unwritten none last fault)
  given_up_case P true None fault h = inr h
  given_up_case P true (Some set.Closed) fault h = inr h
  given_up_case P true (Some set.BadName) fault h = inr h
  given_up_case P true (Some set.SameName) fault h = inr h
  given_up_case P true (Some set.NotBegun) fault h = inr h
  given_up_case P true (Some set.NoMemory) fault h = inl refl
  given_up_case P true (Some set.Failed) fault h = inr h
  given_up_case P false last fault h = inr h

  -- it is want of memory, or what holds of the fault of the work holds of it
  pub given_up_keeps : (P : F → Type 0) (unwritten : Bool) (last : Option SetFault) (fault left : F) → left ≡ given_up unwritten none last fault → P fault → (left ≡ none) ⊎ P left
  given_up_keeps P unwritten last fault left is h = subst (λ (f : F). (f ≡ none) ⊎ P f) (sym is) (given_up_case P unwritten last fault h)
