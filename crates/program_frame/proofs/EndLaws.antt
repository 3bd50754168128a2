-- How work ends that writes into the folder of a disk.
use Rattle.std.proofs.Common.{◌≡◌, ◌≢◌, ℕ, ◌<◌, ◌≤◌, arith, List, [], Option, Some, None, Result, Ok, Err, inl, inr, refl, ap, ◌∙◌, subst}
use Rattle.std.specs.Prelude.{IfErr, IfSome, IsErr, IsErrAnd, IsErrOf, OnOk}
use Rattle.files_in_place.specs.Disk.{DiskMeaning, IsSyncedDisk, LeavesOnly}
use Rattle.files_in_place.specs.Folder.{recovered}
use Rattle.files_in_place.specs.Recovery.{HasOldFiles}
use Rattle.files_in_place.specs.Staged.{HasBeenReady}
use Rattle.folders.specs.declared.finish_fault.FinishFault.{FinishFault}
use Rattle.folders.specs.declared.finish_fault.FinishFault.TheVariants as finish
use Rattle.folders.specs.declared.named.NamedFile.{NamedFile}
use Rattle.folders.specs.Files.{files_in}
use Rattle.folders.specs.Placed.{names_of, AreUnreserved, IsListedAfter, IsOldOrPlaced, IsPlaced}
use Rattle.program_frame.specs.declared.ending.Failure.{Failure}
use Rattle.program_frame.specs.declared.ending.Failure.TheVariants.{BadDate, Work, Folder as OfFolder}
use Rattle.program_frame.specs.declared.folder.FolderFault.{FolderFault}
use Rattle.program_frame.specs.declared.folder.FolderFault.TheVariants.{BadList, DayOpen, InUse, UnknownDay, Unfinished, Unopened, Unrecovered, Unreplaced, Unwritten}
use Rattle.program_frame.specs.declared.folder.PlaceFault.{PlaceFault}
use Rattle.program_frame.specs.Endings.{place_failure}
use Rattle.program_frame.specs.Jobs.{AreFilesOf, IsFailureOf, IsFolderFault, IsLoadFailure, IsPlaceFailure, IsStopped, IsUnbegun}
use Rattle.program_frame.specs.PlaceFaults.{unplaced_files, IsOfBeginning}
use Rattle.program_frame.specs.Placing.{EndsInPlace, IsRecovered, RecoversAsOneOf, TellsRecovery}
use Rattle.program_frame.proofs.InPlaceLaws.{unfinished_then, unwritten_cause}
use Rattle.program_frame.proofs.PlacingLaws.{put_in_part, put_whole, recovered_in_part, recovered_ok, recovered_old, seen_at, seen_too, such_of}

module _ {D R : Type 0} (m : DiskMeaning D) (writes : List NamedFile → R → Type 0) (now : D) where
  -- all its files were put in place
  pub ends_placed : (F : Type 0) (report : R) (written : List ℕ) (origin : Option D) → IsListedAfter (λ files. writes files report) (Some []) (Some written)
      → (m.keeps_promises → IfSome origin (λ start. LeavesOnly m start now (IsOldOrPlaced written (m.seen start)))) → (m.keeps_promises → AreUnreserved (files_in written))
      → (m.keeps_promises → IfSome origin (λ start. IsPlaced written (m.seen start) (m.seen now))) → (m.keeps_promises → IsSyncedDisk m now)
      → IfSome origin (λ start. EndsInPlace {F = F} m writes (HasOldFiles (m.seen start)) (m.seen start) start now (Ok report))
  ends_placed F report written None listed since free placed synced = tt
  ends_placed F report written (Some start) listed since free placed synced = record {
    placed = λ promised. put_whole m (λ files. writes files report) [] written refl listed (Some start) start now refl (since promised) (free promised) (placed promised);
    synced = synced;
    old_files = λ promised. tt;
    seen = λ promised. tt;
    unwritten = λ told. absurd cc;
    unfinished = λ promised told. absurd cc;
  }

module _ {D R F : Type 0} (m : DiskMeaning D) (writes : List NamedFile → R → Type 0) (now : D) where
  -- it was given up
  pub ends_given_up : (fault : F) (origin : Option D) → (m.keeps_promises → IfSome origin (λ start. LeavesOnly m start now (HasOldFiles (m.seen start))))
      → IfSome origin (λ start. EndsInPlace m writes (HasOldFiles (m.seen start)) (m.seen start) start now (Err (Work fault)))
  ends_given_up fault None since = tt
  ends_given_up fault (Some start) since = record {
    placed = λ promised. tt;
    synced = λ promised. tt;
    old_files = λ promised other. since promised;
    seen = λ promised other. seen_too m promised start now _ (since promised);
    unwritten = λ told. absurd cc;
    unfinished = λ promised told. absurd cc;
  }

  -- not all its files were put in place
  pub ends_unplaced : (none : F) (report : R) (written : List ℕ) (origin : Option D) (end : ℕ) (why : FinishFault) (said : PlaceFault) (failure : Failure F) → failure ≡ place_failure none said → said ≡ unplaced_files why
      → IsListedAfter (λ files. writes files report) (Some []) (Some written)
      → (m.keeps_promises → IfSome origin (λ start. LeavesOnly m start now (IsOldOrPlaced written (m.seen start))))
      → (m.keeps_promises → why ≢ finish.Unfinished → IfSome origin (λ start. LeavesOnly m start now (HasOldFiles (m.seen start))))
      → (m.keeps_promises → why ≡ finish.Unfinished → IfSome origin (λ start. HasBeenReady m (names_of (files_in written)) (m.moment start) (m.seen start) now))
      → IfSome origin (λ start. m.faults start ≤ end) → (why ≡ finish.Unwritten → end < m.faults now)
      → IfSome origin (λ start. EndsInPlace m writes (HasOldFiles (m.seen start)) (m.seen start) start now (Err failure))
  ends_unplaced none report written None end why said failure is was listed since undone ready counted failed = tt
  ends_unplaced none report written (Some start) end why said failure is was listed since undone ready counted failed =
      let old : m.keeps_promises → failure ≢ OfFolder Unfinished → LeavesOnly m start now (HasOldFiles (m.seen start)) =
      λ promised other. undone promised (λ e. other (is ∙ ap (place_failure none) (was ∙ ap unplaced_files e))) in
      record {
        placed = λ promised. tt;
        synced = λ promised. tt;
        old_files = old;
        seen = λ promised other. seen_too m promised start now _ (old promised other);
        unwritten = λ told. unwritten_cause none {T = R} (m.faults start) end (m.faults now) why said failure is was counted failed told;
        unfinished = λ promised told. unfinished_then none {T = R} _ why said failure is was
            (λ e. put_in_part m (AreFilesOf writes) [] written refl (such_of writes report _ _ listed) (Some start) start now refl (since promised) (ready promised e) promised) told;
      }

-- it was stopped before its end, or not begun
pub ends_stopped : {D R F : Type 0} (m : DiskMeaning D) (writes : List NamedFile → R → Type 0) (fails : F → Type 0) (none : F) (start now : D) (ended : Result R (Failure F)) → IsErrAnd ended (IsStopped fails none)
    → (m.keeps_promises → LeavesOnly m start now (RecoversAsOneOf (m.may_leave start))) → EndsInPlace m writes (RecoversAsOneOf (m.may_leave start)) (recovered (m.seen start)) start now ended
ends_stopped m writes fails none start now (Ok report) stopped old = absurd stopped
ends_stopped m writes fails none start now (Err BadDate) stopped old = absurd stopped
ends_stopped m writes fails none start now (Err (Work fault)) stopped old = record {
  placed = λ promised. tt;
  synced = λ promised. tt;
  old_files = λ promised other. old promised;
  seen = λ promised other. seen_too m promised start now _ (old promised);
  unwritten = λ told. absurd cc;
  unfinished = λ promised told. absurd cc;
}
ends_stopped m writes fails none start now (Err (OfFolder why)) stopped old = record {
  placed = λ promised. tt;
  synced = λ promised. tt;
  old_files = λ promised other. old promised;
  seen = λ promised other. seen_too m promised start now _ (old promised);
  unwritten = λ told. let same : why ≡ Unwritten = cc in absurd (subst (IsFolderFault ⊥) same stopped);
  unfinished = λ promised told. let same : why ≡ Unfinished = cc in absurd (subst (IsFolderFault ⊥) same stopped);
}

pub stopped_place : {F : Type 0} (none : F) (fails : F → Type 0) (whole : Type 0) (why : Failure F) → IsStopped fails none why → IsPlaceFailure fails none whole why
stopped_place none fails whole BadDate stopped = stopped
stopped_place none fails whole (Work fault) stopped = stopped
stopped_place none fails whole (OfFolder InUse) stopped = stopped
stopped_place none fails whole (OfFolder Unopened) stopped = stopped
stopped_place none fails whole (OfFolder Unrecovered) stopped = tt
stopped_place none fails whole (OfFolder BadList) stopped = tt
stopped_place none fails whole (OfFolder (Unreplaced name)) stopped = tt
stopped_place none fails whole (OfFolder DayOpen) stopped = tt
stopped_place none fails whole (OfFolder (UnknownDay log said)) stopped = tt
stopped_place none fails whole (OfFolder Unwritten) stopped = absurd stopped
stopped_place none fails whole (OfFolder Unfinished) stopped = absurd stopped

-- why it was stopped is why its files are not in place
pub stopped_fault : {R F : Type 0} (none : F) (fails : F → Type 0) (whole : Type 0) (ended : Result R (Failure F)) → IsErrAnd ended (IsStopped fails none) → IfErr ended (IsPlaceFailure fails none whole)
stopped_fault none fails whole (Ok report) stopped = tt
stopped_fault none fails whole (Err why) stopped = stopped_place none fails whole why stopped

-- why it was not begun is why it was stopped
unbegun_why : {F : Type 0} (none : F) (fails : F → Type 0) (why : Failure F) → IsUnbegun none why → IsStopped fails none why
unbegun_why none fails BadDate unbegun = unbegun
unbegun_why none fails (Work fault) unbegun = inl unbegun
unbegun_why none fails (OfFolder InUse) unbegun = unbegun
unbegun_why none fails (OfFolder Unopened) unbegun = unbegun
unbegun_why none fails (OfFolder Unrecovered) unbegun = tt
unbegun_why none fails (OfFolder BadList) unbegun = tt
unbegun_why none fails (OfFolder (Unreplaced name)) unbegun = tt
unbegun_why none fails (OfFolder DayOpen) unbegun = tt
unbegun_why none fails (OfFolder (UnknownDay log said)) unbegun = tt
unbegun_why none fails (OfFolder Unwritten) unbegun = unbegun
unbegun_why none fails (OfFolder Unfinished) unbegun = unbegun

pub unbegun_stopped : {R F : Type 0} (none : F) (fails : F → Type 0) (ended : Result R (Failure F)) → IsErrAnd ended (IsUnbegun none) → IsErrAnd ended (IsStopped fails none)
unbegun_stopped none fails (Ok report) unbegun = unbegun
unbegun_stopped none fails (Err why) unbegun = unbegun_why none fails why unbegun

-- no load has failed then
pub unbegun_load : {R F : Type 0} (none : F) (loads : F → Type 0) (same : Type 0) (ended : Result R (Failure F)) → IsErrAnd ended (IsUnbegun none) → same → IfErr ended (IsLoadFailure loads none same)
unbegun_load none loads same (Ok report) unbegun kept = tt
unbegun_load none loads same (Err BadDate) unbegun kept = kept
unbegun_load none loads same (Err (Work fault)) unbegun kept = inl unbegun
unbegun_load none loads same (Err (OfFolder why)) unbegun kept = kept

pub stopped_err : {R F : Type 0} (are : F → Type 0) (ended : Result R F) → IsErrAnd ended are → IsErr ended
stopped_err are (Ok report) stopped = absurd stopped
stopped_err are (Err why) stopped = refl

-- what has no end has none of this
pub stopped_no_end : {R F : Type 0} (are : F → Type 0) (what : Type 0) (ended : Result R F) → IsErrAnd ended are → OnOk ended what
stopped_no_end are what (Ok report) stopped = absurd stopped
stopped_no_end are what (Err why) stopped = tt

-- what the failure of work says of the loads, its end says
pub ended_load : {R Q F : Type 0} (none : F) (loads : F → Type 0) (same : Type 0) (ended : Result R F) (now : Result Q (Failure F)) → IfErr now (IsFailureOf ended none) → IfErr ended loads → OnOk ended same
    → IfErr now (IsLoadFailure loads none same)
ended_load none loads same ended (Ok report) of load kept = tt
ended_load none loads same ended (Err BadDate) of load kept = absurd of
ended_load none loads same ended (Err (Work fault)) (inl is) load kept = inl is
ended_load none loads same (Ok report) (Err (Work fault)) (inr is) load kept = absurd cc
ended_load none loads same (Err why) (Err (Work fault)) (inr is) load kept = let same_fault : why ≡ fault = cc in inr (subst loads same_fault load)
ended_load none loads same (Ok report) (Err (OfFolder why)) of load kept = kept
ended_load none loads same (Err other) (Err (OfFolder why)) of load kept = absurd cc

module _ {D R F : Type 0} (m : DiskMeaning D) (writes : List NamedFile → R → Type 0) (start mid : D) (recovered_since : m.keeps_promises → IsRecovered m start mid) (counted : m.faults start ≤ m.faults mid) where
  -- so it ends since an earlier moment, from which on the disk was recovered
  pub ends_since : (now : D) (ended : Result R (Failure F)) → EndsInPlace m writes (HasOldFiles (m.seen mid)) (m.seen mid) mid now ended
      → EndsInPlace m writes (RecoversAsOneOf (m.may_leave start)) (recovered (m.seen start)) start now ended
  ends_since now ended ends =
      let old = λ (promised : m.keeps_promises). recovered_old m promised start mid (recovered_since promised).moments (recovered_since promised).same (λ (failure : Failure F). failure ≢ OfFolder Unfinished) now ended (ends.old_files promised) in
      record {
        placed = λ promised. recovered_ok m promised start mid (recovered_since promised).moments (recovered_since promised).same (λ report files. writes files report) now ended (ends.placed promised);
        synced = ends.synced;
        old_files = old;
        seen = λ promised. seen_at m promised start now (λ (failure : Failure F). failure ≢ OfFolder Unfinished) (RecoversAsOneOf (m.may_leave start)) ended (old promised);
        unwritten = λ told. omega (arith, counted, ends.unwritten told);
        unfinished = λ promised told. recovered_in_part m promised start mid (recovered_since promised).moments (recovered_since promised).same (AreFilesOf writes) now (ends.unfinished promised told);
      }

  -- where the folder was recovered nothing else is told of that
  pub tells_since : (now : D) (ended : Result R (Failure F)) → ((said : FolderFault) → IsOfBeginning said → ¬ IsErrOf ended (OfFolder said)) → TellsRecovery m start now ended
  tells_since now ended never = record {
    unrecovered = λ told. absurd (never Unrecovered tt told);
    unreplaced = λ name told. absurd (never (Unreplaced name) tt told);
    bad_list = λ promised told. absurd (never BadList tt told);
    untouched = λ promised bad. absurd ((recovered_since promised).good_list bad);
  }
