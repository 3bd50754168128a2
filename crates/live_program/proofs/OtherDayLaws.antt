-- A day that is refused for another that is open where it reads.
use Rattle.std.proofs.Common.{◌≡◌, ◌∙◌, ◌⊎◌, ℕ, List, Option, Result, Ok, Err, inl, inr, sym, subst}
use Rattle.std.specs.Prelude.{IfErr, IsErrOf}
use Rattle.catalogue_core.specs.Replay.{History, Opened}
use Rattle.dbf_fields.specs.declared.day.Day.{Day}
use Rattle.folders.specs.declared.finish_fault.FinishFault.{FinishFault}
use Rattle.folders.specs.declared.finish_fault.FinishFault.TheVariants as finish
use Rattle.live_day.specs.declared.run_fault.RunFault.{RunFault}
use Rattle.program_frame.proofs.BesideDay.{unrecovered_not_open as frame_not_open}
use Rattle.program_frame.specs.Endings.{place_failure}
use Rattle.program_frame.specs.Jobs.{IsUnrecovered}
use Rattle.program_frame.specs.PlaceFaults.{unplaced_files}
use Rattle.live_program.specs.Endings.{no_memory}
use Rattle.live_program.specs.Failures.{IsUnendedFrom}
use Rattle.live_program.specs.declared.lived.Lived.{Lived}
use Rattle.folders.specs.declared.named.NamedFile.{NamedFile}
use Rattle.office_run.specs.declared.fault.ServeFault.{ServeFault}
use Rattle.office_run.specs.WholeRun.{IsSaid}
use Rattle.program_frame.specs.InputDays.{FileAnswers, HasInputDay, IsInput, IsInputRefusal, IsMarkRefusal}
use Rattle.station_lines.specs.declared.setup.entry.SetupEntry.{SetupEntry}
use Rattle.live_program.specs.Marks.{IsMarkRefused}
use Rattle.live_program.specs.declared.failure.LiveFailure.TheVariants.{OwnName, Unmarked}
use Rattle.program_frame.specs.declared.ending.Failure.{Failure}
use Rattle.program_frame.specs.declared.ending.Failure.TheVariants.{BadDate, Work, Folder}
use Rattle.program_frame.specs.declared.folder.FolderFault.TheVariants.{DayOpen, Unfinished, UnknownDay, Unrecovered, Unwritten}
use Rattle.live_program.specs.OtherDays.{of_serving, IsOtherRefusal}
use Rattle.live_program.specs.declared.failure.LiveFailure.{LiveFailure}
use Rattle.live_program.specs.declared.options.Options.{Options}

module _ (answers : FileAnswers) (files : Option (List NamedFile)) (options : Options) where
  day_of : (why : Failure ServeFault) → IsInputRefusal answers files options.setup.now why → of_serving why ≡ Folder DayOpen → HasInputDay answers files options.setup.now
  day_of (Folder DayOpen) refused told = refused
  day_of BadDate refused told = absurd refused
  day_of (Work fault) refused told = absurd cc
  day_of (Folder why) refused told = absurd cc

  -- that a day is open is said only where it is
  pub other_day : {T : Type 0} (why : Failure ServeFault) (failure : Failure LiveFailure) → failure ≡ of_serving why → IsInputRefusal answers files options.setup.now why → IsErrOf {T = T} (Err failure) (Folder DayOpen)
      → HasInputDay answers files options.setup.now
  other_day why failure is refused told = let same : failure ≡ Folder DayOpen = cc in day_of why refused (sym is ∙ same)

  refusal_of : (why : Failure ServeFault) → IsInputRefusal answers files options.setup.now why → IsOtherRefusal files options (of_serving why)
  refusal_of BadDate refused = absurd refused
  refusal_of (Work fault) refused = refused
  refusal_of (Folder DayOpen) refused = tt
  refusal_of (Folder (UnknownDay log said)) refused = tt
  refusal_of (Folder why) refused = absurd refused

  -- it is why a day is not begun
  pub other_refusal : (why : Failure ServeFault) (failure : Failure LiveFailure) → failure ≡ of_serving why → IsInputRefusal answers files options.setup.now why → IsOtherRefusal files options failure
  other_refusal why failure is refused = subst (IsOtherRefusal files options) (sym is) (refusal_of why refused)

  -- so is what is said for the mark in the folder of its log
  pub mark_other : (why : Failure LiveFailure) → IsMarkRefusal answers no_memory why → IsOtherRefusal files options why
  mark_other BadDate refused = absurd refused
  mark_other (Work fault) refused = subst (λ (f : LiveFailure). IsOtherRefusal files options (Work f)) (sym refused) tt
  mark_other (Folder DayOpen) refused = tt
  mark_other (Folder Unrecovered) refused = tt
  mark_other (Folder (UnknownDay log said)) refused = tt
  mark_other (Folder why) refused = absurd refused

  -- and what is said for a folder that is to be marked
  pub marks_other : (entries : List SetupEntry) (path : List ℕ) (why : Failure LiveFailure) → IsSaid files options.setup.now (Ok entries) → IsInput options.setup.now entries path → IsMarkRefused path why
      → IsOtherRefusal files options why
  marks_other entries path BadDate said input refused = absurd refused
  marks_other entries path (Work (Unmarked own)) said input refused = (entries, path, said, input, sym refused)
  marks_other entries path (Work (OwnName own)) said input refused = (entries, path, said, input, (sym refused.0, refused.1))
  marks_other entries path (Work fault) said input refused = subst (λ (f : LiveFailure). IsOtherRefusal files options (Work f)) (sym refused) tt
  marks_other entries path (Folder DayOpen) said input refused = tt
  marks_other entries path (Folder (UnknownDay log said_of)) said input refused = tt
  marks_other entries path (Folder why) said input refused = absurd refused

-- that a day is open is never said of a folder that was not recovered
pub unrecovered_not_open : (ended : Result Lived (Failure LiveFailure)) → IfErr ended (IsUnrecovered no_memory) → IsErrOf ended (Folder DayOpen) → ⊥
unrecovered_not_open ended unbegun told = frame_not_open no_memory ended unbegun told

pub unbegun_so : (files : Option (List NamedFile)) (options : Options) (ended : Result Lived (Failure LiveFailure)) → IfErr ended (IsUnrecovered no_memory) → IfErr ended (λ why. IsUnrecovered no_memory why ⊎ IsOtherRefusal files options why)
unbegun_so files options (Ok lived) unbegun = tt
unbegun_so files options (Err why) unbegun = inl unbegun

-- ---- a day that was begun

-- nor of a day that was not begun on the tables
pub work_not_open : (fault : LiveFailure) (ended : Result Lived (Failure LiveFailure)) → ended ≡ Err (Work fault) → IsErrOf ended (Folder DayOpen) → ⊥
work_not_open fault ended is told = absurd cc

files_not_open : (why : Failure LiveFailure) (fault : FinishFault) → why ≡ place_failure no_memory (unplaced_files fault) → why ≡ Folder DayOpen → ⊥
files_not_open why finish.NoMemory is told = let clash : Work no_memory ≡ Folder DayOpen = sym is ∙ told in absurd cc
files_not_open why finish.Unwritten is told = let clash : Folder Unwritten ≡ Folder DayOpen = sym is ∙ told in absurd cc
files_not_open why finish.Unfinished is told = let clash : Folder Unfinished ≡ Folder DayOpen = sym is ∙ told in absurd cc

unended_why : (is_told : History → RunFault → Type 0) (opened : Opened) (today : Day) (why : Failure LiveFailure) → IsUnendedFrom is_told opened today why → why ≡ Folder DayOpen → ⊥
unended_why is_told opened today why h told = elim h.2 [
  | inl stopped ↦ let clash : Work stopped.0 ≡ Folder DayOpen = sym stopped.2 ∙ told in absurd cc
  | inr unclosed ↦ elim unclosed [
    | inl unwritten ↦ let clash : Work unwritten.0 ≡ Folder DayOpen = sym unwritten.2 ∙ told in absurd cc
    | inr unplaced ↦ files_not_open why unplaced.0 unplaced.1 told
  ]
]

-- nor of one that was
pub unended_not_open : (is_told : History → RunFault → Type 0) (opened : Opened) (today : Day) (ended : Result Lived (Failure LiveFailure)) → IfErr ended (IsUnendedFrom is_told opened today) → IsErrOf ended (Folder DayOpen) → ⊥
unended_not_open is_told opened today (Ok lived) h told = absurd cc
unended_not_open is_told opened today (Err why) h told = let same : why ≡ Folder DayOpen = cc in unended_why is_told opened today why h same
