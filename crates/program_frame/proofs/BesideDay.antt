-- Work that is refused where a live day is open.
use Rattle.std.proofs.Common.{◌≡◌, ◌∙◌, ◌<◌, ◌≤◌, ℕ, arith, Bool, true, false, List, Result, Ok, Err, IfErr, IfOk, inl, inr, refl, sym, ap}
use Rattle.std.specs.Prelude.{◌⊎◌, IsErr, IsErrAnd, IsErrOf, OnOk}
use Rattle.files_in_place.specs.Disk.{DiskMeaning, OnlyReads}
use Rattle.files_in_place.specs.Folder.{Folder, recovered}
use Rattle.files_in_place.specs.declared.folder_lock.LockFault.{LockFault}
use Rattle.files_in_place.specs.declared.folder_lock.LockFault.TheVariants as locked
use Rattle.folders.specs.declared.named.NamedFile.{NamedFile}
use Rattle.open_day.specs.OpenDay.{has_open_day, is_open_file, log_name, mark_name}
use Rattle.program_frame.specs.BesideDay.{HasOpenDayIn, IsDayRefusal, IsLeftForDay, IsWithoutDay}
use Rattle.program_frame.specs.Endings.{place_failure}
use Rattle.program_frame.specs.InputDays.{FileAnswers, IsMarkAt, IsMarkRefusal, IsWorkRefusal}
use Rattle.program_frame.specs.Jobs.{IsLoadFailure, IsStopped, IsUnbegun, IsUnrecovered}
use Rattle.program_frame.specs.PlaceFaults.{unlocked_folder, IsOfLock}
use Rattle.program_frame.specs.Placing.{HasPut, HasPutInto, IsRecovered, RecoversAsOneOf, TellsRecovery}
use Rattle.program_frame.specs.declared.ending.Ending.{Ending}
use Rattle.program_frame.specs.declared.ending.Ending.TheVariants as ended
use Rattle.program_frame.specs.declared.ending.Failure.{Failure}
use Rattle.program_frame.specs.declared.ending.Failure.TheVariants.{BadDate, Work, Folder as OfFolder}
use Rattle.program_frame.specs.declared.folder.FolderFault.TheVariants.{BadList, DayOpen, InUse, Unfinished, UnknownDay, Unopened, Unrecovered, Unreplaced, Unwritten}
use Rattle.program_frame.specs.declared.folder.PlaceFault.{PlaceFault}

module _ {D : Type 0} (m : DiskMeaning D) (start mid now : D) where
  -- a folder that was recovered stays so where it is only read
  pub reads_recovered : IsRecovered m start mid → OnlyReads m mid now → IsRecovered m start now
  reads_recovered was reads = record {
    same = λ name. ap (λ (f : Folder). f name) reads.seen ∙ was.same name;
    moments = record {
      later = omega (arith, was.moments.later, reads.time.later);
      each = λ c left. elim (reads.time.nothing_else (m.moment start) c was.moments.later left) [
        | inl before ↦ was.moments.each c before
        | inr may ↦ was.moments.each c (m.counts_now mid (m.moment start) c was.moments.later (reads.crash c may))
      ];
      before = λ t c early left.
          let earlier : t ≤ m.moment mid = omega (arith, early, was.moments.later) in
          elim (reads.time.nothing_else t c earlier left) [
            | inl before ↦ was.moments.before t c early before
            | inr may ↦ was.moments.before t c early (m.counts_now mid t c earlier (reads.crash c may))
          ];
      keeps = λ t c early left.
          let earlier : t ≤ m.moment mid = omega (arith, early, was.moments.later) in
          reads.time.keeps t c earlier (was.moments.keeps t c early left);
    };
    synced = record {
      only = λ c may n. was.synced.only c (reads.crash c may) n ∙ sym (ap (λ (f : Folder). f n) reads.seen);
      whole = λ n. reads.whole n (was.synced.whole n);
    };
    clean = λ n reserved. ap (λ (f : Folder). f n) reads.seen ∙ was.clean n reserved;
    good_list = was.good_list;
  }

  -- what is seen in it is what recovery makes of the folder before
  pub open_before : (is : Bool) → IsRecovered m start mid → is ≡ has_open_day (m.seen mid) → has_open_day (recovered (m.seen start)) ≡ is
  open_before is was told = sym (told ∙ ap is_open_file (was.same log_name))

module _ {D R F : Type 0} (m : DiskMeaning D) (start now : D) where
  -- where it was recovered, nothing is told of recovery where something else is said
  other_tells : (why : Failure F) → (why ≡ OfFolder Unrecovered → m.faults start < m.faults now) → ((name : List ℕ) → why ≡ OfFolder (Unreplaced name) → ⊥) → (why ≡ OfFolder BadList → ⊥)
      → (m.keeps_promises → IsRecovered m start now) → TellsRecovery {R = R} {F = F} m start now (Err why)
  other_tells why unrecovered unreplaced bad was = record {
    unrecovered = λ told. unrecovered cc;
    unreplaced = λ name told. absurd (unreplaced name cc);
    bad_list = λ promised told. absurd (bad cc);
    untouched = λ promised has. absurd ((was promised).good_list has);
  }

  -- work that was refused for a day, or since that is not known
  pub refusal_tells : (none : F) (why : Failure F) → IsDayRefusal none why → (why ≡ OfFolder Unrecovered → m.faults start < m.faults now) → (m.keeps_promises → IsRecovered m start now)
      → TellsRecovery {R = R} {F = F} m start now (Err why)
  refusal_tells none BadDate refused failed was = absurd refused
  refusal_tells none (Work fault) refused failed was = other_tells (Work fault) (λ e. absurd cc) (λ name e. absurd cc) (λ e. absurd cc) was
  refusal_tells none (OfFolder DayOpen) refused failed was = other_tells (OfFolder DayOpen) (λ e. absurd cc) (λ name e. absurd cc) (λ e. absurd cc) was
  refusal_tells none (OfFolder Unrecovered) refused failed was = other_tells (OfFolder Unrecovered) failed (λ name e. absurd cc) (λ e. absurd cc) was
  refusal_tells none (OfFolder why) refused failed was = absurd refused

  -- or for what it would read
  pub input_tells : (answers : FileAnswers) (fails : F → Type 0) (none : F) (why : Failure F) → IsWorkRefusal answers fails none why → (m.keeps_promises → IsRecovered m start now)
      → TellsRecovery {R = R} {F = F} m start now (Err why)
  input_tells answers fails none BadDate refused was = absurd refused
  input_tells answers fails none (Work fault) refused was = other_tells (Work fault) (λ e. absurd cc) (λ name e. absurd cc) (λ e. absurd cc) was
  input_tells answers fails none (OfFolder DayOpen) refused was = other_tells (OfFolder DayOpen) (λ e. absurd cc) (λ name e. absurd cc) (λ e. absurd cc) was
  input_tells answers fails none (OfFolder (UnknownDay log said)) refused was = other_tells (OfFolder (UnknownDay log said)) (λ e. absurd cc) (λ name e. absurd cc) (λ e. absurd cc) was
  input_tells answers fails none (OfFolder why) refused was = absurd refused

  -- or for the mark in the folder
  pub mark_tells : (answers : FileAnswers) (none : F) (why : Failure F) → IsMarkRefusal answers none why → (why ≡ OfFolder Unrecovered → m.faults start < m.faults now) → (m.keeps_promises → IsRecovered m start now)
      → TellsRecovery {R = R} {F = F} m start now (Err why)
  mark_tells answers none BadDate refused failed was = absurd refused
  mark_tells answers none (Work fault) refused failed was = other_tells (Work fault) (λ e. absurd cc) (λ name e. absurd cc) (λ e. absurd cc) was
  mark_tells answers none (OfFolder DayOpen) refused failed was = other_tells (OfFolder DayOpen) (λ e. absurd cc) (λ name e. absurd cc) (λ e. absurd cc) was
  mark_tells answers none (OfFolder Unrecovered) refused failed was = other_tells (OfFolder Unrecovered) failed (λ name e. absurd cc) (λ e. absurd cc) was
  mark_tells answers none (OfFolder (UnknownDay log said)) refused failed was = other_tells (OfFolder (UnknownDay log said)) (λ e. absurd cc) (λ name e. absurd cc) (λ e. absurd cc) was
  mark_tells answers none (OfFolder why) refused failed was = absurd refused

module _ {F : Type 0} (answers : FileAnswers) (none : F) where
  pub unbegun_or_marked : {R : Type 0} (ended : Result R (Failure F)) → IsErrAnd ended (IsUnbegun none) → IsErrAnd ended (λ why. IsUnbegun none why ⊎ IsMarkRefusal answers none why)
  unbegun_or_marked (Ok report) unbegun = unbegun
  unbegun_or_marked (Err why) unbegun = inl unbegun

  marked_is_stopped : (fails : F → Type 0) (why : Failure F) → IsMarkRefusal answers none why → IsStopped fails none why
  marked_is_stopped fails BadDate refused = refused
  marked_is_stopped fails (Work fault) refused = inl refused
  marked_is_stopped fails (OfFolder DayOpen) refused = tt
  marked_is_stopped fails (OfFolder Unrecovered) refused = tt
  marked_is_stopped fails (OfFolder (UnknownDay log said)) refused = tt
  marked_is_stopped fails (OfFolder why) refused = absurd refused

  -- why work was not begun, where the mark in the folder was looked at, is why it was stopped
  pub unmarked_stopped : {R : Type 0} (fails : F → Type 0) (ended : Result R (Failure F)) → ((why : Failure F) → IsUnbegun none why → IsStopped fails none why)
      → IsErrAnd ended (λ why. IsUnbegun none why ⊎ IsMarkRefusal answers none why) → IsErrAnd ended (IsStopped fails none)
  unmarked_stopped fails (Ok report) so stopped = stopped
  unmarked_stopped fails (Err why) so stopped = elim stopped [ inl unbegun ↦ so why unbegun | inr marked ↦ marked_is_stopped fails why marked ]

  marked_load : (loads : F → Type 0) (same : Type 0) (why : Failure F) → IsMarkRefusal answers none why → same → IsLoadFailure loads none same why
  marked_load loads same BadDate refused is = absurd refused
  marked_load loads same (Work fault) refused is = inl refused
  marked_load loads same (OfFolder why) refused is = is

  -- and no load has failed
  pub unmarked_load : {R : Type 0} (loads : F → Type 0) (same : Type 0) (ended : Result R (Failure F)) → ((why : Failure F) → IsUnbegun none why → IsLoadFailure loads none same why)
      → IsErrAnd ended (λ why. IsUnbegun none why ⊎ IsMarkRefusal answers none why) → same → IfErr ended (IsLoadFailure loads none same)
  unmarked_load loads same (Ok report) so stopped is = tt
  unmarked_load loads same (Err why) so stopped is = elim stopped [ inl unbegun ↦ so why unbegun | inr marked ↦ marked_load loads same why marked is ]

module _ {F : Type 0} (none : F) where
  -- why work was refused for a day is why it was not begun
  pub refusal_is : (why : Failure F) → IsDayRefusal none why → IsUnbegun none why
  refusal_is BadDate refused = refused
  refusal_is (Work fault) refused = refused
  refusal_is (OfFolder DayOpen) refused = tt
  refusal_is (OfFolder Unrecovered) refused = tt
  refusal_is (OfFolder why) refused = absurd refused

  -- why a folder was not recovered is why work was not begun
  unrecovered_is : (why : Failure F) → IsUnrecovered none why → IsUnbegun none why
  unrecovered_is BadDate unbegun = unbegun
  unrecovered_is (Work fault) unbegun = unbegun
  unrecovered_is (OfFolder InUse) unbegun = unbegun
  unrecovered_is (OfFolder Unopened) unbegun = unbegun
  unrecovered_is (OfFolder Unrecovered) unbegun = unbegun
  unrecovered_is (OfFolder BadList) unbegun = unbegun
  unrecovered_is (OfFolder (Unreplaced name)) unbegun = unbegun
  unrecovered_is (OfFolder DayOpen) unbegun = tt
  unrecovered_is (OfFolder (UnknownDay log said)) unbegun = unbegun
  unrecovered_is (OfFolder Unwritten) unbegun = unbegun
  unrecovered_is (OfFolder Unfinished) unbegun = unbegun

  pub unrecovered_unbegun : {R : Type 0} (ended : Result R (Failure F)) → IsErr ended → IfErr ended (IsUnrecovered none) → IsErrAnd ended (IsUnbegun none)
  unrecovered_unbegun (Ok report) is unbegun = absurd cc
  unrecovered_unbegun (Err why) is unbegun = unrecovered_is why unbegun

  -- it never is that a day is open
  pub unrecovered_not_open : {R : Type 0} (ended : Result R (Failure F)) → IfErr ended (IsUnrecovered none) → IsErrOf ended (OfFolder DayOpen) → ⊥
  unrecovered_not_open (Ok report) unbegun told = absurd cc
  unrecovered_not_open (Err (OfFolder DayOpen)) unbegun told = unbegun
  unrecovered_not_open (Err why) unbegun told = absurd cc

  -- why work was refused for what it would read is why it was stopped
  pub work_stopped : (answers : FileAnswers) (fails : F → Type 0) (why : Failure F) → IsWorkRefusal answers fails none why → IsStopped fails none why
  work_stopped answers fails BadDate refused = refused
  work_stopped answers fails (Work fault) refused = refused
  work_stopped answers fails (OfFolder DayOpen) refused = tt
  work_stopped answers fails (OfFolder (UnknownDay log said)) refused = tt
  work_stopped answers fails (OfFolder why) refused = absurd refused

  -- the system never says of a folder that it can't open that a day is open there
  lock_not_open : (fault : PlaceFault) (failure : Failure F) → IsOfLock fault → failure ≡ place_failure none fault → failure ≡ OfFolder DayOpen → ⊥
  lock_not_open fault failure of is told = elim of.0 as (λ (w : LockFault). fault ≡ unlocked_folder w → ⊥) [
    | locked.InUse ↦ λ e. let clash : place_failure none (unlocked_folder locked.InUse) ≡ OfFolder DayOpen = sym (is ∙ ap (place_failure none) e) ∙ told in absurd cc
    | locked.NoMemory ↦ λ e. let clash : place_failure none (unlocked_folder locked.NoMemory) ≡ OfFolder DayOpen = sym (is ∙ ap (place_failure none) e) ∙ told in absurd cc
    | locked.Failed ↦ λ e. let clash : place_failure none (unlocked_folder locked.Failed) ≡ OfFolder DayOpen = sym (is ∙ ap (place_failure none) e) ∙ told in absurd cc
  ] of.1

  -- of such a folder no call says it
  pub told_not_open : {R : Type 0} (result : Result R (Failure F)) (fault : PlaceFault) → IsOfLock fault → IsErrAnd result (λ failure. failure ≡ place_failure none fault) → IsErrOf result (OfFolder DayOpen) → ⊥
  told_not_open (Ok report) fault of is told = is
  told_not_open (Err failure) fault of is told = lock_not_open fault failure of is cc

-- a call answered this fault where the fault that is told of it is this one
pub told_so : {S T E : Type 0} (result : Result S E) (why fault : E) → result ≡ Err why → IsErrOf {T = T} (Err why) fault → IsErrOf result fault
told_so result why fault is told = cc (is, told)

-- that a day is open was said in the folder that is meant, or for what the work would read
pub asked_day : {D : Type 0} (m : DiskMeaning D) (answers : FileAnswers) (is_folder : D → Type 0) (input : Type 0) (start now : D) → is_folder start → IsLeftForDay m answers input start now
    → HasOpenDayIn m answers is_folder ⊎ input
asked_day m answers is_folder input start now meant left = elim left [
  | inl here ↦ inl (record { disk = start; meant = meant; is_open = inl (λ promised. (here promised).open_before) })
  | inr there ↦ elim there [
    | inl marked ↦ inl (record { disk = start; meant = meant; is_open = inr (λ promised. (marked promised).marked_before) })
    | inr read ↦ inr read.0
  ]
]

-- ---- a folder without an open day

not_open : (is : Bool) → (is ≡ true → ⊥) → is ≡ false
not_open true never = absurd (never refl)
not_open false never = refl

-- a folder that was opened is without a day where work came to its end in it that is refused beside one
pub without_day : {D R F : Type 0} (m : DiskMeaning D) (answers : FileAnswers) (is_folder : D → Type 0) (is_refusal : F → Type 0) (start : D) (ended : Result R F) → is_folder start
    → (m.keeps_promises → has_open_day (recovered (m.seen start)) ≡ true → IsErrAnd ended is_refusal)
    → (m.keeps_promises → OnOk ended (IsMarkAt answers (recovered (m.seen start) mark_name) false)) → IfOk ended (λ _. IsWithoutDay m answers is_folder start)
without_day m answers is_folder is_refusal start (Ok report) meant refused unmarked = record {
  meant = meant;
  closed = λ promised. not_open (has_open_day (recovered (m.seen start))) (refused promised);
  unmarked = unmarked;
}
without_day m answers is_folder is_refusal start (Err failure) meant refused unmarked = tt

-- files that were put into a folder that was opened, where work is refused beside an open day
pub put_without_day : {D R F : Type 0} (m : DiskMeaning D) (answers : FileAnswers) (is_folder : D → Type 0) (are_such : R → List NamedFile → Type 0) (is_refusal : F → Type 0) (start now : D) (ended : Result R F) → is_folder start
    → (m.keeps_promises → has_open_day (recovered (m.seen start)) ≡ true → IsErrAnd ended is_refusal)
    → (m.keeps_promises → OnOk ended (IsMarkAt answers (recovered (m.seen start) mark_name) false))
    → (m.keeps_promises → IfOk ended (λ report. HasPut m (are_such report) (RecoversAsOneOf (m.may_leave start)) (recovered (m.seen start)) start now))
    → IfOk ended (λ report. HasPutInto m (IsWithoutDay m answers is_folder) (are_such report))
put_without_day m answers is_folder are_such is_refusal start now (Ok report) meant refused unmarked put = record {
  start = start;
  end = now;
  opened = record { meant = meant; closed = λ promised. not_open (has_open_day (recovered (m.seen start))) (refused promised); unmarked = unmarked };
  put = put;
}
put_without_day m answers is_folder are_such is_refusal start now (Err failure) meant refused unmarked put = tt

-- ---- what a program says of its command line

module _ {R F : Type 0} where
  -- it says what its work said
  pub said_open : (result : Result R (Ending (Failure F))) (why : Failure F) → IsErrAnd result (λ ending. ending ≡ ended.Failed why) → IsErrOf result (ended.Failed (OfFolder DayOpen)) → why ≡ OfFolder DayOpen
  said_open (Ok report) why is told = absurd is
  said_open (Err ending) why is told =
      let same : ending ≡ ended.Failed (OfFolder DayOpen) = cc in
      let both : ended.Failed why ≡ ended.Failed (OfFolder DayOpen) = sym is ∙ same in
      cc

  -- it never says so of words that are not read, where these are not told so
  pub unread_said : (result : Result R (Ending (Failure F))) (why : Ending (Failure F)) → IsErrAnd result (λ ending. ending ≡ why) → (why ≡ ended.Failed (OfFolder DayOpen) → ⊥) → IsErrOf result (ended.Failed (OfFolder DayOpen)) → ⊥
  unread_said (Ok report) why is never told = is
  unread_said (Err ending) why is never told = let same : ending ≡ ended.Failed (OfFolder DayOpen) = cc in never (sym is ∙ same)
