-- The marks of a day: one folder after another, and one entry of its setup after another.
use Rattle.std.proofs.Common.{◌≡◌, ◌≢◌, ◌⊎◌, ◌++◌, ◌∷◌, [], ℕ, ◌+◌, ◌<◌, ◌≤◌, arith, true, false, List, Option, Some, Result, Ok, Err, eqb, get_or, length, inl, inr, refl, sym, subst, ◌∙◌}
use Rattle.std.proofs.lemmas.Bool.{cases_Bool, eqb-false, eqb-true}
use Rattle.std.proofs.lemmas.Option.{slice_get_read}
use Rattle.std.proofs.lemmas.List.Elements.{Contains-push_cases}
use Rattle.std.specs.List.{AllByRecursion, Contains, IsDistinct}
use Rattle.std.specs.Prelude.{IfErr, IsErrAnd, IsErrOf, OnOk}
use Rattle.files_in_place.specs.Disk.{DiskMeaning}
use Rattle.folders.specs.declared.named.NamedFile.{NamedFile}
use Rattle.byte_io.specs.Sink.{grown}
use Rattle.folders.proofs.ListingLaws.{files_again}
use Rattle.folders.specs.Files.{listing, IsOfBytes}
use Rattle.folders.specs.Paths.{folder_of_path}
use Rattle.folders.specs.Placed.{IsListedAfter}
use Rattle.office_run.specs.declared.fault.ServeFault.{ServeFault}
use Rattle.office_run.specs.declared.fault.ServeFault.TheVariants as serve
use Rattle.office_run.specs.WholeRun.{IsReadFault, IsSaid}
use Rattle.open_day.specs.OpenDay.{is_day_file, mark_name}
use Rattle.program_frame.specs.InputDays.{FileAnswers, IsInput, IsNamedBy}
use Rattle.files_in_place.specs.declared.folder_lock.LockFault.TheVariants as lock
use Rattle.program_frame.specs.Endings.{place_failure}
use Rattle.program_frame.specs.PlaceFaults.{IsOfLock}
use Rattle.program_frame.specs.declared.folder.PlaceFault.{PlaceFault}
use Rattle.program_frame.specs.declared.ending.Failure.{Failure}
use Rattle.program_frame.specs.declared.ending.Failure.TheVariants as failure
use Rattle.program_frame.specs.declared.folder.FolderFault.{FolderFault}
use Rattle.program_frame.specs.declared.folder.FolderFault.TheVariants as folder
use Rattle.station_lines.specs.declared.setup.entry.SetupEntry.{SetupEntry}
use Rattle.station_lines.specs.declared.setup.entry.SetupEntry.TheVariants.{Table}
use Rattle.live_program.specs.Closings.{file_of_bytes}
use Rattle.live_program.specs.Endings.{no_memory}
use Rattle.live_program.specs.Marks.{mark_file, unmarked_for, AreMarked, AreMarkedAmong, IsMarked, IsMarkPut, IsMarkRefused, IsUnfound}
use Rattle.live_program.specs.OtherDays.{others_answer, IsOtherRefusal}
use Rattle.live_program.specs.declared.failure.LiveFailure.{LiveFailure}
use Rattle.live_program.specs.declared.failure.LiveFailure.TheVariants as live
use Rattle.live_program.specs.declared.options.Options.{Options}

-- ---- one folder

-- what is said of a folder that is to be marked is why it has not got the mark
refused_for : (path : List ℕ) (why : Failure LiveFailure) → IsMarkRefused path (unmarked_for path why)
refused_for path failure.BadDate = refl
refused_for path (failure.Folder folder.DayOpen) = tt
refused_for path (failure.Folder (folder.UnknownDay log said)) = tt
refused_for path (failure.Folder why) = refl
refused_for path (failure.Work (live.Serve serve.NoMemory)) = refl
refused_for path (failure.Work why) = refl

pub refused_as : (path : List ℕ) (why told : Failure LiveFailure) → (told ≡ failure.Work no_memory) ⊎ (told ≡ unmarked_for path why) → IsMarkRefused path told
refused_as path why told (inl is) = subst (IsMarkRefused path) (sym is) refl
refused_as path why told (inr is) = subst (IsMarkRefused path) (sym is) (refused_for path why)

-- that a day is open there is said only where the work has said it
open_for : (path : List ℕ) (why : Failure LiveFailure) → unmarked_for path why ≡ failure.Folder folder.DayOpen → why ≡ failure.Folder folder.DayOpen
open_for path failure.BadDate told = absurd cc
open_for path (failure.Folder folder.DayOpen) told = refl
open_for path (failure.Folder (folder.UnknownDay log said)) told = absurd cc
open_for path (failure.Folder why) told = absurd cc
open_for path (failure.Work (live.Serve serve.NoMemory)) told = absurd cc
open_for path (failure.Work why) told = absurd cc

pub open_as : (path : List ℕ) (why told : Failure LiveFailure) → (told ≡ failure.Work no_memory) ⊎ (told ≡ unmarked_for path why) → told ≡ failure.Folder folder.DayOpen → why ≡ failure.Folder folder.DayOpen
open_as path why told (inl is) said = let clash : failure.Work no_memory ≡ failure.Folder folder.DayOpen = sym is ∙ said in absurd cc
open_as path why told (inr is) said = open_for path why (sym is ∙ said)

day_is : (fault : FolderFault) (why : Failure LiveFailure) → why ≡ failure.Folder fault → why ≡ failure.Folder folder.DayOpen → fault ≡ folder.DayOpen
day_is fault why is told = cc

-- it never is where the folder was not opened
pub unopened_not_open : (why : Failure LiveFailure) → (why ≡ failure.Work no_memory) ⊎ ((fault : FolderFault) × (why ≡ failure.Folder fault) × (fault ≢ folder.DayOpen)) → why ≡ failure.Folder folder.DayOpen → ⊥
unopened_not_open why (inl is) told = let clash : failure.Work no_memory ≡ failure.Folder folder.DayOpen = sym is ∙ told in absurd cc
unopened_not_open why (inr is) told = is.2 (day_is is.0 why is.1 told)

-- a file with the name of one of a day's own
pub own_refused : (path : List ℕ) (why : LiveFailure) → (why ≡ no_memory) ⊎ (why ≡ live.OwnName path) → is_day_file path ≡ true → IsMarkRefused path (failure.Work why)
own_refused path why (inl is) own = subst (λ (f : LiveFailure). IsMarkRefused path (failure.Work f)) (sym is) refl
own_refused path why (inr is) own = subst (λ (f : LiveFailure). IsMarkRefused path (failure.Work f)) (sym is) (refl, own)

pub day_told : {T : Type 0} (why fault : Failure LiveFailure) → IsErrOf {T = T} (Err why) fault → why ≡ fault
day_told why fault told = cc

-- what `?` hands on is what was answered
pub told_by : {R S : Type 0} (result : Result R (Failure LiveFailure)) (why fault : Failure LiveFailure) → IsErrAnd result (λ e. e ≡ why) → IsErrOf result fault → IsErrOf {T = S} (Err why) fault
told_by (Ok report) why fault is told = absurd is
told_by (Err e) why fault is told = cc

-- the whole path of the log is not known
pub unfound_other : (files : Option (List NamedFile)) (options : Options) (fault : PlaceFault) → IsUnfound fault → IsOtherRefusal files options (place_failure no_memory fault)
unfound_other files options fault (inl is) = subst (λ (f : PlaceFault). IsOtherRefusal files options (place_failure no_memory f)) (sym is) tt
unfound_other files options fault (inr is) = subst (λ (f : PlaceFault). IsOtherRefusal files options (place_failure no_memory f)) (sym is) tt

pub unfound_lock : (fault : PlaceFault) → IsUnfound fault → IsOfLock fault
unfound_lock fault (inl is) = (lock.NoMemory, is)
unfound_lock fault (inr is) = (lock.Failed, is)

-- the setup is not read
pub unread_other : (files : Option (List NamedFile)) (options : Options) (fault : ServeFault) (why : LiveFailure) → IsReadFault files options.setup.now fault → why ≡ live.Serve fault
    → IsOtherRefusal files options (failure.Work why)
unread_other files options fault why unread is = subst (λ (f : LiveFailure). IsOtherRefusal files options (failure.Work f)) (sym is) unread

-- the mark alone was written
pub mark_listed : (name log : List ℕ) (old new : Option (List ℕ)) → name ≡ mark_name → new ≡ grown old (listing (file_of_bytes name log)) → AllByRecursion IsOfBytes (file_of_bytes name log)
    → IsListedAfter (λ written. written ≡ mark_file log ∷ []) old new
unfolding IsDistinct
mark_listed name log old new is written bytes =
    let of_bytes : AllByRecursion IsOfBytes (mark_file log ∷ []) = subst (λ (n : List ℕ). AllByRecursion IsOfBytes (file_of_bytes n log)) is bytes in
    record {
      files = mark_file log ∷ [];
      such = refl;
      written = subst (λ (n : List ℕ). new ≡ grown old (listing (file_of_bytes n log))) is written;
      bytes = of_bytes;
      told = files_again (mark_file log ∷ []) of_bytes;
      distinct = (tt, tt);
    }

-- no folder has the mark
pub none_marked : {D : Type 0} (m : DiskMeaning D) (answers : FileAnswers) (lies : List ℕ → List ℕ → Type 0) (opens : List ℕ → D → Type 0) (out log : List ℕ) → AreMarkedAmong m answers lies opens out log []
none_marked m answers lies opens out log path there = absurd (omega (arith, there.1))

-- one folder more has the mark
marked_more : {D : Type 0} (m : DiskMeaning D) (answers : FileAnswers) (lies : List ℕ → List ℕ → Type 0) (opens : List ℕ → D → Type 0) (out log : List ℕ) (folders : List (List ℕ)) (own : List ℕ)
    → AreMarkedAmong m answers lies opens out log folders → IsMarkPut m (others_answer answers lies out) (opens own) log → AreMarkedAmong m answers lies opens out log (folders ++ own ∷ [])
marked_more m answers lies opens out log folders own among put path there = elim (Contains-push_cases folders own path there) [
  | inl before ↦ among path before
  | inr same ↦ subst (λ (p : List ℕ). IsMarkPut m (others_answer answers lies out) (opens p) log) same put
]

-- the folder of a path, which is the last of those that have it
pub marked_folder : {D : Type 0} (m : DiskMeaning D) (answers : FileAnswers) (lies : List ℕ → List ℕ → Type 0) (opens : List ℕ → D → Type 0) (out log told : List ℕ) (folders now : List (List ℕ)) (own path : List ℕ)
    → now ≡ folders ++ own ∷ [] → own ≡ folder_of_path path → told ≡ log → AreMarkedAmong m answers lies opens out log folders → IsMarkPut m (others_answer answers lies out) (opens (folder_of_path path)) told
    → AreMarkedAmong m answers lies opens out log now
marked_folder m answers lies opens out log told folders now own path is own_is log_is among put =
    let here : IsMarkPut m (others_answer answers lies out) (opens (folder_of_path path)) log = subst (λ (l : List ℕ). IsMarkPut m (others_answer answers lies out) (opens (folder_of_path path)) l) log_is put in
    let there : IsMarkPut m (others_answer answers lies out) (opens own) log = subst (λ (p : List ℕ). IsMarkPut m (others_answer answers lies out) (opens p) log) (sym own_is) here in
    subst (λ (all : List (List ℕ)). AreMarkedAmong m answers lies opens out log all) (sym is) (marked_more m answers lies opens out log folders own among there)

-- ---- one entry

-- what holds of the path of a table's file, and after a call of that of its memo file, holds of all that its entry names
pub table_such : {R E : Type 0} (is_such : List ℕ → Type 0) (result : Result R E) (entry : SetupEntry) (name dbf memo : List ℕ) (dbt : Option (List ℕ)) → entry ≡ Table name dbf dbt → dbt ≡ Some memo → is_such dbf
    → OnOk result (is_such memo) → OnOk result ((path : List ℕ) → IsNamedBy entry path → is_such path)
table_such is_such (Ok report) entry name dbf memo dbt is has own memos = λ path named. elim (subst (λ (e : SetupEntry). IsNamedBy e path) is named) [
  | inl same ↦ subst is_such (sym same) own
  | inr there ↦
      let both : Some memo ≡ Some path = sym has ∙ there in
      let same : memo ≡ path = cc in
      subst is_such same memos
]
table_such is_such (Err why) entry name dbf memo dbt is has own memos = tt

-- the memo file of a table has the name of one of a day's own, or its folder has not got the mark
pub table_refused : {R : Type 0} (result : Result R (Failure LiveFailure)) (entry : SetupEntry) (name dbf memo : List ℕ) (dbt : Option (List ℕ)) → entry ≡ Table name dbf dbt → dbt ≡ Some memo
    → IfErr result (IsMarkRefused memo) → IfErr result (λ why. (path : List ℕ) × IsNamedBy entry path × IsMarkRefused path why)
table_refused (Ok report) entry name dbf memo dbt is has refused = tt
table_refused (Err why) entry name dbf memo dbt is has refused = (memo, subst (λ (e : SetupEntry). IsNamedBy e memo) (sym is) (inr has), refused)

-- an entry names a file that the day reads
pub entry_input : (setup : List ℕ) (entries items : List SetupEntry) (number : ℕ) (entry : SetupEntry) (path : List ℕ) → items ≡ entries → number < length items → entry ≡ get_or items number entry → IsNamedBy entry path
    → IsInput setup entries path
entry_input setup entries items number entry path same inside is named = subst (λ (es : List SetupEntry). IsInput setup es path) same (inr (entry, (number, inside, sym is), named))

-- ---- one entry after another

module _ (is_such : SetupEntry → Type 0) (entries : List SetupEntry) where
  -- the first entries are such
  pub record AreSuchBefore (number : ℕ) : Type 0 where
    pub each : (k : ℕ) (entry : SetupEntry) → k < number → get_or entries k entry ≡ entry → is_such entry

  pub none_such : AreSuchBefore 0
  none_such = record { each = λ k entry before is. absurd (omega (arith, before)) }

  same_entry : (number : ℕ) (entry other : SetupEntry) → number < length entries → entry ≡ get_or entries number entry → get_or entries number other ≡ other → other ≡ entry
  same_entry number entry other inside is at =
      let one = slice_get_read entries (length entries) number entry refl inside is in
      let two = slice_get_read entries (length entries) number other refl inside (sym at) in
      let both : Some other ≡ Some entry = sym two ∙ one in
      cc

  -- one more is
  pub such_more : (number : ℕ) (entry : SetupEntry) → number < length entries → entry ≡ get_or entries number entry → AreSuchBefore number → is_such entry → AreSuchBefore (number + 1)
  such_more number entry inside is before such = record {
    each = λ k other early at. elim (cases_Bool (eqb k number)) [
      | inl last ↦
          let here : k ≡ number = eqb-true k number last in
          let same : other ≡ entry = same_entry number entry other inside is (subst (λ (n : ℕ). get_or entries n other ≡ other) here at) in
          subst is_such (sym same) such
      | inr earlier ↦
          let differ = eqb-false k number earlier in
          before.each k other (omega (arith, early, differ)) at
    ];
  }

  -- all are
  pub all_such : (number : ℕ) → length entries ≤ number → AreSuchBefore number → (entry : SetupEntry) → Contains entries entry → is_such entry
  all_such number end before entry there = before.each there.0 entry (omega (arith, there.1, end)) there.2

module _ {D : Type 0} (m : DiskMeaning D) (answers : FileAnswers) (lies : List ℕ → List ℕ → Type 0) (opens : List ℕ → D → Type 0) (out log : List ℕ) where
  -- the folder of the path has the mark, or is that of the log, and the path has no name of the day's own
  abbrev pub IsDone : List ℕ → Type 0
  IsDone path = IsMarked m answers lies opens out log path × (is_day_file path ≡ false)

  -- so it is of all paths that the entry names
  abbrev pub IsEntryDone : SetupEntry → Type 0
  IsEntryDone entry = (path : List ℕ) → IsNamedBy entry path → IsDone path

  of_input : (setup : List ℕ) (entries : List SetupEntry) (number : ℕ) → length entries ≤ number → IsDone setup → AreSuchBefore IsEntryDone entries number → (path : List ℕ) → IsInput setup entries path → IsDone path
  of_input setup entries number end own before path (inl same) = subst IsDone (sym same) own
  of_input setup entries number end own before path (inr named) = all_such IsEntryDone entries number end before named.0 named.1 path named.2

-- one entry more has its marks, which name the same log
pub entries_more : {D : Type 0} (m : DiskMeaning D) (answers : FileAnswers) (lies : List ℕ → List ℕ → Type 0) (opens : List ℕ → D → Type 0) (out old now : List ℕ) (entries : List SetupEntry) (number : ℕ) (entry : SetupEntry)
    → now ≡ old → number < length entries → entry ≡ get_or entries number entry → ((path : List ℕ) → IsNamedBy entry path → IsMarked m answers lies opens out old path)
    → ((path : List ℕ) → IsNamedBy entry path → is_day_file path ≡ false) → AreSuchBefore (IsEntryDone m answers lies opens out old) entries number
    → AreSuchBefore (IsEntryDone m answers lies opens out now) entries (number + 1)
entries_more m answers lies opens out old now entries number entry same inside is put own before =
    subst (λ (log : List ℕ). AreSuchBefore (IsEntryDone m answers lies opens out log) entries (number + 1)) (sym same)
    (such_more (IsEntryDone m answers lies opens out old) entries number entry inside is before (λ path named. (put path named, own path named)))

-- where it is so of the setup and of all its entries, the day's folders are marked
pub are_marked : {D : Type 0} (m : DiskMeaning D) (answers : FileAnswers) (lies : List ℕ → List ℕ → Type 0) (opens : List ℕ → D → Type 0) (names_log : List ℕ → List ℕ → Type 0) (files : Option (List NamedFile))
    (options : Options) (log : List ℕ) (entries items : List SetupEntry) (number : ℕ) → names_log options.out.now log → IsSaid files options.setup.now (Ok entries) → items ≡ entries → length items ≤ number
    → IsDone m answers lies opens options.out.now log options.setup.now → AreSuchBefore (IsEntryDone m answers lies opens options.out.now log) items number → AreMarked m answers lies opens names_log files options
are_marked m answers lies opens names_log files options log entries items number named said same end own before =
    let each : (path : List ℕ) → IsInput options.setup.now entries path → IsDone m answers lies opens options.out.now log path = λ path input.
    of_input m answers lies opens options.out.now log options.setup.now items number end own before path (subst (λ (es : List SetupEntry). IsInput options.setup.now es path) (sym same) input) in
    record {
      log = log;
      named = named;
      entries = entries;
      said = said;
      each = λ path input. (each path input).0;
      own = λ path input. (each path input).1;
    }
