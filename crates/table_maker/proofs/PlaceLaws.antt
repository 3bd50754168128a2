-- A table that is made in the folder of a disk, over no file that is there.
use Rattle.std.proofs.Common.{◌≡◌, ◌≢◌, ◌⊎◌, ℕ, ◌<◌, List, [], ◌∷◌, ◌++◌, Bool, true, false, Some, None, inl, inr, refl, ap, sym, ◌∙◌, subst}
use Rattle.std.specs.Prelude.{Result, Ok, Err, Option, zero, suc, IfErr, IfOk, IfSome, IsErr, IsErrAnd, IsErrOf, IsSome, MatchOption, OnOk, codes}
use Rattle.std.specs.List.{slice_get}
use Rattle.std.specs.Borrow.{Bor}
use Rattle.files_in_place.specs.Disk.{DiskMeaning, LeavesOnly, OnlyReads}
use Rattle.files_in_place.specs.Folder.{Folder, recovered}
use Rattle.folders.specs.declared.named.NamedFile.{NamedFile}
use Rattle.program_frame.specs.declared.ending.Failure.{Failure}
use Rattle.program_frame.specs.declared.ending.Failure.TheVariants.{BadDate, Work as OfWork, Folder as OfFolder}
use Rattle.program_frame.specs.declared.folder.FolderFault.TheVariants.{InUse, Unopened, Unrecovered, BadList, Unreplaced, DayOpen, UnknownDay, Unwritten, Unfinished}
use Rattle.program_frame.specs.declared.folder.PlaceFault.{PlaceFault}
use Rattle.program_frame.specs.declared.folder.PlaceFault.TheVariants as place
use Rattle.program_frame.specs.Endings.{place_failure}
use Rattle.program_frame.specs.Jobs.{IsLoadFailure, IsPlaceFailure, IsRunFailure, IsStopped}
use Rattle.program_frame.specs.Placing.{EndsInPlace, HasPut, IsRecovered, RecoversAsOneOf, TellsRecovery}
use Rattle.program_frame.proofs.BesideDay.{reads_recovered as recovered_on, without_day}
use Rattle.program_frame.proofs.EndLaws.{ends_stopped, stopped_place}
use Rattle.program_frame.specs.BesideDay.{IsWithoutDay}
use Rattle.program_frame.specs.InputDays.{FileAnswers, IsMarkAt}
use Rattle.open_day.specs.OpenDay.{has_open_day, mark_name}
use Rattle.table_maker.specs.MadeIndex.{IsIndexName}
use Rattle.table_maker.specs.Making.{table_extension}
use Rattle.table_maker.specs.Placing.{HasFailed, HasMadeInto, IsFree, IsInTheWay, IsLooking, IsUnplaced, IsUnplacedInto, IsUnplacedLoad, IsUntried, LookFaults, StaysRecovered}

-- ---- looking at a disk that was recovered

-- a disk that was recovered is so after a call that changes no file
pub reads_recovered : {D : Type 0} (m : DiskMeaning D) (old new : D) → OnlyReads m old new → StaysRecovered m old new
reads_recovered m old new reads start was = recovered_on m start old new was reads

pub stays_both : {D : Type 0} (m : DiskMeaning D) (old mid new : D) → StaysRecovered m old mid → StaysRecovered m mid new → StaysRecovered m old new
stays_both m old mid new first second start was = second start (first start was)

-- ---- where no file was begun

-- where it was stopped, or a name was taken, nothing was begun
pub ends_untried : {D R F : Type 0} (m : DiskMeaning D) (writes : List NamedFile → R → Type 0) (look : LookFaults F) (fails : F → Type 0) (none : F)
    (replace : Bool) (start now : D) (ended : Result R (Failure F)) → IsErr ended
    → IfErr ended (IsUntried look fails none replace) → (m.keeps_promises → LeavesOnly m start now (RecoversAsOneOf (m.may_leave start)))
    → EndsInPlace m writes (RecoversAsOneOf (m.may_leave start)) (recovered (m.seen start)) start now ended
ends_untried m writes look fails none replace start now (Ok report) refused untried old = absurd cc
ends_untried m writes look fails none replace start now (Err why) refused (inl stopped) old = ends_stopped m writes fails none start now (Err why) stopped old
ends_untried m writes look fails none replace start now (Err BadDate) refused (inr taken) old = absurd (elim taken.1 [ inl is ↦ cc | inr is ↦ cc ])
ends_untried m writes look fails none replace start now (Err (OfWork fault)) refused (inr taken) old = ends_stopped m writes fails fault start now
    (Err (OfWork fault)) (inl refl) old
ends_untried m writes look fails none replace start now (Err (OfFolder why)) refused (inr taken) old = absurd (elim taken.1 [ inl is ↦ cc | inr is ↦ cc ])

untried_why : {F : Type 0} (look : LookFaults F) (none : F) (fails : F → Type 0) (ended : Type 0) (replace : Bool) (why : Failure F)
    → IsUntried look fails none replace why → IsUnplaced look none fails ended replace why
untried_why look none fails ended replace why (inl stopped) = inl (stopped_place none fails ended why stopped)
untried_why look none fails ended replace why (inr taken) = inr taken

pub untried_fault : {R F : Type 0} (look : LookFaults F) (none : F) (fails : F → Type 0) (whole : Type 0) (replace : Bool) (ended : Result R (Failure F))
    → IfErr ended (IsUntried look fails none replace)
    → IfErr ended (IsUnplaced look none fails whole replace)
untried_fault look none fails whole replace (Ok report) untried = tt
untried_fault look none fails whole replace (Err why) untried = untried_why look none fails whole replace why untried

-- the fault of the work is none of a name that is taken
not_of_work : {F : Type 0} (exists none : F) (fails : F → Type 0) (fault : F) → (¬ fails exists) → exists ≢ none → (fault ≡ none) ⊎ fails fault
    → fault ≡ exists → ⊥
not_of_work exists none fails fault never other (inl is) same = other (sym same ∙ is)
not_of_work exists none fails fault never other (inr of_work) same = never (subst fails same of_work)

-- what is told of work that was stopped
pub stopped_untried : {R F : Type 0} (look : LookFaults F) (fails : F → Type 0) (none : F) (replace : Bool) (ended : Result R (Failure F))
    → IsErrAnd ended (IsStopped fails none) → IfErr ended (IsUntried look fails none replace)
stopped_untried look fails none replace (Ok report) stopped = tt
stopped_untried look fails none replace (Err why) stopped = inl stopped

pub stopped_exists : {R F : Type 0} (exists none : F) (fails : F → Type 0) (ended : Result R (Failure F)) → (¬ fails exists) → exists ≢ none
    → IsErrAnd ended (IsStopped fails none) → IsErrOf ended (OfWork exists) → ⊥
stopped_exists exists none fails (Ok report) never other stopped told = absurd cc
stopped_exists exists none fails (Err BadDate) never other stopped told = stopped
stopped_exists exists none fails (Err (OfWork fault)) never other stopped told = let same : fault ≡ exists = cc in not_of_work exists none fails fault never
    other stopped same
stopped_exists exists none fails (Err (OfFolder why)) never other stopped told = absurd cc

-- ---- where its files were begun

pub begun_fault : {R F : Type 0} (look : LookFaults F) (none : F) (fails : F → Type 0) (whole : Type 0) (replace : Bool) (ended : Result R (Failure F)) → IfErr ended (IsPlaceFailure fails none whole)
    → IfErr ended (IsUnplaced look none fails whole replace)
begun_fault look none fails whole replace (Ok report) h = tt
begun_fault look none fails whole replace (Err why) h = inl h

pub begun_load : {R F : Type 0} (look : LookFaults F) (none : F) (loads : F → Type 0) (same : Type 0) (replace : Bool) (ended : Result R (Failure F)) → IfErr ended (IsLoadFailure loads none same)
    → IfErr ended (IsUnplacedLoad look none loads same replace)
begun_load look none loads same replace (Ok report) h = tt
begun_load look none loads same replace (Err why) h = inl h

pub begun_exists : {R F : Type 0} (exists none : F) (fails : F → Type 0) (whole : Type 0) (ended : Result R (Failure F)) → (¬ fails exists) → exists ≢ none
    → IfErr ended (IsPlaceFailure fails none whole) → IsErrOf ended (OfWork exists) → ⊥
begun_exists exists none fails whole (Ok report) never other h told = absurd cc
begun_exists exists none fails whole (Err BadDate) never other h told = absurd h
begun_exists exists none fails whole (Err (OfWork fault)) never other h told = let same : fault ≡ exists = cc in not_of_work exists none fails fault never other h same
begun_exists exists none fails whole (Err (OfFolder why)) never other h told = absurd cc

-- ---- names that are free

-- of two folders that are the same
pub free_same : (names : List (List ℕ)) (a b : Folder) → ((name : List ℕ) → b name ≡ a name) → IsFree names a → IsFree names b
free_same [] a b same free = free
free_same (name ∷ names) a b same free = (same name ∙ free.0, free_same names a b same free.1)

-- a name that has a file is none of those that are free
pub taken_at : (names : List (List ℕ)) (folder : Folder) (place : ℕ) (name : List ℕ) → slice_get names place ≡ Some name → IsSome (folder name)
    → ¬ IsFree names folder
taken_at [] folder place name at some free = absurd cc
taken_at (first ∷ names) folder zero name at some free =
    let same : first ≡ name = cc in
    let none : IsSome {T = List ℕ} None = subst (λ (file : Option (List ℕ)). IsSome file) (ap folder (sym same) ∙ free.0) some in cc
taken_at (first ∷ names) folder (suc place) name at some free = taken_at names folder place name at some free.1

-- ---- the stem of a name

pub stem_is : (name extension : List ℕ) (r : Option (Bor (List ℕ))) → MatchOption r ((front : List ℕ) → name ≢ front ++ extension) (λ x. name ≡ x.now ++ extension) → IfSome r (λ x. name ≡ x.now ++ extension)
stem_is name extension None h = tt
stem_is name extension (Some x) h = h

pub stem_none : (name extension : List ℕ) (r : Option (Bor (List ℕ))) → MatchOption r ((front : List ℕ) → name ≢ front ++ extension) (λ x. name ≡ x.now ++ extension) → r ≡ None → (stem : List ℕ) → name ≢ stem ++ extension
stem_none name extension None h is = h
stem_none name extension (Some x) h is = absurd cc

-- a name has neither extension
pub neither_extension : (name : List ℕ) → ((stem : List ℕ) → name ≢ stem ++ table_extension true) → ((stem : List ℕ) → name ≢ stem ++ table_extension false)
    → (stem : List ℕ) (in_capitals : Bool) → name ≢ stem ++ table_extension in_capitals
neither_extension name first second stem true = first stem
neither_extension name first second stem false = second stem

-- a name that has the extension of an index
pub name_in_capitals : (name : List ℕ) (stem : Bor (List ℕ)) → name ≡ stem.now ++ codes ".NDX" → IsIndexName name
name_in_capitals name stem is = inl (stem.now, is)

pub name_in_small_letters : (name : List ℕ) (stem : Bor (List ℕ)) → name ≡ stem.now ++ codes ".ndx" → IsIndexName name
name_in_small_letters name stem is = inr (stem.now, is)

-- and one that has neither
pub no_index_name : (name : List ℕ) → ((stem : List ℕ) → name ≢ stem ++ codes ".NDX") → ((stem : List ℕ) → name ≢ stem ++ codes ".ndx") → ¬ IsIndexName name
no_index_name name first second (inl (stem, is)) = first stem is
no_index_name name first second (inr (stem, is)) = second stem is

-- ---- what is told after looking

pub looking_untried : {F : Type 0} (look : LookFaults F) (fails : F → Type 0) (none : F) (replace : Bool) (fault : F) → replace ≡ false
    → IsLooking look none fault → IsUntried look fails none replace (OfWork fault)
looking_untried look fails none replace fault may (inl is) = inr (may, inl (ap (λ (f : _). OfWork f) is))
looking_untried look fails none replace fault may (inr (inl is)) = inr (may, inr (ap (λ (f : _). OfWork f) is))
looking_untried look fails none replace fault may (inr (inr is)) = inl (inl is)

-- no load has failed
pub looking_load : {F : Type 0} (look : LookFaults F) (none : F) (loads : F → Type 0) (same : Type 0) (replace : Bool) (fault : F) → replace ≡ false → same
    → IsLooking look none fault
    → IsUnplacedLoad look none loads same replace (OfWork fault)
looking_load look none loads same replace fault may is (inl exists) = inr ((may, inl (ap (λ (f : _). OfWork f) exists)), is)
looking_load look none loads same replace fault may is (inr (inl unread)) = inr ((may, inr (ap (λ (f : _). OfWork f) unread)), is)
looking_load look none loads same replace fault may is (inr (inr memory)) = inl (inl memory)

pub looked_tells : {D R F : Type 0} (m : DiskMeaning D) (start now : D) (fault : F) → (m.keeps_promises → IsRecovered m start now) → TellsRecovery {D = D} {R = R} m start now (Err (OfWork fault))
looked_tells m start now fault since = record {
  unrecovered = λ told. absurd cc;
  unreplaced = λ name told. absurd cc;
  bad_list = λ promised told. absurd cc;
  untouched = λ promised bad. absurd ((since promised).good_list bad);
}

-- ---- a table in the folder of a path

run_why : {F : Type 0} (fails : F → Type 0) (none : F) (whole : Type 0) (why : Failure F) → IsPlaceFailure fails none whole why → IsRunFailure fails none whole why
run_why fails none whole BadDate h = h
run_why fails none whole (OfWork fault) h = h
run_why fails none whole (OfFolder InUse) h = tt
run_why fails none whole (OfFolder Unopened) h = tt
run_why fails none whole (OfFolder Unrecovered) h = h
run_why fails none whole (OfFolder BadList) h = h
run_why fails none whole (OfFolder (Unreplaced name)) h = h
run_why fails none whole (OfFolder DayOpen) h = h
run_why fails none whole (OfFolder (UnknownDay log said)) h = h
run_why fails none whole (OfFolder Unwritten) h = h
run_why fails none whole (OfFolder Unfinished) h = h

-- what is told where it was opened
opened_why : {F : Type 0} (look : LookFaults F) (none : F) (fails : F → Type 0) (whole : Type 0) (replace : Bool) (why : Failure F) → IsUnplaced look none fails whole replace why
    → IsUnplacedInto look none fails whole replace why
opened_why look none fails whole replace why (inl h) = inl (run_why fails none whole why h)
opened_why look none fails whole replace why (inr taken) = inr taken

pub opened_fault : {R F : Type 0} (look : LookFaults F) (none : F) (fails : F → Type 0) (whole : Type 0) (replace : Bool) (ended : Result R (Failure F)) → IfErr ended (IsUnplaced look none fails whole replace)
    → IfErr ended (IsUnplacedInto look none fails whole replace)
opened_fault look none fails whole replace (Ok report) h = tt
opened_fault look none fails whole replace (Err why) h = opened_why look none fails whole replace why h

-- what is told where nothing has this path
pub nowhere_fault : {R F : Type 0} (look : LookFaults F) (none : F) (fails : F → Type 0) (whole : Type 0) (replace : Bool) (ended : Result R (Failure F)) → IfErr ended (IsRunFailure fails none whole)
    → IfErr ended (IsUnplacedInto look none fails whole replace)
nowhere_fault look none fails whole replace (Ok report) h = tt
nowhere_fault look none fails whole replace (Err why) h = inl h

pub nowhere_exists : {R F : Type 0} (exists none : F) (fails : F → Type 0) (whole : Type 0) (ended : Result R (Failure F)) → (¬ fails exists) → exists ≢ none
    → IfErr ended (IsRunFailure fails none whole) → IsErrOf ended (OfWork exists) → ⊥
nowhere_exists exists none fails whole (Ok report) never other h told = absurd cc
nowhere_exists exists none fails whole (Err BadDate) never other h told = absurd h
nowhere_exists exists none fails whole (Err (OfWork fault)) never other h told = let same : fault ≡ exists = cc in not_of_work exists none fails fault never other h same
nowhere_exists exists none fails whole (Err (OfFolder why)) never other h told = absurd cc

-- what is told where the folder can't be had
pub unopened_exists : {F : Type 0} (exists none : F) (said : PlaceFault) → exists ≢ none → place_failure none said ≡ OfWork exists → ⊥
unopened_exists exists none place.NoMemory other is = let same : none ≡ exists = cc in other (sym same)
unopened_exists exists none (place.Folder why) other is = absurd cc

pub in_the_way : {D R F : Type 0} (m : DiskMeaning D) (is_opened : D → Type 0) (is_free : Folder → Type 0) (exists : F) (start : D) (ended : Result R (Failure F)) → is_opened start
    → (m.keeps_promises → IsErrOf ended (OfWork exists) → ¬ is_free (recovered (m.seen start))) → IsErrOf ended (OfWork exists) → IsInTheWay m is_opened is_free
in_the_way m is_opened is_free exists start ended opened taken told = record { start = start; opened = opened; taken = λ promised. taken promised told }

pub has_failed : {D R F : Type 0} (m : DiskMeaning D) (is_opened : D → Type 0) (unread : F) (start now : D) (ended : Result R (Failure F)) → is_opened start
    → (IsErrOf ended (OfWork unread) → m.faults start < m.faults now) → IsErrOf ended (OfWork unread) → HasFailed m is_opened
has_failed m is_opened unread start now ended opened failed told = record { start = start; end = now; opened = opened; failed = failed told }

-- where the work is refused beside an open day no day was open in it
pub made_into : {D R F : Type 0} (m : DiskMeaning D) (answers : FileAnswers) (is_folder : D → Type 0) (are_such : R → List NamedFile → Type 0)
    (is_free : Folder → Type 0) (is_refusal : F → Type 0) (start now : D) (ended : Result R F) → is_folder start
    → (m.keeps_promises → has_open_day (recovered (m.seen start)) ≡ true → IsErrAnd ended is_refusal)
    → (m.keeps_promises → OnOk ended (IsMarkAt answers (recovered (m.seen start) mark_name) false))
    → (m.keeps_promises → IfOk ended (λ report. HasPut m (are_such report) (RecoversAsOneOf (m.may_leave start)) (recovered (m.seen start)) start now)) → (m.keeps_promises → OnOk ended (is_free (recovered (m.seen start))))
    → IfOk ended (λ report. HasMadeInto m (IsWithoutDay m answers is_folder) (are_such report) is_free)
made_into {D} {R} m answers is_folder are_such is_free is_refusal start now (Ok report) meant refused unmarked put free = record {
  start = start;
  end = now;
  opened = without_day {R = R} m answers is_folder is_refusal start (Ok report) meant refused unmarked;
  free = free;
  put = put;
}
made_into m answers is_folder are_such is_free is_refusal start now (Err failure) meant refused unmarked put free = tt
