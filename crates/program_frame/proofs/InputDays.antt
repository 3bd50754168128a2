-- Live days in the folders from which a program reads: one entry of its setup after another.
use Rattle.std.proofs.Common.{◌≡◌, ℕ, ◌+◌, ◌<◌, arith, Bool, true, false, List, Option, Some, Result, Ok, Err, eqb, get_or, length, inl, inr, refl, sym, subst, ap, ◌∙◌}
use Rattle.std.proofs.lemmas.Bool.{cases_Bool, eqb-false, eqb-true}
use Rattle.std.proofs.lemmas.Option.{slice_get_read}
use Rattle.std.specs.Prelude.{◌⊎◌, IfErr, IfOk, IsErrAnd, IsErrOf}
use Rattle.folders.specs.declared.named.NamedFile.{NamedFile}
use Rattle.office_run.specs.declared.fault.FileFault.{FileFault}
use Rattle.office_run.specs.declared.fault.FileFault.TheVariants.{CannotRead, Unrecovered}
use Rattle.office_run.specs.declared.fault.ServeFault.{ServeFault}
use Rattle.program_frame.specs.Endings.{place_failure}
use Rattle.program_frame.specs.Reasons.{no_memory}
use Rattle.program_frame.specs.declared.ending.Failure.{Failure}
use Rattle.program_frame.specs.declared.ending.Failure.TheVariants.{BadDate, Work, Folder as OfFolder}
use Rattle.program_frame.specs.declared.folder.FolderFault.{FolderFault}
use Rattle.program_frame.specs.declared.folder.FolderFault.TheVariants.{DayOpen, UnknownDay}
use Rattle.program_frame.specs.declared.folder.PlaceFault.{PlaceFault}
use Rattle.program_frame.specs.declared.folder.PlaceFault.TheVariants.{Folder, NoMemory}
use Rattle.folders.specs.declared.source.LoadFault.{LoadFault}
use Rattle.folders.specs.declared.source.LoadFault.TheVariants as load
use Rattle.office_run.specs.WholeRun.{IsReadFault, IsSaid}
use Rattle.open_day.specs.OpenDay.{log_beside, mark_beside}
use Rattle.station_lines.specs.declared.setup.entry.SetupEntry.{SetupEntry}
use Rattle.station_lines.specs.declared.setup.entry.SetupEntry.TheVariants.{Table}
use Rattle.program_frame.specs.InputDays.{unread_log, FileAnswers, HasInputDay, HasNoInputDay, IsAskedBeside, IsClosedBeside, IsInput, IsInputLogFault, IsInputRefusal, IsLogAt, IsMarkedBeside, IsMarkRefusal, IsNamedBy, IsNamedIn, IsOpenAmong, IsOpenBeside, IsPlaceRefusal, IsUnreadAmong, IsUnreadAt, IsWorkRefusal}

module _ (answers : FileAnswers) (entries : List SetupEntry) where
  -- the first entries name files in whose folders no day is open
  pub record AreClosedBefore (number : ℕ) : Type 0 where
    pub each : (k : ℕ) (entry : SetupEntry) → k < number → get_or entries k entry ≡ entry → IsOpenAmong answers (IsNamedBy entry) false

  pub none_closed : AreClosedBefore 0
  none_closed = record { each = λ k entry before is. absurd (omega (arith, before)) }

  same_entry : (number : ℕ) (entry other : SetupEntry) → number < length entries → entry ≡ get_or entries number entry → get_or entries number other ≡ other → other ≡ entry
  same_entry number entry other inside is at =
      let one = slice_get_read entries (length entries) number entry refl inside is in
      let two = slice_get_read entries (length entries) number other refl inside (sym at) in
      let both : Some other ≡ Some entry = sym two ∙ one in
      cc

  -- one more does
  pub closed_more : (number : ℕ) (entry : SetupEntry) → number < length entries → entry ≡ get_or entries number entry → AreClosedBefore number → IsOpenAmong answers (IsNamedBy entry) false → AreClosedBefore (number + 1)
  closed_more number entry inside is before closed = record {
    each = λ k other early at. elim (cases_Bool (eqb k number)) [
      | inl last ↦
          let here : k ≡ number = eqb-true k number last in
          let same : other ≡ entry = same_entry number entry other inside is (subst (λ (n : ℕ). get_or entries n other ≡ other) here at) in
          subst (λ (e : SetupEntry). IsOpenAmong answers (IsNamedBy e) false) (sym same) closed
      | inr earlier ↦
          let differ = eqb-false k number earlier in
          before.each k other (omega (arith, early, differ)) at
    ];
  }

  -- all do
  pub all_closed : AreClosedBefore (length entries) → IsOpenAmong answers (IsNamedIn entries) false
  all_closed closed = λ path named. closed.each named.1.0 named.0 named.1.1 named.1.2 path named.2

  -- one of them names a file in whose folder a day is open
  pub one_open : (number : ℕ) (entry : SetupEntry) → number < length entries → entry ≡ get_or entries number entry → IsOpenAmong answers (IsNamedBy entry) true → IsOpenAmong answers (IsNamedIn entries) true
  one_open number entry inside is found = (found.0, (entry, (number, inside, sym is), found.1), found.2)

  -- or one in whose folder the log can't be had
  pub one_unread : (number : ℕ) (entry : SetupEntry) (fault : PlaceFault) → number < length entries → entry ≡ get_or entries number entry → (fault ≡ NoMemory) ⊎ IsUnreadAmong answers (IsNamedBy entry) fault
      → (fault ≡ NoMemory) ⊎ IsUnreadAmong answers (IsNamedIn entries) fault
  one_unread number entry fault inside is unknown = elim unknown [
    | inl memory ↦ inl memory
    | inr unread ↦ inr (unread.0, unread.1, unread.2, (entry, (number, inside, sym is), unread.3), unread.4, unread.5, unread.6)
  ]

-- of the two files of a table that an entry names
pub table_found : (answers : FileAnswers) (entry : SetupEntry) (name dbf : List ℕ) (dbt : Option (List ℕ)) (result : Result Bool PlaceFault) → entry ≡ Table name dbf dbt
    → IfOk result (IsOpenAmong answers (λ own. (own ≡ dbf) ⊎ (dbt ≡ Some own))) → IfOk result (IsOpenAmong answers (IsNamedBy entry))
table_found answers entry name dbf dbt result is found = subst (λ (e : SetupEntry). IfOk result (IsOpenAmong answers (IsNamedBy e))) (sym is) found

-- no day is open in the folder of a setup, and so it is as is found of its entries
pub inputs_found : (answers : FileAnswers) (setup : List ℕ) (entries : List SetupEntry) (is : Bool) (result : Result Bool PlaceFault) → IsOpenAmong answers (λ own. own ≡ setup) is → is ≡ false
    → IfOk result (IsOpenAmong answers (IsNamedIn entries)) → IfOk result (IsOpenAmong answers (IsInput setup entries))
inputs_found answers setup entries true result first closed found = absurd cc
inputs_found answers setup entries false (Ok true) first closed found = (found.0, inr found.1, found.2)
inputs_found answers setup entries false (Ok false) first closed found = λ path input. elim input [ inl own ↦ first path own | inr named ↦ found path named ]
inputs_found answers setup entries false (Err fault) first closed found = tt

-- of the setup that says these entries
pub no_input_day : (answers : FileAnswers) (files : Option (List NamedFile)) (setup : List ℕ) (entries : List SetupEntry) → IsSaid files setup (Ok entries) → IsOpenAmong answers (IsInput setup entries) false → HasNoInputDay answers files setup
no_input_day answers files setup entries said closed = record { entries = entries; said = said; closed = closed }

-- the same where this is what was found
pub no_input_found : (answers : FileAnswers) (files : Option (List NamedFile)) (setup : List ℕ) (entries : List SetupEntry) (is : Bool) → IsSaid files setup (Ok entries) → is ≡ false
    → IsOpenAmong answers (IsInput setup entries) is → HasNoInputDay answers files setup
no_input_found answers files setup entries true said closed found = absurd cc
no_input_found answers files setup entries false said closed found = record { entries = entries; said = said; closed = found }

pub has_input_day : (answers : FileAnswers) (files : Option (List NamedFile)) (setup : List ℕ) (entries : List SetupEntry) → IsSaid files setup (Ok entries) → IsOpenAmong answers (IsInput setup entries) true → HasInputDay answers files setup
has_input_day answers files setup entries said found = record { entries = entries; said = said; is_open = found }

-- why that is not known is why the program does not begin to read
unread_why : (answers : FileAnswers) (files : Option (List NamedFile)) (setup : List ℕ) (entries : List SetupEntry) (path asked : List ℕ) (why : LoadFault) → IsSaid files setup (Ok entries) → IsInput setup entries path
    → IsAskedBeside answers path asked → answers asked (Err why) → IsInputRefusal answers files setup (place_failure no_memory (unread_log asked why))
unread_why answers files setup entries path asked load.NoMemory said input beside had = tt
unread_why answers files setup entries path asked load.CannotRead said input beside had = record { entries = entries; said = said; unread = (path, asked, load.CannotRead, input, beside, had, refl) }
unread_why answers files setup entries path asked load.Unrecovered said input beside had = record { entries = entries; said = said; unread = (path, asked, load.Unrecovered, input, beside, had, refl) }

pub unknown_refusal : (answers : FileAnswers) (files : Option (List NamedFile)) (setup : List ℕ) (entries : List SetupEntry) (fault : PlaceFault) (failure : Failure ServeFault) → IsSaid files setup (Ok entries)
    → failure ≡ place_failure no_memory fault → (fault ≡ NoMemory) ⊎ IsUnreadAmong answers (IsInput setup entries) fault → IsInputRefusal answers files setup failure
unknown_refusal answers files setup entries fault failure said is (inl memory) = subst (IsInputRefusal answers files setup) (sym (is ∙ ap (place_failure no_memory) memory)) tt
unknown_refusal answers files setup entries fault failure said is (inr unread) =
    subst (IsInputRefusal answers files setup) (sym (is ∙ ap (place_failure no_memory) unread.6)) (unread_why answers files setup entries unread.0 unread.1 unread.2 said unread.3 unread.4 unread.5)

-- ---- why what a setup names is not read

-- that a day is open is said only where it is
pub input_day : {T : Type 0} (answers : FileAnswers) (files : Option (List NamedFile)) (setup : List ℕ) (result : Result T (Failure ServeFault)) → IfErr result (IsInputRefusal answers files setup)
    → IsErrOf result (OfFolder DayOpen) → HasInputDay answers files setup
input_day answers files setup (Ok report) refused told = absurd cc
input_day answers files setup (Err (OfFolder DayOpen)) refused told = refused
input_day answers files setup (Err why) refused told = absurd cc

-- the log that can't be had is the one that is named
log_had : (answers : FileAnswers) (asked log : List ℕ) (said : FileFault) (why : LoadFault) → answers asked (Err why) → Folder (UnknownDay log said) ≡ unread_log asked why
    → (why : LoadFault) × answers log (Err why)
log_had answers asked log said load.NoMemory had is = absurd cc
log_had answers asked log said load.CannotRead had is = let same : asked ≡ log = cc in (load.CannotRead, subst (λ (own : List ℕ). answers own (Err load.CannotRead)) same had)
log_had answers asked log said load.Unrecovered had is = let same : asked ≡ log = cc in (load.Unrecovered, subst (λ (own : List ℕ). answers own (Err load.Unrecovered)) same had)

pub unknown_log : (answers : FileAnswers) (files : Option (List NamedFile)) (setup log : List ℕ) (said : FileFault) → IsInputLogFault answers files setup (Folder (UnknownDay log said)) → (why : LoadFault) × answers log (Err why)
unknown_log answers files setup log said fault = log_had answers fault.unread.1 log said fault.unread.2 fault.unread.5 fault.unread.6

work_refusal : (answers : FileAnswers) (files : Option (List NamedFile)) (setup : List ℕ) (fails : ServeFault → Type 0) (none : ServeFault) (why : Failure ServeFault) → ((fault : ServeFault) → IsReadFault files setup fault → fails fault)
    → IsInputRefusal answers files setup why → IsWorkRefusal answers fails none why
work_refusal answers files setup fails none BadDate of refused = refused
work_refusal answers files setup fails none (Work fault) of refused = inr (of fault refused)
work_refusal answers files setup fails none (OfFolder DayOpen) of refused = tt
work_refusal answers files setup fails none (OfFolder (UnknownDay log said)) of refused = unknown_log answers files setup log said refused
work_refusal answers files setup fails none (OfFolder why) of refused = absurd refused

-- it is why work is refused that fails where the setup is not read
pub works_refusal : {T : Type 0} (answers : FileAnswers) (files : Option (List NamedFile)) (setup : List ℕ) (fails : ServeFault → Type 0) (none : ServeFault) (result : Result T (Failure ServeFault))
    → ((fault : ServeFault) → IsReadFault files setup fault → fails fault) → IfErr result (IsInputRefusal answers files setup) → IfErr result (IsWorkRefusal answers fails none)
works_refusal answers files setup fails none (Ok report) of refused = tt
works_refusal answers files setup fails none (Err why) of refused = work_refusal answers files setup fails none why of refused

-- ---- why files are not read

module _ {F : Type 0} (answers : FileAnswers) (is_open : Type 0) (none : F) where
  -- that a day is open is said only where it is
  pub place_day : {T : Type 0} (fault : PlaceFault) (failure : Failure F) → failure ≡ place_failure none fault → IsPlaceRefusal answers is_open fault → IsErrOf {T = T} (Err failure) (OfFolder DayOpen) → is_open
  place_day NoMemory failure is refused told =
      let same : failure ≡ OfFolder DayOpen = cc in
      let clash : Work none ≡ OfFolder DayOpen = sym is ∙ same in
      absurd cc
  place_day (Folder why) failure is refused told =
      let same : failure ≡ OfFolder DayOpen = cc in
      let both : OfFolder why ≡ OfFolder DayOpen = sym is ∙ same in
      let day : why ≡ DayOpen = cc in
      subst (λ (w : FolderFault). IsPlaceRefusal answers is_open (Folder w)) day refused

  place_why : (fails : F → Type 0) (fault : PlaceFault) → IsPlaceRefusal answers is_open fault → IsWorkRefusal answers fails none (place_failure none fault)
  place_why fails NoMemory refused = inl refl
  place_why fails (Folder DayOpen) refused = tt
  place_why fails (Folder (UnknownDay log said)) refused = refused
  place_why fails (Folder why) refused = absurd refused

  -- it is why work is refused
  pub place_refusal : (fails : F → Type 0) (fault : PlaceFault) (failure : Failure F) → failure ≡ place_failure none fault → IsPlaceRefusal answers is_open fault → IsWorkRefusal answers fails none failure
  place_refusal fails fault failure is refused = subst (IsWorkRefusal answers fails none) (sym is) (place_why fails fault refused)

unread_beside : (answers : FileAnswers) (is_open : Type 0) (log : List ℕ) (why : LoadFault) → answers log (Err why) → IsPlaceRefusal answers is_open (unread_log log why)
unread_beside answers is_open log load.NoMemory had = tt
unread_beside answers is_open log load.CannotRead had = (load.CannotRead, had)
unread_beside answers is_open log load.Unrecovered had = (load.Unrecovered, had)

-- it is why more files are not read
place_refusal_on : (answers : FileAnswers) (one all : Type 0) (fault : PlaceFault) → (one → all) → IsPlaceRefusal answers one fault → IsPlaceRefusal answers all fault
place_refusal_on answers one all NoMemory on refused = tt
place_refusal_on answers one all (Folder DayOpen) on refused = on refused
place_refusal_on answers one all (Folder (UnknownDay log said)) on refused = refused
place_refusal_on answers one all (Folder why) on refused = absurd refused

pub refused_on : {T : Type 0} (answers : FileAnswers) (one all : Type 0) (result : Result T PlaceFault) (fault : PlaceFault) → IsErrAnd result (λ told. told ≡ fault) → (one → all) → IsPlaceRefusal answers one fault
    → IfErr result (IsPlaceRefusal answers all)
refused_on answers one all (Ok x) fault is on refused = tt
refused_on answers one all (Err told) fault is on refused = subst (IsPlaceRefusal answers all) (sym is) (place_refusal_on answers one all fault on refused)

pub refused_all : {T : Type 0} (answers : FileAnswers) (one all : Type 0) (result : Result T PlaceFault) → (one → all) → IfErr result (IsPlaceRefusal answers one) → IfErr result (IsPlaceRefusal answers all)
refused_all answers one all (Ok x) on refused = tt
refused_all answers one all (Err fault) on refused = place_refusal_on answers one all fault on refused

-- the log of a file that can't be had is why it is not read
pub unread_place : (answers : FileAnswers) (is_open : Type 0) (path : List ℕ) (fault : PlaceFault) → (fault ≡ NoMemory) ⊎ IsUnreadAmong answers (λ own. own ≡ path) fault → IsPlaceRefusal answers is_open fault
unread_place answers is_open path fault (inl memory) = subst (IsPlaceRefusal answers is_open) (sym memory) tt
unread_place answers is_open path fault (inr unread) = subst (IsPlaceRefusal answers is_open) (sym unread.6) (unread_beside answers is_open unread.1 unread.2 unread.5)

-- of one file alone
pub closed_beside : (answers : FileAnswers) (path : List ℕ) → IsOpenAmong answers (λ own. own ≡ path) false → IsClosedBeside answers path
closed_beside answers path closed = closed path refl

pub open_beside : (answers : FileAnswers) (path : List ℕ) → IsOpenAmong answers (λ own. own ≡ path) true → IsOpenBeside answers path
open_beside answers path found = subst (IsOpenBeside answers) found.1 found.2

-- ---- the log of a folder, and the one that its mark names

-- by its own log a day is open in the folder of one file
pub own_open : (answers : FileAnswers) (path : List ℕ) → IsLogAt answers (log_beside path) true → IsOpenAmong answers (λ own. own ≡ path) true
own_open answers path at = (path, refl, inl at)

-- where it is not, it is as its mark says
pub among_one : (answers : FileAnswers) (path : List ℕ) (is : Bool) → IsLogAt answers (log_beside path) false → IsMarkedBeside answers path is → IsOpenAmong answers (λ own. own ≡ path) is
among_one answers path true closed marked = (path, refl, inr marked)
among_one answers path false closed marked = λ own same. subst (IsClosedBeside answers) (sym same) (closed, marked)

-- the log of one file's folder can't be had
pub unread_one : (answers : FileAnswers) (path : List ℕ) (fault : PlaceFault) → IsUnreadAt answers (log_beside path) fault → IsUnreadAmong answers (λ own. own ≡ path) fault
unread_one answers path fault unread = (path, log_beside path, unread.0, refl, inl refl, unread.1, unread.2)

-- nor can its mark, or the log that the mark names
pub unread_mark : (answers : FileAnswers) (path : List ℕ) (fault : PlaceFault) → IsUnreadAt answers (mark_beside path) fault → IsUnreadAmong answers (λ own. own ≡ path) fault
unread_mark answers path fault unread = (path, mark_beside path, unread.0, refl, inr (inl refl), unread.1, unread.2)

pub unread_marked : (answers : FileAnswers) (path log : List ℕ) (fault : PlaceFault) → answers (mark_beside path) (Ok (Some log)) → IsUnreadAt answers log fault → IsUnreadAmong answers (λ own. own ≡ path) fault
unread_marked answers path log fault named unread = (path, log, unread.0, refl, inr (inr named), unread.1, unread.2)

module _ {F : Type 0} (answers : FileAnswers) (none : F) where
  mark_why : (log : List ℕ) (why : LoadFault) → answers log (Err why) → IsMarkRefusal answers none (place_failure none (unread_log log why))
  mark_why log load.NoMemory had = refl
  mark_why log load.CannotRead had = (load.CannotRead, had)
  mark_why log load.Unrecovered had = (load.Unrecovered, had)

  -- that the log can't be had which a mark names is why work is not begun
  pub mark_refusal : (log : List ℕ) (fault : PlaceFault) (failure : Failure F) → IsUnreadAt answers log fault → failure ≡ place_failure none fault → IsMarkRefusal answers none failure
  mark_refusal log fault failure unread is = subst (IsMarkRefusal answers none) (sym (is ∙ ap (place_failure none) unread.2)) (mark_why log unread.0 unread.1)

  -- it is no word that a day is open, or that the disk has failed
  unread_is : (log : List ℕ) (why : LoadFault) (said : FolderFault) → ((own : List ℕ) (fault : FileFault) → said ≡ UnknownDay own fault → ⊥) → place_failure none (unread_log log why) ≡ OfFolder said → ⊥
  unread_is log load.NoMemory said other is = let clash : Work none ≡ OfFolder said = is in absurd cc
  unread_is log load.CannotRead said other is = let same : UnknownDay log CannotRead ≡ said = cc in other log CannotRead (sym same)
  unread_is log load.Unrecovered said other is = let same : UnknownDay log Unrecovered ≡ said = cc in other log Unrecovered (sym same)

  pub unread_said : {T : Type 0} (log : List ℕ) (fault : PlaceFault) (failure : Failure F) (said : FolderFault) → IsUnreadAt answers log fault → failure ≡ place_failure none fault
      → ((own : List ℕ) (why : FileFault) → said ≡ UnknownDay own why → ⊥) → IsErrOf {T = T} (Err failure) (OfFolder said) → ⊥
  unread_said log fault failure said unread is other told =
      let same : failure ≡ OfFolder said = cc in
      unread_is log unread.0 said other (ap (place_failure none) (sym unread.2) ∙ sym is ∙ same)
