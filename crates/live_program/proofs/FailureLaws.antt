-- Why a life failed, as its parts say it.
use Rattle.std.proofs.Common.{◌≡◌, ◌∙◌, ◌∷◌, ◌++◌, Bool, true, List, ℕ, Option, Some, Result, Ok, Err, refl, sym, ap, arith, subst, inl, inr}
use Rattle.std.specs.Prelude.{⊤, IfErr, IsErr, IsErrAnd}
use Rattle.std.specs.List.{Contains}
use Rattle.std.proofs.lemmas.List.Elements.{Contains-append_right}
use Rattle.catalogue_core.specs.Replay.{History, Opened}
use Rattle.dbf_fields.specs.declared.day.Day.{Day}
use Rattle.files_in_place.specs.declared.faults.SetFault.{SetFault}
use Rattle.files_in_place.specs.declared.faults.SetFault.TheVariants as set
use Rattle.files_in_place.specs.Disk.{DiskMeaning}
use Rattle.files_in_place.specs.Folder.{Folder, recovered}
use Rattle.folders.specs.declared.named.NamedFile.{NamedFile}
use Rattle.office_run.specs.TablesWritten.{IsCutTables}
use Rattle.office_run.specs.WholeRun.{IsReadFault}
use Rattle.office_run.specs.declared.close_fault.CloseFault.TheVariants as close
use Rattle.office_run.specs.declared.fault.ServeFault.{ServeFault}
use Rattle.office_run.specs.declared.fault.ServeFault.TheVariants as serve
use Rattle.program_frame.specs.Jobs.{given_up}
use Rattle.program_frame.specs.declared.ending.Failure.{Failure}
use Rattle.program_frame.specs.declared.ending.Failure.TheVariants as failure
use Rattle.program_frame.specs.Endings.{place_failure}
use Rattle.program_frame.specs.PlaceFaults.{unplaced_files}
use Rattle.folders.specs.declared.finish_fault.FinishFault.{FinishFault}
use Rattle.folders.specs.declared.finish_fault.FinishFault.TheVariants as finish
use Rattle.live_log.specs.declared.faults.LogFault.TheVariants as log
use Rattle.live_day.specs.declared.run_fault.RunFault.TheVariants as run
use Rattle.live_day.specs.declared.run_fault.RunFault.{RunFault}
use Rattle.live_log.specs.Gates.{or_empty_log}
use Rattle.open_day.specs.OpenDay.{log_name}
use Rattle.program_frame.specs.Placing.{IsRecovered}
use Rattle.live_program.specs.Endings.{no_memory, run_failure}
use Rattle.live_program.specs.Heads.{IsBehindHead}
use Rattle.live_program.specs.Failures.{IsDayFailure, IsFileUnwritten, IsOfStart, IsStopFailure, IsTableNamed, IsUnclosed, IsUnended, IsUnendedFrom, IsUnstarted}
use Rattle.live_program.specs.declared.failure.LiveFailure.{LiveFailure}
use Rattle.live_program.specs.declared.failure.LiveFailure.TheVariants as live
use Rattle.live_program.specs.declared.options.Options.{Options}
use Rattle.live_program.proofs.OpeningLaws.{unread_tables}

-- what holds of the fault holds of the result that is of it
pub err_is : {T E : Type 0} (r : Result T E) (why : E) (P : E → Type 0) → r ≡ Err why → P why → IfErr r P
err_is r why P is holds = subst (λ x. IfErr x P) (sym is) holds

-- and it is an error
pub err_failed : {T E : Type 0} (r : Result T E) (why : E) → r ≡ Err why → IsErr r
err_failed (Ok t) why is = absurd cc
err_failed (Err e) why is = refl

-- what holds of the fault that `?` hands on
pub told_end_of : {T E : Type 0} (r : Result T E) (why : E) (P : E → Type 0) → IsErrAnd r (λ e. e ≡ why) → P why → IfErr r P
told_end_of (Ok t) why P is holds = absurd is
told_end_of (Err e) why P is holds = subst P (sym is) holds

-- a file that was not taken for want of memory
pub given_up_day : (h : History) (today : Day) (b : Bool) (last : Option SetFault) (why : LiveFailure) → IsDayFailure h today why → IsDayFailure h today (given_up b no_memory last why)
given_up_day h today true (Some set.NoMemory) why is = (serve.NoMemory, inl tt, refl)
given_up_day h today b last why is = is

pub given_up_as : (h : History) (today : Day) (b : Bool) (last : Option SetFault) (why told : LiveFailure) → told ≡ given_up b no_memory last why → IsDayFailure h today why → IsDayFailure h today told
given_up_as h today b last why told is failure = subst (IsDayFailure h today) (sym is) (given_up_day h today b last why failure)

-- the lines of a day were not all answered
pub stop_failed : (is_told : RunFault → Type 0) (r : Result ⊤ RunFault) (fault : RunFault) (why : LiveFailure) → r ≡ Err fault → IfErr r is_told → why ≡ run_failure fault
    → IsStopFailure is_told why
stop_failed is_told r fault why was told is = (fault, subst (λ x. IfErr x is_told) was told, is)

-- a file of a table or an index that was not taken
pub table_named : (h : History) (today : Day) (old new : Option (List ℕ)) (fault : ServeFault) → IsCutTables h today old new fault → IsTableNamed h today fault
table_named h today old new (serve.Close (close.Write name)) cut =
    let at = cut.2 in
    let file : NamedFile = record { name = name; bytes = at.bytes } in
    let among : Contains (at.before ++ file ∷ at.others) file = Contains-append_right at.before (file ∷ at.others) file (0, omega arith, refl) in
    (cut.0, cut.1, (at.bytes, subst (λ (files : List NamedFile). Contains files file) (sym at.order) among))
table_named h today old new fault cut = tt

-- a file of another name is one of these too
pub unwritten_on : (is_such is_so : List ℕ → Type 0) (fault : ServeFault) → ((name : List ℕ) → is_such name → is_so name) → IsFileUnwritten is_such fault → IsFileUnwritten is_so fault
unwritten_on is_such is_so serve.NoMemory on is = tt
unwritten_on is_such is_so (serve.Close (close.Write name)) on is = on name is
unwritten_on is_such is_so fault on is = absurd is

-- the tables are not opened
pub unopened_tables : {D : Type 0} (m : DiskMeaning D) (folder : Folder) (files : Option (List NamedFile)) (options : Options) (fault : ServeFault) → IsReadFault files options.setup.now fault
    → IsUnstarted m folder files options (live.Serve fault)
unopened_tables m folder files options fault unread = inl (record { fault = fault; unopened = unread_tables files options.setup.now options.reindex fault unread; why_is = refl })

-- memory was refused
pub refused_start : {D : Type 0} (m : DiskMeaning D) (folder : Folder) (files : Option (List NamedFile)) (options : Options) → IsUnstarted m folder files options no_memory
refused_start m folder files options = inl (record { fault = serve.NoMemory; unopened = tt; why_is = refl })

-- why a day was not begun is said in the same way of another folder that has the same log
told_there : {D : Type 0} (m : DiskMeaning D) (a b : Folder) (files : Option (List NamedFile)) (options : Options) (why : LiveFailure) → (m.keeps_promises → a log_name ≡ b log_name) → IsUnstarted m a files options why
    → IsUnstarted m b files options why
told_there m a b files options why same (inl tables) = inl tables
told_there m a b files options why same (inr (inl log)) =
    inr (inl (record {
      opened = log.opened;
      tables = log.tables;
      read = log.read;
      known = log.known;
      earlier = log.earlier;
      body = log.body;
      behind = λ promised. subst (λ (o : Option (List ℕ)). IsBehindHead log.read options.reindex (or_empty_log o) log.earlier log.body) (same promised) (log.behind promised);
      fault = log.fault;
      told = log.told;
      why_is = log.why_is;
    }))
told_there m a b files options why same (inr (inr (inl unplaced))) = inr (inr (inl unplaced))
told_there m a b files options why same (inr (inr (inr other))) =
    inr (inr (inr (record {
      read = other.read;
      known = other.known;
      log = other.log;
      there = λ promised. other.there promised ∙ ap (λ (o : Option (List ℕ)). or_empty_log o) (same promised);
      told = other.told;
    })))

-- so where the folder was recovered
pub recovered_told : {D : Type 0} (m : DiskMeaning D) (start now : D) (files : Option (List NamedFile)) (options : Options) (why : LiveFailure) → (m.keeps_promises → IsRecovered m start now)
    → IsUnstarted m (m.seen now) files options why → IsUnstarted m (recovered (m.seen start)) files options why
recovered_told m start now files options why recovered_to unstarted =
    told_there m (m.seen now) (recovered (m.seen start)) files options why (λ promised. (recovered_to promised).same log_name) unstarted

-- a day that was begun has not failed as one that was not
stop_begun : (fault : RunFault) → IsOfStart (run_failure fault) → ⊥
stop_begun (run.Log log.NoMemory) of_start = of_start
stop_begun (run.Log log.Closed) of_start = of_start
stop_begun (run.Log log.TooLong) of_start = of_start
stop_begun (run.Log log.Failed) of_start = of_start
stop_begun run.Screen of_start = of_start
stop_begun run.Unread of_start = of_start
stop_begun run.NoMemory of_start = of_start

work_is : (a b : LiveFailure) → failure.Work a ≡ failure.Work b → a ≡ b
work_is a b is = cc

unplaced_begun : (fault : FinishFault) (why : LiveFailure) → IsOfStart why → place_failure no_memory (unplaced_files fault) ≡ failure.Work why → ⊥
unplaced_begun finish.NoMemory why of_start is = subst IsOfStart (sym (work_is no_memory why is)) of_start
unplaced_begun finish.Unwritten why of_start is = cc
unplaced_begun finish.Unfinished why of_start is = cc

unclosed_begun : (h : History) (today : Day) (why : LiveFailure) → IsOfStart why → IsUnclosed h today (failure.Work why) → ⊥
unclosed_begun h today why of_start (inl is) =
    let same : why ≡ live.Serve is.1.0 = work_is why is.0 is.2 ∙ is.1.2 in
    subst IsOfStart same of_start
unclosed_begun h today why of_start (inr is) = unplaced_begun is.0 why of_start (sym is.1)

unended_on : (is_told : RunFault → Type 0) (h : History) (today : Day) (why : LiveFailure) → IsOfStart why → IsUnended is_told h today (failure.Work why) → ⊥
unended_on is_told h today why of_start (inl is) = stop_begun is.1.0 (subst IsOfStart (work_is why is.0 is.2 ∙ is.1.2) of_start)
unended_on is_told h today why of_start (inr is) = unclosed_begun h today why of_start is

pub unended_begun : {T : Type 0} (is_told : History → RunFault → Type 0) (opened : Opened) (today : Day) (r : Result T (Failure LiveFailure)) (why : LiveFailure) → IsOfStart why
    → r ≡ Err (failure.Work why) → IfErr r (IsUnendedFrom is_told opened today) → ⊥
unended_begun is_told opened today r why of_start is ended =
    let from : IsUnendedFrom is_told opened today (failure.Work why) = subst (λ x. IfErr x (IsUnendedFrom is_told opened today)) is ended in
    unended_on (is_told from.0) from.0 today why of_start from.2
