-- How a call of the program ends: its exit status, and what is printed then.
use Rattle.std.specs.Prelude.{Bool, true, false, ℕ, List, ◌++◌, ◌∷◌, [], codes}
use Rattle.std.specs.Fmt.{decimal}
use Rattle.audit.specs.declared.fault.AuditFault.{AuditFault}
use Rattle.audit.specs.declared.fault.AuditFault.TheVariants as fault
use Rattle.audit.specs.declared.fault.Difference.{Difference}
use Rattle.files_in_place.specs.declared.faults.DiskFault.{DiskFault}
use Rattle.files_in_place.specs.declared.faults.DiskFault.TheVariants as disk
use Rattle.files_in_place.specs.declared.faults.SetFault.{SetFault}
use Rattle.files_in_place.specs.declared.faults.SetFault.TheVariants as set
use Rattle.live_day.specs.declared.run_fault.RunFault.{RunFault}
use Rattle.live_day.specs.declared.run_fault.RunFault.TheVariants as run
use Rattle.live_day.specs.declared.start_fault.StartFault.{StartFault}
use Rattle.live_day.specs.declared.start_fault.StartFault.TheVariants as start
use Rattle.live_log.specs.declared.faults.LogFault.{LogFault}
use Rattle.live_log.specs.declared.faults.LogFault.TheVariants as log
use Rattle.station_lines.specs.declared.script.format.TheConstants.{LF}
use Rattle.office_run.specs.declared.close_fault.CloseFault.TheVariants as close
use Rattle.office_run.specs.declared.fault.ServeFault.TheVariants as serve
use Rattle.program_frame.specs.Reasons.{fault_reason, fault_status}
use Rattle.live_program.specs.declared.failure.LiveFailure.{LiveFailure}
use Rattle.live_program.specs.declared.failure.LiveFailure.TheVariants as failure

-- ---- failures

-- that memory was refused
abbrev pub no_memory : LiveFailure
no_memory = failure.Serve serve.NoMemory

-- a file of the day's end was not taken by its folder
abbrev pub says_unwritten : LiveFailure → Bool
says_unwritten (failure.Serve (serve.Close (close.Write name))) = true
says_unwritten why = false

-- why a day was not begun on the log of an earlier one
abbrev pub start_failure : StartFault → LiveFailure
start_failure (start.Changed number) = failure.NoLog number
start_failure (start.Audit why) = failure.Entry why
start_failure start.NoMemory = no_memory

-- why a day was not begun where its log can't be read
abbrev pub unread_log : DiskFault → LiveFailure
unread_log disk.NoMemory = no_memory
unread_log disk.Failed = failure.Unstarted

-- why a day was not begun where its log has not got its place
abbrev pub unplaced_log : SetFault → LiveFailure
unplaced_log set.NoMemory = no_memory
unplaced_log why = failure.Unstarted

-- why the log took no entry
abbrev pub log_failure : LogFault → LiveFailure
log_failure log.NoMemory = no_memory
log_failure why = failure.Log why

-- why its lines were not all answered
abbrev pub run_failure : RunFault → LiveFailure
run_failure (run.Log why) = log_failure why
run_failure run.Screen = failure.Unshown
run_failure run.Unread = failure.Unread
run_failure run.NoMemory = no_memory

-- the exit status: as the server's, 5 where the log does not hold, 4 where it, the answers or a mark can't be written, and 2 for a file
-- that has the name of one of the day's own
abbrev pub status : LiveFailure → ℕ
status (failure.Serve why) = fault_status why
status (failure.NoLog number) = 5
status (failure.OtherFile path) = 5
status failure.OtherReindex = 5
status failure.OtherVersion = 5
status (failure.Entry why) = 5
status (failure.Log why) = 4
status failure.Unstarted = 4
status (failure.Unmarked folder) = 4
status (failure.OwnName path) = 2
status failure.Unshown = 4
status failure.Unread = 2

-- an entry of the log has another answer
abbrev pub difference_reason : Difference → List ℕ
difference_reason d =
    codes "entry " ++ (decimal d.number ++ (codes " of the log: station " ++ (decimal d.station ++ codes " has another answer on these tables")))

-- why an entry of the log does not hold
abbrev pub entry_reason : AuditFault → List ℕ
entry_reason (fault.NoEntry number) = codes "entry " ++ (decimal number ++ codes " of the log: no entry of a station stands here")
entry_reason (fault.Differs d) = difference_reason d
entry_reason fault.TooLong = codes "the log has too many entries"
entry_reason fault.NoMemory = codes "run: NoMemory"

-- a file is not the one with which the day of the log began
abbrev pub other_reason : List ℕ → List ℕ
other_reason path = path ++ codes " is not the file with which the day of the log began"

-- a folder can't be given the mark of a day
abbrev pub unmarked_reason : List ℕ → List ℕ
unmarked_reason folder = codes "cannot put STATIONS.DAY into " ++ folder

-- a file that a day reads has the name of one of its own
abbrev pub own_name_reason : List ℕ → List ℕ
own_name_reason path = path ++ codes ": STATIONS.LOG and STATIONS.DAY are files of a day's own"

-- how a call that failed ends: what is said on standard error
abbrev pub reason : LiveFailure → List ℕ
reason (failure.Serve why) = fault_reason why
reason (failure.NoLog number) = codes "entry " ++ (decimal number ++ codes " of the log: STATIONS.LOG is no log of this version, or somebody has changed it")
reason (failure.OtherFile path) = other_reason path
reason failure.OtherReindex = codes "the day of the log did not begin with --reindex as it is given here"
reason failure.OtherVersion = codes "STATIONS.LOG is no log of this version, or somebody has changed it"
reason (failure.Entry why) = entry_reason why
reason (failure.Log why) = codes "cannot write the log: the next start goes on with it"
reason failure.Unstarted = codes "cannot read or write the log"
reason (failure.Unmarked folder) = unmarked_reason folder
reason (failure.OwnName path) = own_name_reason path
reason failure.Unshown = codes "cannot print the answers: the next start goes on with the log"
reason failure.Unread = codes "cannot read the lines: the next start goes on with the log"

-- ---- what is printed

-- how many commands were performed, its LF too
abbrev pub count_line : ℕ → List ℕ
count_line count = codes "station_prompt: " ++ (decimal count ++ (codes " commands" ++ LF ∷ []))
