-- How a call of the program ends: its exit status, and what is printed then.
use Rattle.std.specs.Prelude.{◌≡◌, ℕ, Bool, true, false, List, ◌++◌, ◌∷◌, [], length, take, flat_map, nat_le, codes, Option, if◌then◌else◌}
use Rattle.std.specs.Fmt.{decimal}
use Rattle.std.specs.Io.KnownBytes.{Appends}
use Rattle.audit.specs.declared.fault.AuditFault.{AuditFault}
use Rattle.audit.specs.declared.fault.AuditFault.TheVariants as fault
use Rattle.audit.specs.declared.fault.Difference.{Difference}
use Rattle.journal_file.specs.declared.sum.FileSum.{FileSum}
use Rattle.journal_file.specs.WholeText.{wrote_word}
use Rattle.station_lines.specs.declared.script.format.TheConstants.{LF}
use Rattle.office_run.specs.declared.fault.FileFault.TheVariants as file
use Rattle.office_run.specs.declared.fault.ServeFault.TheVariants as serve
use Rattle.program_frame.specs.Reasons.{fault_reason, fault_status, unread_file}
use Rattle.audit_program.specs.declared.failure.TheConstants.{MAX_SHOWN_BYTES}
use Rattle.audit_program.specs.declared.audited.Audited.{Audited}
use Rattle.audit_program.specs.declared.failure.AuditFailure.{AuditFailure}
use Rattle.audit_program.specs.declared.failure.AuditFailure.TheVariants as failure
use Rattle.audit_program.specs.Comparing.{IfLinesOf, are_of_run, is_of_run}

-- ---- the exit status

-- of a failure the exit status: as the server's, 5 if an entry does not hold, and 6 if the journal is none, or that of another run
abbrev pub status : AuditFailure → ℕ
status (failure.Serve why) = fault_status why
status failure.Unread = 2
status (failure.UnrecoveredJournal path) = 2
status (failure.NoJournal path) = 6
status (failure.CutJournal path) = 6
status (failure.OtherReindex of_run) = 6
status (failure.OtherFile path) = 6
status (failure.Audit why) = 5

-- where all entries hold, and these are the files that the run wrote: 7 where the audit has written another one
abbrev pub audited_status : List FileSum → Audited → ℕ
audited_status wrote audited = if are_of_run wrote audited.written.items then 0 else 7

-- it is this
abbrev pub IsAuditedStatus : Audited → ℕ → Type 0
IsAuditedStatus audited status = IfLinesOf wrote_word audited.wrote (λ wrote. status ≡ audited_status wrote audited)

-- ---- why not all entries hold

-- that memory was refused
abbrev pub no_memory : AuditFailure
no_memory = failure.Serve serve.NoMemory

-- a command's line or an answer: the whole, or its first bytes and how many there are
abbrev pub shortened : List ℕ → List ℕ
shortened text = if nat_le (length text) MAX_SHOWN_BYTES then text else take MAX_SHOWN_BYTES text ++ (codes ".. (" ++ (decimal (length text) ++ codes " bytes)"))

-- the entry that does not hold: its number, its station and its command's line
abbrev pub entry_named : Difference → List ℕ
entry_named d = codes "entry " ++ (decimal d.number ++ (codes ": station " ++ (decimal d.station ++ (codes ": " ++ shortened d.command))))

-- the answer in the journal, in a line of its own
abbrev pub told_answer : Difference → List ℕ
told_answer d = LF ∷ (codes "  the journal says: " ++ shortened d.told)

-- the answer that the command has, in a line of its own
abbrev pub performed_answer : Difference → List ℕ
performed_answer d = LF ∷ (codes "  the answer is: " ++ shortened d.performed)

abbrev pub difference_reason : Difference → List ℕ
difference_reason d = entry_named d ++ (told_answer d ++ performed_answer d)

abbrev pub audit_reason : AuditFault → List ℕ
audit_reason (fault.NoEntry number) = codes "entry " ++ (decimal number ++ codes ": no entry of a station stands here")
audit_reason (fault.Differs d) = difference_reason d
audit_reason fault.TooLong = codes "there are too many entries"
audit_reason fault.NoMemory = codes "run: NoMemory"

-- whether the run made the indexes anew
abbrev pub reindex_reason : Bool → List ℕ
reindex_reason true = codes "the run was with --reindex"
reindex_reason false = codes "the run was without --reindex"

-- of a failure what is said
abbrev pub reason : AuditFailure → List ℕ
reason (failure.Serve why) = fault_reason why
reason failure.Unread = codes "cannot read the journal: is it there, a file, and may it be read?"
reason (failure.UnrecoveredJournal path) = unread_file path file.Unrecovered
reason (failure.NoJournal path) = path ++ codes " is no journal"
reason (failure.CutJournal path) = path ++ codes " is cut"
reason (failure.OtherReindex of_run) = reindex_reason of_run
reason (failure.OtherFile path) = path ++ codes " is not the file that the run read"
reason (failure.Audit why) = audit_reason why

-- ---- what is printed

-- how many entries hold, its LF too
abbrev pub count_line : ℕ → List ℕ
count_line count = codes "station_audit: " ++ (decimal count ++ (codes " entries hold" ++ LF ∷ []))

-- what is said of a file, its LF too
abbrev pub file_line : FileSum → List ℕ → List ℕ
file_line file said = codes "station_audit: " ++ (file.path ++ (said ++ LF ∷ []))

-- of one that was read
abbrev pub read_line : FileSum → List ℕ
read_line file = file_line file (codes " is the file that the run read")

-- of one that was written, where the run wrote these
abbrev pub written_line : List FileSum → FileSum → List ℕ
written_line wrote file =
    file_line file (if is_of_run wrote file then codes " is the file that the run wrote" else codes " is not the file that the run wrote")

-- On standard output where all entries hold, and these are the files that the run wrote: the files that were read, how many entries
-- there are, and the files that were written.
abbrev pub audited_text : List FileSum → Audited → List ℕ
audited_text wrote audited =
    flat_map read_line audited.read.items ++ (count_line audited.count ++ flat_map (written_line wrote) audited.written.items)

-- standard output has got what is said if all entries hold
abbrev pub AppendsAudited : Audited → Option (List ℕ) → Option (List ℕ) → Type 0
AppendsAudited audited old new = IfLinesOf wrote_word audited.wrote (λ wrote. Appends old new (audited_text wrote audited))
