-- The first entry of a journal that does not hold.
use Rattle.std.specs.Prelude.{◌≡◌, ◌≢◌, ◌⊎◌, ◌+◌, ◌^◌, ◌<◌, ◌≤◌, List, ◌∷◌, ◌++◌, length}
use Rattle.catalogue_core.specs.declared.catalogue.TheConstants.{MAX_ENTRIES}
use Rattle.catalogue_core.specs.declared.entry.Entry.{Entry}
use Rattle.catalogue_core.specs.Replay.{Opened, history, answer_of, IsLegal, AreOfStations}
use Rattle.station_lines.specs.AnswerLines.{line_of}
use Rattle.station_lines.specs.CommandLines.{text_of_command}
use Rattle.station_lines.specs.JournalLines.{journal_text}
use Rattle.audit.specs.declared.fault.AuditFault.{AuditFault}
use Rattle.audit.specs.declared.fault.AuditFault.TheVariants.{Differs, NoMemory}
use Rattle.audit.specs.declared.fault.Difference.{Difference}
use Rattle.audit.specs.Audits.{AreOfLines, IsAuditFault, IsJournalOf}

-- The entries before one have the answers that their commands have at their places, and it has another. This is said of it: its
-- number, its station, the line of its command, that of its answer, and that of the answer which its command has.
pub record IsFirstOther (opened : Opened) (entries : List Entry) (d : Difference) : Type 0 where
  pub before : List Entry
  pub entry : Entry
  pub later : List Entry
  pub order : entries ≡ before ++ entry ∷ later
  pub legal : IsLegal opened before
  pub number : d.number ≡ length before + 1
  pub station : d.station ≡ entry.station
  pub command : d.command ≡ text_of_command entry.command
  pub told : d.told ≡ line_of entry.answer
  pub performed : d.performed ≡ line_of (answer_of (history opened before) entry.station entry.command)
  pub other : d.performed ≢ d.told

-- Each entry is of one of the stations and of a command that a line means, there are no more than a journal may have, and numbers of
-- 64 bits count the stations and the bytes of their text.
pub record CanBeAudited (opened : Opened) (entries : List Entry) : Type 0 where
  pub of_stations : AreOfStations opened entries
  pub of_lines : AreOfLines entries
  pub few : length entries ≤ MAX_ENTRIES
  pub stations : opened.stations < 2 ^ 64
  pub long : length (journal_text entries) < 2 ^ 64

-- an audit of the text of such entries that fails says just this, or that memory was refused
abbrev pub NamesFirstOther : Opened → List Entry → Difference → Type 0
NamesFirstOther opened entries d =
    CanBeAudited opened entries → IsFirstOther opened entries d → (fault : AuditFault) → IsAuditFault opened (journal_text entries) fault
    → (fault ≡ NoMemory) ⊎ (fault ≡ Differs d)

-- no audit of the text of such entries says that all hold
abbrev pub FailsAtFirstOther : Opened → List Entry → Difference → Type 0
FailsAtFirstOther opened entries d =
    CanBeAudited opened entries → IsFirstOther opened entries d → (journal : List Entry) → ¬ IsJournalOf opened (journal_text entries) journal
