-- What an audit says of a journal's text.
use Rattle.std.specs.Prelude.{◌≡◌, ◌≢◌, ℕ, ◌+◌, ◌≤◌, true, List, ◌∷◌, length, map}
use Rattle.std.specs.List.{AllByRecursion}
use Rattle.catalogue_core.specs.declared.catalogue.TheConstants.{MAX_ENTRIES}
use Rattle.catalogue_core.specs.declared.command.Command.{Command}
use Rattle.catalogue_core.specs.declared.entry.Entry.{Entry}
use Rattle.catalogue_core.specs.Replay.{Opened, History, state_of, answer_of, with_entry, LegalFrom, IsLegal, AreOfStations}
use Rattle.station_lines.specs.declared.script.line.Line.{Line}
use Rattle.station_lines.specs.declared.script.line.Line.TheVariants.{Run}
use Rattle.station_lines.specs.AnswerLines.{line_of}
use Rattle.station_lines.specs.CommandLines.{text_of_command, IsOfALine}
use Rattle.station_lines.specs.JournalLines.{entry_and, lines_and, line_parts, journal_text, BeginsWithEntry}
use Rattle.station_lines.specs.Script.Lines.{has_no_lf}
use Rattle.station_lines.specs.Script.Meaning.{Means}
use Rattle.audit.specs.declared.fault.AuditFault.{AuditFault}
use Rattle.audit.specs.declared.fault.AuditFault.TheVariants.{NoEntry, Differs, TooLong, NoMemory}
use Rattle.audit.specs.declared.fault.Difference.{Difference}

-- ---- journals

-- each command is one that a line of a script means
abbrev pub AreOfLines : List Entry → Type 0
AreOfLines entries = AllByRecursion (λ e. IsOfALine e.command) entries

-- The text is the lines of entries of a legal history on the opened tables: each entry is of one of the stations, its command is
-- one that a line of a script means, so no LF stands in its line, and its answer is the one that the command has at its place.
pub record IsJournalOf (opened : Opened) (text : List ℕ) (journal : List Entry) : Type 0 where
  pub text_is : text ≡ journal_text journal
  pub legal : IsLegal opened journal
  pub of_stations : AreOfStations opened journal
  pub of_lines : AreOfLines journal
  pub few : length journal ≤ MAX_ENTRIES

-- the text is that of entries that continue a history
pub record IsContinuedBy (h : History) (text : List ℕ) (more : List Entry) : Type 0 where
  pub text_is : text ≡ journal_text more
  pub legal : LegalFrom (state_of h) more
  pub of_stations : AreOfStations h.opened more
  pub of_lines : AreOfLines more
  pub few : length h.journal + length more ≤ MAX_ENTRIES

-- ---- a line

-- the line is that of a command that a line of a script means
pub record IsLineOfCommand (line : List ℕ) (command : Command) : Type 0 where
  pub is : line ≡ text_of_command command
  pub of_a_line : IsOfALine command

abbrev pub IsNoCommandLine : List ℕ → Type 0
IsNoCommandLine line = (command : Command) → IsOfALine command → line ≢ text_of_command command

-- the first line is that of an entry of one of the stations, and of a command that a line of a script means
pub record BeginsWithCommand (stations : ℕ) (text : List ℕ) (station : ℕ) (command : Command) (answer rest : List ℕ) : Type 0 where
  pub line : BeginsWithEntry text (station, text_of_command command, answer) rest
  pub counted : 1 ≤ station
  pub inside : station ≤ stations
  pub of_a_line : IsOfALine command

-- no line of such an entry is first
abbrev pub BeginsWithNoCommand : ℕ → List ℕ → Type 0
BeginsWithNoCommand stations text =
    (station : ℕ) (command : Command) (answer rest : List ℕ) → 1 ≤ station → station ≤ stations → IsOfALine command
    → text ≢ entry_and (station, text_of_command command, answer) rest

-- a line that is the same
pub record IsSameFirst (station : ℕ) (command : Command) (answer rest : List ℕ) (s : ℕ) (c : Command) (a r : List ℕ) : Type 0 where
  pub station_is : station ≡ s
  pub command_is : command ≡ c
  pub answer_is : answer ≡ a
  pub rest_is : rest ≡ r

-- no line of another such entry is first
abbrev pub IsOnlyFirst : ℕ → List ℕ → ℕ → Command → List ℕ → List ℕ → Type 0
IsOnlyFirst stations text station command answer rest =
    (s : ℕ) (c : Command) (a r : List ℕ) → 1 ≤ s → s ≤ stations → IsOfALine c → text ≡ entry_and (s, text_of_command c, a) r
    → IsSameFirst station command answer rest s c a r

-- ---- what memory is taken for

-- a line's meaning is a command
abbrev pub IsCommand : Line → Type 0
IsCommand (Run command) = Unit {0}
IsCommand meaning = ⊥

-- the line of a script means a command, in whatever spelling
abbrev pub MeansACommand : List ℕ → Type 0
MeansACommand line = (has_no_lf line ≡ true) × ((meaning : Line) → Means line meaning → IsCommand meaning)

-- The first line is that of an entry of one of the stations, whose command's line means a command: memory is taken for
-- such a line alone.
pub record BeginsWithReadable (stations : ℕ) (text : List ℕ) : Type 0 where
  pub station : ℕ
  pub line : List ℕ
  pub answer : List ℕ
  pub rest : List ℕ
  pub is : text ≡ entry_and (station, line, answer) rest
  pub counted : 1 ≤ station
  pub inside : station ≤ stations
  pub means : MeansACommand line

-- ---- a step of an audit

-- the history goes on with the entry whose line is first
pub record HoldsFirst (h : History) (text : List ℕ) (next : History) (rest : List ℕ) : Type 0 where
  pub station : ℕ
  pub command : Command
  pub first : BeginsWithCommand h.opened.stations text station command (line_of (answer_of h station command)) rest
  pub next_is : next ≡ with_entry h station command

-- where entries with this text continue the one history, those after the first continue the next one, with what stands
-- after the first line
abbrev pub Continues : History → List ℕ → History → List ℕ → Type 0
Continues h text next rest =
    (e : Entry) (es : List Entry) → IsContinuedBy h text (e ∷ es) → IsContinuedBy next rest es

-- the command of the entry whose line is first has another answer at its place
pub record IsDifferenceAt (h : History) (text : List ℕ) (d : Difference) : Type 0 where
  pub command : Command
  pub rest : List ℕ
  pub first : BeginsWithCommand h.opened.stations text d.station command d.told rest
  pub command_is : d.command ≡ text_of_command command
  pub performed : d.performed ≡ line_of (answer_of h d.station command)
  pub other : d.performed ≢ d.told
  pub number : d.number ≡ length h.journal + 1

-- why an entry can't be performed
abbrev pub IsStopFault : History → AuditFault → Type 0
IsStopFault h TooLong = length h.journal ≡ MAX_ENTRIES
IsStopFault h NoMemory = Unit {0}
IsStopFault h fault = ⊥

-- what is said of an entry with another answer
pub record IsDifferenceOf (number station : ℕ) (command : Command) (told performed : List ℕ) (d : Difference) : Type 0 where
  pub number_is : d.number ≡ number
  pub station_is : d.station ≡ station
  pub command_is : d.command ≡ text_of_command command
  pub told_is : d.told ≡ told
  pub performed_is : d.performed ≡ performed

-- the fault of an entry with another answer
abbrev pub IsAnswerFault : ℕ → ℕ → Command → List ℕ → List ℕ → AuditFault → Type 0
IsAnswerFault number station command told performed (Differs d) = IsDifferenceOf number station command told performed d
IsAnswerFault number station command told performed NoMemory = Unit {0}
IsAnswerFault number station command told performed fault = ⊥

-- why the history does not go on with the text; memory was refused only for a line that takes it
abbrev pub IsFaultAt : History → List ℕ → AuditFault → Type 0
IsFaultAt h text (NoEntry number) = BeginsWithNoCommand h.opened.stations text × (number ≡ length h.journal + 1)
IsFaultAt h text (Differs d) = IsDifferenceAt h text d
IsFaultAt h text TooLong = length h.journal ≡ MAX_ENTRIES
IsFaultAt h text NoMemory = BeginsWithReadable h.opened.stations text

-- with no entries whose text this is the history goes on; of want of memory nothing is said
abbrev pub Refutes : History → List ℕ → AuditFault → Type 0
Refutes h text NoMemory = Unit {0}
Refutes h text fault = (e : Entry) (es : List Entry) → IsContinuedBy h text (e ∷ es) → ⊥

-- ---- an audit

-- the first lines of the text are those of a legal history on the opened tables, and this text stands after them
pub record HasHeld (opened : Opened) (text : List ℕ) (h : History) (rest : List ℕ) : Type 0 where
  pub named : h.opened ≡ opened
  pub text_is : text ≡ lines_and (map line_parts h.journal) rest
  pub legal : IsLegal h.opened h.journal
  pub of_stations : AreOfStations h.opened h.journal
  pub of_lines : AreOfLines h.journal

-- up to the fault the text is that of a legal history on the opened tables
pub record IsAuditFault (opened : Opened) (text : List ℕ) (fault : AuditFault) : Type 0 where
  pub history : History
  pub rest : List ℕ
  pub held : HasHeld opened text history rest
  pub at : IsFaultAt history rest fault

-- the text is no journal of a legal history on the opened tables; of want of memory nothing is said
abbrev pub RefutesAll : Opened → List ℕ → AuditFault → Type 0
RefutesAll opened text NoMemory = Unit {0}
RefutesAll opened text fault = (journal : List Entry) → IsJournalOf opened text journal → ⊥
