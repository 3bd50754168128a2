-- What was opened, the journal of the commands since, and what they made of it.
use Rattle.std.specs.Prelude.{◌≡◌, ℕ, ◌≤◌, List, [], ◌∷◌, ◌++◌, length, map, replicate}
use Rattle.std.specs.List.{AllByRecursion}
use Rattle.lock_table.specs.Locks.{held}
use Rattle.table_core.specs.Content.{Content}
use Rattle.catalogue_core.specs.declared.answer.Answer.{Answer}
use Rattle.catalogue_core.specs.declared.command.Command.{Command}
use Rattle.catalogue_core.specs.declared.entry.Entry.{Entry}
use Rattle.catalogue_core.specs.State.{State, new_station, table_at}
use Rattle.catalogue_core.specs.Step.{step}
use Rattle.catalogue_core.specs.Tables.{NamedTable}

-- the number of stations, and the tables as they were opened
pub record Opened : Type 0 where
  pub stations : ℕ
  pub tables : List NamedTable

-- a catalogue as contracts see it: what was opened, and the journal since
pub record History : Type 0 where
  pub opened : Opened
  pub journal : List Entry

abbrev pub opened_as : ℕ → List NamedTable → Opened
opened_as stations tables = record { stations = stations; tables = tables }

abbrev pub history : Opened → List Entry → History
history opened journal = record { opened = opened; journal = journal }

-- the table of a number as it was opened
abbrev pub opened_at : Opened → ℕ → Content
opened_at opened number = table_at (map (λ t. t.content) opened.tables) number

-- the names under which the tables were opened
abbrev pub names_of : Opened → List (List ℕ)
names_of opened = map (λ t. t.name) opened.tables

-- the state at opening: the tables, no lock, and no table open in any area
abbrev pub start : Opened → State
start opened = record {
  names = names_of opened;
  tables = map (λ t. t.content) opened.tables;
  locks = held opened.stations (length opened.tables) [];
  stations = replicate opened.stations new_station;
}

-- the state after the commands of a list of entries, one after another
abbrev pub after : State → List Entry → State
after s [] = s
after s (e ∷ es) = after (step s e.station e.command).0 es

-- the state after a journal's commands, from opening on
abbrev pub replay : Opened → List Entry → State
replay opened journal = after (start opened) journal

-- each stored answer is the one that `step` gives at its place, from a state on
abbrev pub LegalFrom : State → List Entry → Type 0
LegalFrom s [] = Unit {0}
LegalFrom s (e ∷ es) = (e.answer ≡ (step s e.station e.command).1) × LegalFrom (step s e.station e.command).0 es

-- each stored answer of a journal is the one that `step` gives at its place, from opening on
abbrev pub IsLegal : Opened → List Entry → Type 0
IsLegal opened journal = LegalFrom (start opened) journal

-- the entry is of one of the stations that the tables were opened for
abbrev pub IsOfStation : Opened → Entry → Type 0
IsOfStation opened e = (1 ≤ e.station) × (e.station ≤ opened.stations)

-- each entry of the journal is of one of the stations
abbrev pub AreOfStations : Opened → List Entry → Type 0
AreOfStations opened journal = AllByRecursion (IsOfStation opened) journal

-- a legal history of these opened tables, with at least this many entries: each entry is of one of the stations, and each answer is
-- the one that its command has at its place
pub record IsHistoryOf (opened : Opened) (least : ℕ) (h : History) : Type 0 where
  pub named : h.opened ≡ opened
  pub legal : IsLegal h.opened h.journal
  pub of_stations : AreOfStations h.opened h.journal
  pub long : least ≤ length h.journal

-- the state now
abbrev pub state_of : History → State
state_of h = replay h.opened h.journal

-- what a station's command is answered now
abbrev pub answer_of : History → ℕ → Command → Answer
answer_of h station command = (step (state_of h) station command).1

-- the journal's entry for a command
abbrev pub entry : ℕ → Command → Answer → Entry
entry station command answer = record { station = station; command = command; answer = answer }

-- the history once a station's command has been performed
abbrev pub with_entry : History → ℕ → Command → History
with_entry h station command = history h.opened (h.journal ++ entry station command (answer_of h station command) ∷ [])
