-- The status row: how long the journal is, its last entry, and who holds which table.
use Rattle.std.specs.Prelude.{ℕ, ◌+◌, ◌-◌, Bool, true, false, ◌&&◌, ◌==◌, nat_le, if◌then◌else◌, List, [], ◌∷◌, length, map, slice_get, Option, Some, None}
use Rattle.std.specs.List.{list_any, position}
use Rattle.lock_table.specs.Locks.{Lock, holder, record_locks}
use Rattle.ndx_index.specs.Places.{counted}
use Rattle.table_core.specs.Refusals.{code_of as code_of_refusal}
use Rattle.catalogue_core.specs.declared.answer.Answer.{Answer}
use Rattle.catalogue_core.specs.declared.answer.Answer.TheVariants.{Done, Number, Truth, Text, Refused}
use Rattle.catalogue_core.specs.declared.area.Area.{Area}
use Rattle.catalogue_core.specs.declared.area.Station.{Station}
use Rattle.catalogue_core.specs.declared.entry.Entry.{Entry}
use Rattle.catalogue_core.specs.declared.opening.TheConstants.{MAX_TABLES}
use Rattle.catalogue_core.specs.declared.status.StatusRow.{StatusRow}
use Rattle.catalogue_core.specs.declared.status.TableStatus.{TableStatus}
use Rattle.catalogue_core.specs.Replay.{History, state_of}
use Rattle.catalogue_core.specs.State.{State}

-- the number that stands for an answer
abbrev pub answer_code : Answer → ℕ
answer_code Done = 0
answer_code (Truth false) = 1
answer_code (Truth true) = 2
answer_code (Number n) = 3
answer_code (Text t) = 4
answer_code (Refused refusal) = 100 + code_of_refusal refusal

-- the table is open exclusively in the area
abbrev pub has_exclusively : ℕ → Option Area → Bool
has_exclusively number None = false
has_exclusively number (Some area) = area.table == number && area.exclusive

-- the index of the station that has the table open exclusively, where there is one
abbrev pub exclusive_user : List Station → ℕ → Option ℕ
exclusive_user stations number = position (λ st. list_any (has_exclusively number) st.areas) stations

-- the station that has the table exclusively, or else the one that has locked it, or 0
abbrev pub holder_beside : List Lock → ℕ → Option ℕ → ℕ
holder_beside locks number (Some index) = index + 1
holder_beside locks number None = holder locks number 0

-- the station that holds the whole table, or 0
abbrev pub table_holder : State → ℕ → ℕ
table_holder s number = holder_beside s.locks.locks number (exclusive_user s.stations number)

-- the status of the table of a number, and zeros where there is no such table
abbrev pub table_status : State → ℕ → TableStatus
table_status s number =
    if nat_le number (length s.tables)
    then record { holder = table_holder s number; record_locks = record_locks s.locks.locks number }
    else record { holder = 0; record_locks = 0 }

-- the last entry's station, and the number that stands for its answer
abbrev pub entry_station : Option Entry → ℕ
entry_station None = 0
entry_station (Some e) = e.station

abbrev pub answer_code_of : Option Entry → ℕ
answer_code_of None = 0
answer_code_of (Some e) = answer_code e.answer

abbrev pub last_entry : List Entry → Option Entry
last_entry journal = slice_get journal (length journal - 1)

-- the status row of a catalogue
abbrev pub row : History → StatusRow
row h = record {
  journal_length = length h.journal;
  last_station = entry_station (last_entry h.journal);
  last_answer = answer_code_of (last_entry h.journal);
  tables = map (table_status (state_of h)) (counted 1 MAX_TABLES);
}

-- the holder and the number of locked records of each table
abbrev pub words_of : List TableStatus → List ℕ
words_of [] = []
words_of (t ∷ ts) = t.holder ∷ t.record_locks ∷ words_of ts

-- the row as 23 numbers
abbrev pub row_words : StatusRow → List ℕ
row_words r = r.journal_length ∷ r.last_station ∷ r.last_answer ∷ words_of r.tables
