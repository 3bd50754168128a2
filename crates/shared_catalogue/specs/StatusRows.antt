-- Lists of status rows: those of a history, and those that a station knows.
use Rattle.std.specs.Prelude.{◌≡◌, ℕ, ◌+◌, ◌==◌, count_by, List, [], ◌∷◌, ◌++◌, length, map, take, replicate}
use Rattle.ndx_index.specs.Places.{counted}
use Rattle.catalogue_core.specs.declared.answer.Answer.{Answer}
use Rattle.catalogue_core.specs.declared.command.Command.{Command}
use Rattle.catalogue_core.specs.declared.opening.TheConstants.{MAX_TABLES}
use Rattle.catalogue_core.specs.declared.status.StatusRow.{StatusRow}
use Rattle.catalogue_core.specs.declared.status.TableStatus.{TableStatus}
use Rattle.catalogue_core.specs.Replay.{Opened, History, history, answer_of, with_entry, IsHistoryOf}
use Rattle.catalogue_core.specs.Status.{row, answer_code}

-- a table that nobody holds, and of which no record is locked
abbrev pub free_status : TableStatus
free_status = record { holder = 0; record_locks = 0 }

-- the row of a catalogue that has performed no command: zeros
abbrev pub opening_row : StatusRow
opening_row = record { journal_length = 0; last_station = 0; last_answer = 0; tables = replicate MAX_TABLES free_status }

-- the row after the first n entries of a journal
abbrev pub row_after : History → ℕ → StatusRow
row_after h n = row (history h.opened (take n h.journal))

-- the rows of a history: the row after each beginning of its journal, the empty one first
unfoldable pub status_rows : History → List StatusRow
status_rows h = map (row_after h) (counted 0 (length h.journal + 1))

-- the last of a row and the rows after it
abbrev pub last_after : StatusRow → List StatusRow → StatusRow
last_after r [] = r
last_after r (x ∷ xs) = last_after x xs

-- the last row; the opening row where there is none
abbrev pub last_row : List StatusRow → StatusRow
last_row rows = last_after opening_row rows

-- the rows have the lengths n, n + 1 and so on
abbrev pub NumberedFrom : ℕ → List StatusRow → Type 0
NumberedFrom n [] = Unit {0}
NumberedFrom n (r ∷ rs) = (r.journal_length ≡ n) × NumberedFrom (n + 1) rs

-- row i has the length i
abbrev pub IsNumbered : List StatusRow → Type 0
IsNumbered rows = NumberedFrom 0 rows

-- how many rows after the first name the station: its calls
abbrev pub calls_of : List StatusRow → ℕ → ℕ
calls_of [] station = 0
calls_of (first ∷ others) station = count_by (λ r. r.last_station == station) others

-- the new list begins with the old one, is longer, and ends with a row of this station and answer
abbrev pub IsToldOfCall : List StatusRow → ℕ → Answer → List StatusRow → Type 0
IsToldOfCall old station answer new =
    (between : List StatusRow) × (last : StatusRow)
    × (new ≡ (old ++ between) ++ last ∷ []) × (last.last_station ≡ station) × (last.last_answer ≡ answer_code answer)

-- These are the rows of a history once the command has been performed: a history of these opened tables, with at least this many
-- entries, in which the command is answered so.
abbrev pub AreRowsOfCall : Opened → ℕ → ℕ → Command → Answer → List StatusRow → Type 0
AreRowsOfCall opened least station command answer rows =
    (h : History) × IsHistoryOf opened least h × (answer ≡ answer_of h station command) × (rows ≡ status_rows (with_entry h station command))
