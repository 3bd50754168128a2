-- What stations are shown for the lines of their scripts.
use Rattle.std.specs.Prelude.{◌≡◌, ◌⊎◌, ℕ, ◌+◌, ◌<◌, ◌≤◌, List, [], ◌∷◌, ◌++◌, length, take, slice_get, Option, Some, None, Result, Ok, Err, MatchResult}
use Rattle.std.specs.Option.{option_or}
use mathlib.Core.List.{IsPrefix}
use Rattle.catalogue_core.specs.declared.answer.Answer.{Answer}
use Rattle.catalogue_core.specs.declared.catalogue.Stop.{Stop}
use Rattle.catalogue_core.specs.declared.command.Command.{Command}
use Rattle.catalogue_core.specs.declared.entry.Entry.{Entry}
use Rattle.shared_catalogue.specs.declared.receipt.Receipt.{Receipt}
use Rattle.catalogue_core.specs.declared.status.StatusRow.{StatusRow}
use Rattle.shared_catalogue.specs.OwnCalls.{of_station}
use Rattle.catalogue_core.specs.Replay.{Opened, history}
use Rattle.shared_catalogue.specs.Seats.{Seated}
use Rattle.shared_catalogue.specs.StatusRows.{status_rows, last_row, IsNumbered, calls_of}
use Rattle.station_lines.specs.declared.script.format.TheConstants.{LF}
use Rattle.station_lines.specs.declared.script.line.Line.{Line}
use Rattle.station_lines.specs.declared.script.line.Line.TheVariants.{Run, Status, Blank}
use Rattle.station_lines.specs.AnswerLines.{line_of, status_text}
use Rattle.station_lines.specs.Script.Lines.{AreLines, BeginsWithLine}
use Rattle.station_lines.specs.Script.Meaning.{Means}

-- what a station is shown for a line: what its command was answered, or a status row
pub data Shown : Type 0 where
  answered : Receipt → Shown
  status : StatusRow → Shown

-- what the line means that it is shown for
abbrev pub meaning_of : Shown → Line
meaning_of (answered r) = Run r.command
meaning_of (status row) = Status

-- its line in the answer file
abbrev pub shown_line : Shown → List ℕ
shown_line (answered r) = line_of r.answer ++ LF ∷ []
shown_line (status row) = status_text row ++ LF ∷ []

abbrev pub receipt_in : Shown → List Receipt
receipt_in (answered r) = r ∷ []
receipt_in (status row) = []

-- the commands and answers among what was shown
abbrev pub receipts_of : List Shown → List Receipt
receipts_of [] = []
receipts_of (x ∷ xs) = receipt_in x ++ receipts_of xs

-- the text of the answer file
abbrev pub answers_of : List Shown → List ℕ
answers_of [] = []
answers_of (x ∷ xs) = shown_line x ++ answers_of xs

-- for each line that is not blank something is shown, in order, and nothing else
abbrev pub AreShown : List (List ℕ) → List Shown → Type 0
AreShown [] [] = Unit {0}
AreShown [] (x ∷ xs) = ⊥
AreShown (line ∷ lines) [] = Means line Blank × AreShown lines []
AreShown (line ∷ lines) (x ∷ xs) = (Means line Blank × AreShown lines (x ∷ xs)) ⊎ (Means line (meaning_of x) × AreShown lines xs)

-- this is shown for the lines of a script
abbrev pub IsShownFor : List ℕ → List Shown → Type 0
IsShownFor script shown = (lines : List (List ℕ)) × AreLines lines script × AreShown lines shown

-- the script begins with these lines, and this stands after them
abbrev pub AreFirstLines : List (List ℕ) → List ℕ → List ℕ → Type 0
AreFirstLines [] script rest = script ≡ rest
AreFirstLines (line ∷ lines) script rest = (after : List ℕ) × BeginsWithLine script line after × AreFirstLines lines after rest

-- this is shown for first lines of a script, which may be all or none
abbrev pub IsShownForFirst : List ℕ → List Shown → Type 0
IsShownForFirst script shown = (lines : List (List ℕ)) × (rest : List ℕ) × AreFirstLines lines script rest × AreShown lines shown

-- the row stands among these rows, at the index that is its length; it is no shorter than `least`, and up to it the station
-- has `own` calls at least
pub record IsRowIn (rows : List StatusRow) (station least own : ℕ) (shown : StatusRow) : Type 0 where
  pub stands : slice_get rows shown.journal_length ≡ Some shown
  pub long : least ≤ shown.journal_length
  pub calls : own ≤ calls_of (take (shown.journal_length + 1) rows) station

-- each status row among what is shown to a station is one of these rows, no shorter than the one shown before it, and
-- not before the entries of the answers shown before it: there were `least` and `own` of these
abbrev pub AreShownIn : List StatusRow → ℕ → ℕ → ℕ → List Shown → Type 0
AreShownIn rows station least own [] = Unit {0}
AreShownIn rows station least own (answered r ∷ xs) = AreShownIn rows station least (own + 1) xs
AreShownIn rows station least own (status shown ∷ xs) = IsRowIn rows station least own shown × AreShownIn rows station shown.journal_length own xs

-- the row is the last that the seat knows, each of which has its index as its length, and the seat's commands are among them
pub record IsLastRow (seat : Seated) (shown : StatusRow) : Type 0 where
  pub last : last_row seat.rows ≡ shown
  pub some : 0 < length seat.rows
  pub numbered : IsNumbered seat.rows
  pub own : seat.share ≤ calls_of seat.rows seat.station

-- a status row that is shown is the last that the seat then knows
abbrev pub IsShownAt : Seated → Shown → Type 0
IsShownAt seat (answered r) = Unit {0}
IsShownAt seat (status shown) = IsLastRow seat shown

-- a station at work: its seat, and the text of its answer file so far
pub record SessionValue : Type 0 where
  pub seat : Seated
  pub answers : List ℕ

abbrev pub session : Seated → List ℕ → SessionValue
session seat answers = record { seat = seat; answers = answers }

abbrev pub new_session : Seated → SessionValue
new_session seat = session seat []

-- something more was shown in a session; the seat counts the commands, has their receipts, and knows all rows that it knew
pub record IsWithShown (old : SessionValue) (x : Shown) (new : SessionValue) : Type 0 where
  pub shown : IsShownAt new.seat x
  pub later : IsPrefix old.seat.rows new.seat.rows
  pub station : new.seat.station ≡ old.seat.station
  pub share : new.seat.share ≡ old.seat.share + length (receipt_in x)
  pub receipts : new.seat.receipts ≡ old.seat.receipts ++ receipt_in x
  pub answers : new.answers ≡ old.answers ++ shown_line x

-- the same for a command, of which its answer was shown
abbrev pub IsWithAnswer : SessionValue → Command → SessionValue → Type 0
IsWithAnswer old command new =
    (answer : Answer) × IsWithShown old (answered (record { command = command; answer = answer })) new

-- A line was not shown in a session: the seat has the receipts that it had, or that of the line's command too.
pub record IsLeftAt (old : SessionValue) (line : Line) (new : SessionValue) : Type 0 where
  pub station : new.seat.station ≡ old.seat.station
  pub receipts : (new.seat.receipts ≡ old.seat.receipts) ⊎ ((x : Shown) × (meaning_of x ≡ line) × (new.seat.receipts ≡ old.seat.receipts ++ receipt_in x))

-- what was shown up to now in the session of a seat, of the rows that the seat knows now
pub record HasShown (seat : Seated) (shown : List Shown) (s : SessionValue) : Type 0 where
  pub rows : AreShownIn s.seat.rows seat.station 0 0 shown
  pub station_is : s.seat.station ≡ seat.station
  pub counted : length (receipts_of shown) ≤ s.seat.share
  pub receipts : s.seat.receipts ≡ seat.receipts ++ receipts_of shown
  pub answers : s.answers ≡ answers_of shown

-- the session began with this seat, and has run this script
abbrev pub HasRun : Seated → List ℕ → SessionValue → Type 0
HasRun seat script s = (shown : List Shown) × IsShownFor script shown × HasShown seat shown s

-- a seat that began as this one has performed the commands of first lines of this script, and no others
pub record HasBegun (seat : Seated) (script : List ℕ) (now : Seated) : Type 0 where
  pub shown : List Shown
  pub for_first : IsShownForFirst script shown
  pub station_is : now.station ≡ seat.station
  pub receipts : now.receipts ≡ seat.receipts ++ receipts_of shown

-- what a worker leaves: its seat, and the text of its answer file, or why it was stopped
pub record EndValue : Type 0 where
  pub seat : Seated
  pub answers : Result (List ℕ) Stop

abbrev pub end_of : Seated → Result (List ℕ) Stop → EndValue
end_of seat answers = record { seat = seat; answers = answers }

-- why the worker of this seat was stopped, where it was
abbrev pub stop_in : Seated → Result (List ℕ) Stop → Option (ℕ × Stop)
stop_in seat (Ok text) = None
stop_in seat (Err stop) = Some (seat.station, stop)

abbrev pub stop_of : EndValue → Option (ℕ × Stop)
stop_of end = stop_in end.seat end.answers

-- the text of the answer file, which is empty where the worker was stopped
abbrev pub text_in : Result (List ℕ) Stop → List ℕ
text_in (Ok text) = text
text_in (Err stop) = []

abbrev pub text_of : EndValue → List ℕ
text_of end = text_in end.answers

-- the worker of this seat has run this script, or has run first lines of it and was stopped
abbrev pub HasEnded : Seated → List ℕ → EndValue → Type 0
HasEnded seat script end = MatchResult end.answers (λ answers. HasRun seat script (session end.seat answers)) (λ stop. HasBegun seat script end.seat)

-- at each seat's index is the end of its worker, which had the script of that index
abbrev pub HaveEnded : List (List ℕ) → List Seated → List EndValue → Type 0
HaveEnded scripts seats ends =
    (i : ℕ) (z : Seated) → slice_get seats i ≡ Some z
    → (e : EndValue) × (script : List ℕ) × (slice_get ends i ≡ Some e) × (slice_get scripts i ≡ Some script) × HasEnded z script e

-- the first of these workers that was stopped, and why
abbrev pub first_stop : List EndValue → Option (ℕ × Stop)
first_stop [] = None
first_stop (e ∷ es) = option_or (stop_of e) (first_stop es)

-- the seats are those of the stations 1 to n, in order, and have no receipts yet
abbrev pub AreSeatsInOrder : ℕ → List Seated → Type 0
AreSeatsInOrder n seats =
    (length seats ≡ n) × ((i : ℕ) → i < n → (z : Seated) × (slice_get seats i ≡ Some z) × (z.station ≡ i + 1) × (z.receipts ≡ []))

-- what was shown for a station's script: the commands and answers among it are the station's in the journal, in
-- order; the status rows are rows of the journal's history, as AreShownIn says; and the answer file has a line for each
pub record IsReport (opened : Opened) (journal : List Entry) (station : ℕ) (script answers : List ℕ) : Type 0 where
  pub shown : List Shown
  pub for_script : IsShownFor script shown
  pub rows : AreShownIn (status_rows (history opened journal)) station 0 0 shown
  pub own : receipts_of shown ≡ of_station journal station
  pub lines : answers ≡ answers_of shown

-- the station of an index has a script, and answers, which are its report
abbrev pub HasReport : Opened → List Entry → List (List ℕ) → List (List ℕ) → ℕ → Type 0
HasReport opened journal scripts answers i =
    (script : List ℕ) × (text : List ℕ) × (slice_get scripts i ≡ Some script) × (slice_get answers i ≡ Some text) × IsReport opened journal (i + 1) script text

-- the station of an index has a script, and its entries are the commands and answers of what is shown so for the script
abbrev pub HasEntriesOf : (List ℕ → List Shown → Type 0) → List Entry → List (List ℕ) → ℕ → Type 0
HasEntriesOf shows journal scripts i =
    (script : List ℕ) × (shown : List Shown) × (slice_get scripts i ≡ Some script) × shows script shown × (receipts_of shown ≡ of_station journal (i + 1))

-- each station's answers are the report of its script, and there are as many as stations
pub record AreReports (opened : Opened) (journal : List Entry) (scripts answers : List (List ℕ)) : Type 0 where
  pub count : length answers ≡ opened.stations
  pub each : (i : ℕ) → i < opened.stations → HasReport opened journal scripts answers i
