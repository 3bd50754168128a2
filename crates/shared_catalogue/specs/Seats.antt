-- What contracts see of a seat, and which stations have one.
use Rattle.std.specs.Prelude.{◌≡◌, false, ℕ, zero, suc, ◌+◌, ◌-◌, ◌<◌, ◌≤◌, List, [], ◌∷◌, ◌++◌, length, slice_get, Some, All, Any}
use mathlib.Core.List.{IsPrefix}
use Rattle.atomic_table.specs.Seated.{TableId}
use Rattle.catalogue_core.specs.declared.entry.Entry.{Entry}
use Rattle.catalogue_core.specs.declared.status.StatusRow.{StatusRow}
use Rattle.shared_catalogue.specs.declared.board.Known.{Known}
use Rattle.shared_catalogue.specs.declared.board.View.{View}
use Rattle.shared_catalogue.specs.declared.receipt.Receipt.{Receipt}
use Rattle.shared_catalogue.specs.OwnCalls.{of_station, IsSublist}
use Rattle.shared_catalogue.specs.StatusRows.{opening_row, calls_of}

-- the number of the station, how many commands the seat has performed, the status rows that it knows, its commands and
-- what each was answered, and how often it has looked at the board
pub record Seated : Type 0 where
  pub station : ℕ
  pub share : ℕ
  pub rows : List StatusRow
  pub receipts : List Receipt
  pub loads : ℕ

abbrev pub seated : ℕ → ℕ → List StatusRow → List Receipt → ℕ → Seated
seated station share rows receipts loads = record { station = station; share = share; rows = rows; receipts = receipts; loads = loads }

-- as many of a station's commands and answers among these entries, in order, as it has performed
pub record AreReceiptsIn (entries : List Entry) (station share : ℕ) (receipts : List Receipt) : Type 0 where
  pub own : IsSublist receipts (of_station entries station)
  pub many : length receipts ≡ share

-- the seat of one command more, which then knows these rows, and has this receipt more
abbrev pub seated_after : Seated → List StatusRow → Receipt → Seated
seated_after z rows more = seated z.station (z.share + 1) rows (z.receipts ++ more ∷ []) z.loads

-- the seat knows these rows now, which begin with those that it knew, and all else of it is as it was
abbrev pub IsTold : Seated → List StatusRow → Seated → Type 0
IsTold old rows new = IsPrefix old.rows rows × (new ≡ seated old.station old.share rows old.receipts old.loads)

-- what holds of every seat: one part, a station of the opened ones, a pass of the named board that reads, a share
-- that is no more than the rows that name the station, and receipts that are among the entries that the pass knows
pub record IsSeat (stations : ℕ) (named : TableId) (station parts share : ℕ) (board : TableId) (view : View) : Type 0 where
  pub part : parts ≡ 1
  pub counted : 1 ≤ station
  pub inside : station ≤ stations
  pub of_board : board ≡ named
  pub reads : view.writes ≡ false
  pub own : share ≤ calls_of view.known.rows station
  pub receipts : AreReceiptsIn view.known.entries station share view.receipts

-- the name of a ledger, how many parts it has, the name of a board, and the rows that its first pass knows
pub record LotParts : Type 0 where
  pub ledger : ℕ
  pub parts : ℕ
  pub board : TableId
  pub rows : List StatusRow

-- the name of no board
abbrev pub no_board : TableId
no_board = record { words = 0; slots = 0; views_name = 0; atom = 0; block = 0; offset = 0; slot_names = [] }

-- some seat is the station's
abbrev pub HasSeat : List Seated → ℕ → Type 0
HasSeat seats station = Any (λ z. z.station ≡ station) seats

-- each of the stations 1 to n has a seat
abbrev pub AreSeated : List Seated → ℕ → Type 0
AreSeated seats n = (s : ℕ) → 1 ≤ s → s ≤ n → HasSeat seats s

-- the lowest station without a seat
abbrev pub IsLowestMissing : List Seated → ℕ → ℕ → Type 0
IsLowestMissing seats stations s = (1 ≤ s) × (s ≤ stations) × ¬ HasSeat seats s × ((t : ℕ) → 1 ≤ t → t < s → HasSeat seats t)

-- the seats of the stations 1 to n, before any command: each knows the opening row alone
abbrev pub new_seats : ℕ → List Seated
new_seats zero = []
new_seats (suc n) = new_seats n ++ seated (n + 1) 0 (opening_row ∷ []) [] 0 ∷ []

-- the rows that the seat knows are a beginning of these, and its share is the calls of its station in them
abbrev pub AgreesWith : List StatusRow → Seated → Type 0
AgreesWith rows z = IsPrefix z.rows rows × (z.share ≡ calls_of rows z.station)

-- the seat's receipts are the commands and answers of its station in the journal, in order
abbrev pub IsOwn : List Entry → Seated → Type 0
IsOwn journal z = z.receipts ≡ of_station journal z.station

-- each seat of the station has the receipts that stand for the station in the lists, which are counted from 1
abbrev pub IsMatched : List Seated → List (List Receipt) → ℕ → Type 0
IsMatched seats lists station = All (λ z. z.station ≡ station → slice_get lists (station - 1) ≡ Some z.receipts) seats

-- the lowest station whose seat has other receipts than those that stand for it in the lists
abbrev pub IsLowestMismatch : List Seated → List (List Receipt) → ℕ → Type 0
IsLowestMismatch seats lists s = (1 ≤ s) × (s ≤ length lists) × ¬ IsMatched seats lists s × ((t : ℕ) → 1 ≤ t → t < s → IsMatched seats lists t)

-- the rows that the seat knows are a beginning of all rows, its share is no more than the calls of its station in them, and
-- its receipts are among the entries
pub record IsWithin (all : Known) (z : Seated) : Type 0 where
  pub rows : IsPrefix z.rows all.rows
  pub calls : z.share ≤ calls_of all.rows z.station
  pub receipts : AreReceiptsIn all.entries z.station z.share z.receipts
