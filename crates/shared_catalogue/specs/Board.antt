-- The status board: what each pass knows, the rule that the board keeps, and the kinds of step on it.
use Rattle.std.specs.Prelude.{◌≡◌, ℕ, ◌+◌, ◌<◌, true, false, List, [], ◌∷◌, ◌++◌, length, nat_lt, if◌then◌else◌}
use mathlib.Core.List.{IsPrefix}
use mathlib.Core.Option.{some}
use lib.ListN.{get_elem?}
use Rattle.catalogue_core.specs.declared.answer.Answer.TheVariants.{Done}
use Rattle.catalogue_core.specs.declared.command.Command.TheVariants.{Bad}
use Rattle.catalogue_core.specs.declared.entry.Entry.{Entry}
use Rattle.catalogue_core.specs.declared.status.StatusRow.{StatusRow}
use Rattle.catalogue_core.specs.Replay.{History, entry}
use Rattle.shared_catalogue.specs.declared.board.Known.{Known}
use Rattle.shared_catalogue.specs.declared.board.View.{View}
use Rattle.shared_catalogue.specs.OwnCalls.{receipt_of}
use Rattle.shared_catalogue.specs.RowWords.{row_of_words}
use Rattle.shared_catalogue.specs.StatusRows.{status_rows, opening_row, last_row, IsNumbered}

-- ---- what is known

abbrev pub known_of : List StatusRow → List Entry → Known
known_of rows entries = record { rows = rows; entries = entries }

abbrev pub nothing_known : Known
nothing_known = known_of [] []

-- what there is to know of a history: its rows and its entries
abbrev pub all_of : History → Known
all_of h = known_of (status_rows h) h.journal

-- the same with one row and one entry more
abbrev pub with_next : Known → StatusRow → Entry → Known
with_next known row e = known_of (known.rows ++ row ∷ []) (known.entries ++ e ∷ [])

-- the rows are a beginning of all rows, and the entries of all entries
abbrev pub IsPartOf : Known → Known → Type 0
IsPartOf known all = IsPrefix known.rows all.rows × IsPrefix known.entries all.entries

-- of two that are known, the one with more rows
abbrev pub more_known : Known → Known → Known
more_known k l = if nat_lt (length k.rows) (length l.rows) then l else k

-- the writer's view: all rows and entries
abbrev pub writer_of : Known → View
writer_of known = record { writes = true; known = known; noted = nothing_known; receipts = []; loads = 0 }

-- the view of one that reads, knows this, and has no receipts
abbrev pub reader_of : Known → View
reader_of known = record { writes = false; known = known; noted = nothing_known; receipts = []; loads = 0 }

-- the entry of no call
abbrev pub no_entry : Entry
no_entry = entry 0 Bad Done

-- ---- the rule

-- the words in the cell are the last of the rows, of which row i has the length i
abbrev pub ShowsLast : List ℕ → List StatusRow → Type 0
ShowsLast words rows = (0 < length rows) × (last_row rows ≡ row_of_words words) × IsNumbered rows

-- a view of a number, where this is all there is to know and the writer has that number: the view that writes is the
-- writer's and knows all, and what any view knows or has noted is a part of it
pub record IsViewOf (writer : ℕ) (all : Known) (number : ℕ) (v : View) : Type 0 where
  pub whole : v.writes ≡ true → (number ≡ writer) × (v.known ≡ all)
  pub known : IsPartOf v.known all
  pub noted : IsPartOf v.noted all

-- the rule: the cell shows the last of the writer's rows, and all views are views of what the writer knows
pub record IsBoard (words : List ℕ) (views : List View) : Type 0 where
  pub writer : ℕ
  pub all : Known
  pub shows : ShowsLast words all.rows
  pub each : (number : ℕ) (v : View) → get_elem? views number ≡ some v → IsViewOf writer all number v

-- ---- the kinds of step

-- a swap to the row of the next entry by the writer: what it noted is a part of what it knows, and its view has the row
-- and the entry more
abbrev pub IsSwapOf : Entry → View → List ℕ → List ℕ → View → Type 0
IsSwapOf e v before after w = IsPartOf v.noted v.known × (w ≡ writer_of (with_next v.known (row_of_words after) e))

-- a load by one that reads: its view has all that it knew, ends with the row that was loaded, has the same receipts, and
-- one load more
pub record IsLoadOf (v : View) (before after : List ℕ) (w : View) : Type 0 where
  pub later : IsPartOf v.known w.known
  pub shows : ShowsLast after w.known.rows
  pub reads : w.writes ≡ false
  pub receipts : w.receipts ≡ v.receipts
  pub loads : w.loads ≡ v.loads + 1

-- a load by the writer: what it noted is a part of what it knows, and is forgotten
abbrev pub IsWriterLoadOf : View → List ℕ → List ℕ → View → Type 0
IsWriterLoadOf v before after w = IsPartOf v.noted v.known × (w ≡ writer_of v.known)

-- The kinds of step on the board. Making it: the writer's first view knows the opening row, and no entry.
abbrev pub first_view : View
first_view = writer_of (known_of (opening_row ∷ []) [])

-- a split: the view of the new pass, which knows the same
abbrev pub copied_view : View → View
copied_view v = reader_of v.known

-- a join of a copy of the writer's pass into the one of a seat that was answered: the view knows what the one that knows more
-- does, and has the receipt of the entry; the other is spent
abbrev pub answered_view : Entry → View → View → View
answered_view e v w = record {
  writes = v.writes;
  known = more_known v.known w.known;
  noted = v.noted;
  receipts = v.receipts ++ receipt_of e ∷ [];
  loads = v.loads;
}

-- a join of a copy of the writer's pass into a seat's: the view knows what the one that knows more does; the other is spent
abbrev pub told_view : View → View → View
told_view v w = record { writes = v.writes; known = more_known v.known w.known; noted = v.noted; receipts = v.receipts; loads = v.loads }

-- a join of a copy of a seat's pass into the writer's: the view notes what the other knows, which is spent
abbrev pub noting_view : View → View → View
noting_view v w = record { writes = v.writes; known = v.known; noted = w.known; receipts = v.receipts; loads = v.loads }

-- the view of the pass that a join has spent
abbrev pub spent_view : View
spent_view = reader_of nothing_known
