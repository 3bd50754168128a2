-- What becomes of an update: a cell is what was put there last, under the number that its record has by then.
use Rattle.std.specs.Prelude.{◌≡◌, ℕ, ◌+◌, ◌-◌, ◌≤◌, Bool, true, false, ◌&&◌, if◌then◌else◌, List, [], ◌∷◌, ◌++◌, length, take, slice_get, Option, Some, None, Ok, IfSome, IsSome}
use Rattle.std.specs.List.{AllByRecursion}
use Rattle.std.specs.Option.{option_and_then}
use Rattle.dbf_fields.specs.Cell.{stored}
use Rattle.dbf_image.specs.Table.{IsTable, Row, blank_row, kept_rows}
use Rattle.table_core.specs.Content.{Content, record_count}
use Rattle.table_core.specs.Edits.{field_at, field_named}
use Rattle.table_core.specs.Shown.{is_marked}
use Rattle.catalogue_core.specs.declared.answer.Answer.{Answer}
use Rattle.catalogue_core.specs.declared.answer.Answer.TheVariants.{Done}
use Rattle.catalogue_core.specs.declared.area.Area.{Area}
use Rattle.catalogue_core.specs.declared.command.Command.{Command}
use Rattle.catalogue_core.specs.declared.command.Command.TheVariants.{AppendBlank, Replace, Memo, Delete, Pack}
use Rattle.catalogue_core.specs.declared.entry.Entry.{Entry}
use Rattle.catalogue_core.specs.Replay.{Opened, after, replay}
use Rattle.catalogue_core.specs.State.{State, area_of, has_open, table_at, table_of}
use Rattle.catalogue_core.specs.Stays.{IsLegalHistory, record_at}

-- the cell of a field of a record, where it is there: of a memo its text
abbrev pub cell_now : State → ℕ → ℕ → ℕ → Option (List ℕ)
cell_now s table number field = option_and_then (λ row. slice_get row.cells field) (record_at s table number)

-- ---- what an entry puts

-- the cell that a command puts into a field of a record, as it is stored: REPLACE its value and MEMO its text into the record at the
-- cursor, APPEND BLANK a blank into each field of the new record
abbrev pub PutsAt : Content → Option ℕ → Command → ℕ → ℕ → List ℕ → Type 0
PutsAt content at (Replace name value) number field cell =
    (at ≡ Some number) × (field_named content name ≡ Some field) × (stored (field_at content field) value ≡ Ok cell)
PutsAt content at (Memo name text) number field cell =
    (at ≡ Some number) × (field_named content name ≡ Some field) × (text ≡ cell)
PutsAt content at AppendBlank number field cell =
    (number ≡ record_count content + 1) × (slice_get (blank_row content.table.schema).cells field ≡ Some cell)
PutsAt content at command number field cell = ⊥

-- the entry was answered OK, and this holds of its command, in the table of a number and at the cursor as they were
pub record Did (s : State) (e : Entry) (table : ℕ) (Does : Content → Option ℕ → Command → Type 0) : Type 0 where
  pub ok : e.answer ≡ Done
  pub area : Area
  pub here : area_of s e.station ≡ Some area
  pub in_table : area.table ≡ table
  pub does : Does (table_of s area) area.cursor.at e.command

-- the entry put the cell there
abbrev pub PutsCell : State → Entry → ℕ → ℕ → ℕ → List ℕ → Type 0
PutsCell s e table number field cell = Did s e table (λ content at command. PutsAt content at command number field cell)

-- the entry put some cell there
abbrev pub PutsSomeCell : ℕ → State → Entry → ℕ → ℕ → Type 0
PutsSomeCell field s e table number = (cell : List ℕ) × PutsCell s e table number field cell

-- the entry marked the record as deleted
abbrev pub Deletes : State → Entry → ℕ → ℕ → Type 0
Deletes s e table number = Did s e table (λ content at command. (command ≡ Delete) × (at ≡ Some number))

-- ---- the number of a record

-- a PACK that was answered OK
abbrev pub is_pack : Command → Answer → Bool
is_pack Pack Done = true
is_pack command answer = false

-- the entry packed the table
abbrev pub packs : State → Entry → ℕ → Bool
packs s e table = is_pack e.command e.answer && has_open table (area_of s e.station)

-- the number that PACK gives to a record: one more than there are kept before it; none to one that is marked, which goes
abbrev pub number_packed : Content → ℕ → Option ℕ
number_packed content number =
    if is_marked content (Some number) then None else Some (length (kept_rows (take (number - 1) content.table.rows)) + 1)

-- the number of a record after an entry
abbrev pub number_then : State → Entry → ℕ → ℕ → Option ℕ
number_then s e table number = if packs s e table then number_packed (table_at s.tables table) number else Some number

-- the number of a record after the entries of a list, where it has not gone with a PACK
abbrev pub number_at_end : State → List Entry → ℕ → ℕ → Option ℕ
number_at_end s [] table number = Some number
number_at_end s (e ∷ es) table number = option_and_then (number_at_end (after s (e ∷ [])) es table) (number_then s e table number)

-- no entry of these did that to the record, under the number that it has by then
abbrev pub NoneOf : (State → Entry → ℕ → ℕ → Type 0) → State → List Entry → ℕ → ℕ → Type 0
NoneOf Does s [] table number = Unit {0}
NoneOf Does s (e ∷ es) table number = (¬ Does s e table number) × IfSome (number_then s e table number) (λ n. NoneOf Does (after s (e ∷ [])) es table n)

-- ---- the law

-- the tables were opened as tables are
abbrev pub AreTables : Opened → Type 0
AreTables opened = AllByRecursion (λ t. IsTable t.content.table) opened.tables

-- In a legal history a cell is at the end what the last entry put there that was answered OK, unless the record has gone with a PACK.
abbrev pub KeepsTheLast : Opened → List Entry → Entry → List Entry → Type 0
KeepsTheLast opened before e later =
    (table number field : ℕ) (cell : List ℕ) → AreTables opened → IsLegalHistory opened (before ++ e ∷ later)
    → PutsCell (replay opened before) e table number field cell
    → NoneOf (PutsSomeCell field) (replay opened (before ++ e ∷ [])) later table number
    → IfSome (number_at_end (replay opened (before ++ e ∷ [])) later table number) (λ n.
    cell_now (replay opened (before ++ e ∷ later)) table n field ≡ Some cell)

-- A cell into which no entry put another is at the end what it was at some moment.
abbrev pub KeepsWhatWas : Opened → List Entry → List Entry → Type 0
KeepsWhatWas opened before later =
    (table number field : ℕ) (cell : List ℕ) → IsLegalHistory opened (before ++ later) → 1 ≤ table → 1 ≤ number
    → cell_now (replay opened before) table number field ≡ Some cell → NoneOf (PutsSomeCell field) (replay opened before) later table number
    → IfSome (number_at_end (replay opened before) later table number) (λ n.
    cell_now (replay opened (before ++ later)) table n field ≡ Some cell)

-- A record that was not marked at some moment, and that no entry marked as deleted since, has not gone.
abbrev pub StaysUntilDeleted : Opened → List Entry → List Entry → Type 0
StaysUntilDeleted opened before later =
    (table number : ℕ) (row : Row) → IsLegalHistory opened (before ++ later) → 1 ≤ table → 1 ≤ number
    → record_at (replay opened before) table number ≡ Some row → row.deleted ≡ false → NoneOf Deletes (replay opened before) later table number
    → IsSome (number_at_end (replay opened before) later table number)
