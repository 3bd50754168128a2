-- What a plan makes of a table and of the cursor, and when it can be carried out.
use Rattle.std.specs.Prelude.{◌≡◌, ◌≢◌, ℕ, ◌+◌, ◌*◌, ◌<◌, ◌≤◌, true, List, [], map, length, vec_capacity, Result, Ok}
use Rattle.std.specs.List.{AllByRecursion}
use Rattle.dbf_fields.specs.declared.format.TheConstants.{MEMO}
use Rattle.dbf_fields.specs.Layout.{width_of}
use Rattle.dbf_image.specs.declared.format.TheConstants.{BLOCK, MAX_RECORDS}
use Rattle.dbf_image.specs.Growing.{memo_blocks}
use Rattle.dbf_image.specs.Table.{Table, kind_at, is_memo_text, packed}
use Rattle.table_core.specs.declared.cursor.Cursor.{Cursor}
use Rattle.table_core.specs.declared.edits.planned.TableChange.{TableChange}
use Rattle.table_core.specs.declared.edits.planned.TableChange.TheVariants.{AddBlank, SetCell, SetMemo, SetMark, Pack, AddIndex}
use Rattle.table_core.specs.declared.edits.planned.Planned.{Planned}
use Rattle.table_core.specs.declared.edits.planned.Target.{Target}
use Rattle.table_core.specs.declared.indexes.TableIndex.{TableIndex}
use Rattle.table_core.specs.declared.refusal.Refusal.{Refusal}
use Rattle.table_core.specs.Content.{Content, Held, Indexed, Room, record_count, with_index, with_table}
use Rattle.table_core.specs.Edits.{with_blank, with_value, with_deleted, with_made_index}
use Rattle.table_core.specs.Indexes.{Follows, indexed}
use Rattle.table_core.specs.Moves.{at_record, at_top}

abbrev pub changed_by : Content → TableChange → Content
changed_by content AddBlank = with_blank content
changed_by content (SetCell target cell) = with_value content target cell
changed_by content (SetMemo target text) = with_value content target text
changed_by content (SetMark number deleted) = with_deleted content number deleted
changed_by content (Pack indexes) = with_table content (packed content.table)
changed_by content (AddIndex added) = with_index content (indexed added.value.index)

abbrev pub moved_by : Content → Cursor → TableChange → Cursor
moved_by content cursor AddBlank = at_record cursor (record_count content + 1)
moved_by content cursor (SetCell target cell) = cursor
moved_by content cursor (SetMemo target text) = cursor
moved_by content cursor (SetMark number deleted) = cursor
moved_by content cursor (Pack indexes) = at_top (with_table content (packed content.table)) cursor
moved_by content cursor (AddIndex added) = (with_made_index content cursor (indexed added.value.index)).1

-- the table, and the cursor, after the plan is carried out
abbrev pub changed : Content → Planned → Content
changed content planned = changed_by content planned.change

-- the cursor after the plan is carried out
abbrev pub cursor_after : Content → Cursor → Planned → Cursor
cursor_after content cursor planned = moved_by content cursor planned.change

-- what the plan makes of both, as the outcome of an edit
abbrev pub carried_out : Content → Cursor → Planned → Result (Content × Cursor) Refusal
carried_out content cursor planned = Ok (changed content planned, cursor_after content cursor planned)

-- the plan adds this index, wherever the cursor is
abbrev pub MakesIndex : Content → Indexed → Planned → Type 0
MakesIndex content index planned = (cursor : Cursor) → Ok (with_made_index content cursor index) ≡ carried_out content cursor planned

-- a record of the table
pub record IsRecordOf (table : Table) (number : ℕ) : Type 0 where
  pub one : 1 ≤ number
  pub inside : number ≤ length table.rows

-- a field of a record of the table
pub record IsTarget (table : Table) (t : Target) : Type 0 where
  pub record_is : IsRecordOf table t.number
  pub field_is : t.field < length table.schema

-- a cell that can be replaced by the given number of bytes
pub record IsCellOf (table : Table) (t : Target) (width : ℕ) : Type 0 where
  pub target_is : IsTarget table t
  pub kind : kind_at table.schema t.field ≢ MEMO
  pub wide : width ≡ width_of table.schema t.field

-- a memo that can have this text
pub record IsMemoOf (table : Table) (t : Target) (text : List ℕ) : Type 0 where
  pub target_is : IsTarget table t
  pub kind : kind_at table.schema t.field ≡ MEMO
  pub text_is : is_memo_text text ≡ true

-- one more record has room, in the table and in each index
pub record CanAdd (held : Held) : Type 0 where
  pub count_bounded : record_count held.content < MAX_RECORDS
  pub for_record : held.room.for_record ≡ true
  pub for_pairs : held.room.for_pairs ≡ true

-- the cell is one of the table, and each index has room for its new key
pub record CanSetCell (held : Held) (t : Target) (width : ℕ) : Type 0 where
  pub cell : IsCellOf held.content.table t width
  pub for_pairs : held.room.for_pairs ≡ true

-- the memo is one of the table, and there is room for its text
pub record CanSetMemo (held : Held) (t : Target) (text : List ℕ) : Type 0 where
  pub memo : IsMemoOf held.content.table t text
  pub for_text : length text ≤ held.room.for_text

-- the indexes are those of the records that are not marked
pub record CanPack (held : Held) (indexes : List TableIndex) : Type 0 where
  pub follow : AllByRecursion (Follows (packed held.content.table)) indexes
  pub same : map indexed indexes ≡ held.content.indexes

-- the index is that of all records, and the list is empty, with room for all indexes
pub record CanAddIndex (held : Held) (index : TableIndex) (items : List TableIndex) (capacity : ℕ) : Type 0 where
  pub follows : Follows held.content.table index
  pub empty : items ≡ []
  pub room : length held.content.indexes + 1 ≤ capacity

abbrev pub CanMake : Held → TableChange → Type 0
CanMake held AddBlank = CanAdd held
CanMake held (SetCell target cell) = CanSetCell held target (length cell)
CanMake held (SetMemo target text) = CanSetMemo held target text
CanMake held (SetMark number deleted) = IsRecordOf held.content.table number
CanMake held (Pack indexes) = CanPack held indexes.items
CanMake held (AddIndex added) = CanAddIndex held added.value.index added.value.list.items (vec_capacity added.value.list)

-- when a plan can be carried out: it was planned for the table as it stands
abbrev pub IsPlanned : Held → Planned → Type 0
IsPlanned held planned = CanMake held planned.change

-- after PACK no more blocks hold texts of memos than the memos that are left take, and all others have room
pub record GivesBlocksBack (content : Content) (old new : Room) : Type 0 where
  pub used : new.blocks_in_use ≤ memo_blocks (packed content.table)
  pub blocks : BLOCK * new.blocks_in_use + new.for_text ≡ BLOCK * old.blocks_in_use + old.for_text

-- where the change is PACK
abbrev pub IsRoomAfter : Held → TableChange → Room → Type 0
IsRoomAfter held (Pack indexes) new = GivesBlocksBack held.content held.room new
IsRoomAfter held change new = Unit {0}
