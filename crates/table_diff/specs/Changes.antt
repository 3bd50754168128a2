-- What has changed from an old table to a new one.
use Rattle.std.specs.Prelude.{ℕ, nat_le, max, Bool, bytes_eq, if◌then◌else◌, List, [], ◌∷◌, ◌++◌, length, map, flat_map, slice_index_or}
use Rattle.std.specs.List.{range_with_len}
use Rattle.dbf_fields.specs.declared.field.Field.{Field}
use Rattle.dbf_image.specs.Table.{Row, Table, kind_at, row_at, cell_at}
use Rattle.table_text.specs.Csv.{csv_value}
use Rattle.table_diff.specs.declared.cells.Cell.{Cell}
use Rattle.table_diff.specs.declared.fields.SharedField.{SharedField}
use Rattle.table_diff.specs.declared.matching.Match.{Match}
use Rattle.table_diff.specs.declared.matching.Match.TheVariants.{Both, Old, New}
use Rattle.table_diff.specs.declared.matching.RecordNumbers.{RecordNumbers}
use Rattle.table_diff.specs.Fields.{are_same_fields, fields_without, shared_fields}

-- A change: a field that the old or the new table alone has; that the fields stand in another order; a record that is new
-- or gone; that one was marked as deleted, or its mark taken away; and a value of a record, by its field's name, that was
-- another before. Records have numbers, and one that both tables have may have another number in each.
pub data Change : Type 0 where
  old_field : Field → Change
  new_field : Field → Change
  other_order : Change
  record_added : ℕ → List Field → Row → Change
  record_removed : ℕ → List Field → Row → Change
  record_marked : RecordNumbers → Change
  record_recalled : RecordNumbers → Change
  replaced : RecordNumbers → List ℕ → List ℕ → List ℕ → Change

-- the fields that one table has and the other has not
abbrev pub fields_of_one : List Field → List Field → List Change
fields_of_one old new = map old_field (fields_without new old) ++ map new_field (fields_without old new)

-- where there are none, the fields stand in another order
abbrev pub or_other_order : List Change → List Change
or_other_order [] = other_order ∷ []
or_other_order (c ∷ cs) = c ∷ cs

-- what has changed of the fields
abbrev pub field_changes : List Field → List Field → List Change
field_changes old new = if are_same_fields old new then [] else or_other_order (fields_of_one old new)

-- what has changed of a record's mark
abbrev pub mark_changes : RecordNumbers → Bool → Bool → List Change
mark_changes numbers was is =
    if is then (if was then [] else record_marked numbers ∷ []) else (if was then record_recalled numbers ∷ [] else [])

-- the values in two cells are the same: of one and the same field the cells, and of others what CSV has of them
abbrev pub is_same_value : Bool → ℕ → ℕ → List ℕ → List ℕ → Bool
is_same_value is_same old_kind new_kind old_cell new_cell =
    if is_same then bytes_eq old_cell new_cell else bytes_eq (csv_value old_kind old_cell) (csv_value new_kind new_cell)

-- a value that was another: the two texts that CSV has of it, or where these are the same the two cells
abbrev pub replaced_value : RecordNumbers → List ℕ → List ℕ → List ℕ → List ℕ → List ℕ → Change
replaced_value numbers name old_cell new_cell old_text new_text =
    if bytes_eq old_text new_text then replaced numbers name old_cell new_cell else replaced numbers name old_text new_text

-- what has changed of a record's value in a field of this name, by its cells in both tables
abbrev pub value_changes : RecordNumbers → List ℕ → Bool → ℕ → ℕ → List ℕ → List ℕ → List Change
value_changes numbers name is_same old_kind new_kind old_cell new_cell =
    if is_same_value is_same old_kind new_kind old_cell new_cell then []
    else replaced_value numbers name old_cell new_cell (csv_value old_kind old_cell) (csv_value new_kind new_cell) ∷ []

-- what has changed of a value in two cells that are lent
abbrev pub changes_of_cells : RecordNumbers → List ℕ → Bool → Cell → Cell → List Change
changes_of_cells numbers name is_same old new = value_changes numbers name is_same old.kind new.kind old.bytes.now new.bytes.now

-- the name of a field
abbrev pub name_of_field : List Field → ℕ → List ℕ
name_of_field fields index = slice_index_or (map (λ f. f.name) fields) index []

-- what has changed of a record's value in a field that both tables have
abbrev pub cell_changes : Table → Table → RecordNumbers → SharedField → List Change
cell_changes old new numbers s =
    value_changes numbers (name_of_field old.schema s.old_index) s.is_same (kind_at old.schema s.old_index) (kind_at new.schema s.new_index)
    (cell_at old numbers.old_number s.old_index) (cell_at new numbers.new_number s.new_index)

-- what has changed of a record's values in fields that both tables have
abbrev pub values_changed : Table → Table → RecordNumbers → List SharedField → List Change
values_changed old new numbers shared = flat_map (cell_changes old new numbers) shared

-- what has changed of a record that both tables have
abbrev pub row_changes : Table → Table → RecordNumbers → List Change
row_changes old new numbers =
    mark_changes numbers (row_at old numbers.old_number).deleted (row_at new numbers.new_number).deleted
    ++ values_changed old new numbers (shared_fields old.schema new.schema)

-- a record that has one number in both tables
abbrev pub in_both : ℕ → RecordNumbers
in_both number = record { old_number = number; new_number = number }

-- what has changed of records that are matched, or of one that one table alone has
abbrev pub match_changes : Table → Table → Match → List Change
match_changes old new (Both numbers) = row_changes old new numbers
match_changes old new (Old number) = record_removed number old.schema (row_at old number) ∷ []
match_changes old new (New number) = record_added number new.schema (row_at new number) ∷ []

-- what has changed of the record of a number, which one of the tables has at least
abbrev pub number_changes : Table → Table → ℕ → List Change
number_changes old new number =
    if nat_le number (length new.rows)
    then (if nat_le number (length old.rows) then row_changes old new (in_both number) else record_added number new.schema (row_at new number) ∷ [])
    else record_removed number old.schema (row_at old number) ∷ []

-- the numbers of the records of both tables
abbrev pub all_numbers : Table → Table → List ℕ
all_numbers old new = range_with_len 1 (max (length old.rows) (length new.rows))

-- what has changed of the records, by their numbers
abbrev pub record_changes : Table → Table → List Change
record_changes old new = flat_map (number_changes old new) (all_numbers old new)

-- what has changed of the fields, and then of the records, by their numbers
abbrev pub changes : Table → Table → List Change
changes old new = field_changes old.schema new.schema ++ record_changes old new
