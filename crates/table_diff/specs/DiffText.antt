-- The changes of a table as text, a line a change.
use Rattle.std.specs.Prelude.{ℕ, ◌==◌, Bool, if◌then◌else◌, List, [], ◌∷◌, ◌++◌, codes, flat_map, slice_index_or}
use Rattle.std.specs.Fmt.{decimal}
use Rattle.dbf_fields.specs.declared.field.Field.{Field}
use Rattle.dbf_fields.specs.declared.format.TheConstants.{BLANK, NUMBER}
use Rattle.dbf_image.specs.Table.{Row, Table}
use Rattle.table_text.specs.Csv.{csv_fields, csv_value}
use Rattle.table_text.specs.Structure.{kind_word}
use Rattle.table_diff.specs.declared.format.TheConstants.{LF}
use Rattle.table_diff.specs.declared.matching.RecordNumbers.{RecordNumbers}
use Rattle.table_diff.specs.Changes.{Change, old_field, new_field, other_order, record_added, record_removed, record_marked, record_recalled, replaced}
use Rattle.table_diff.specs.Changes.{changes, record_changes, replaced_value}
use Rattle.table_diff.specs.Told.{text_told}

-- the decimals of a number, and nothing of another field
abbrev pub decimals_words : Field → List ℕ
decimals_words f = if f.kind == NUMBER then BLANK ∷ decimal f.decimals else []

-- a field's kind, its width and its decimals
unfoldable pub description : Field → List ℕ
description f = kind_word f.kind ++ (BLANK ∷ (decimal f.width ++ decimals_words f))

-- the line of a field that one table alone has, after these words
unfoldable pub field_told : List ℕ → Field → List ℕ
field_told words f = words ++ (f.name ++ (codes ": " ++ (description f ++ LF ∷ [])))

abbrev pub record_words : ℕ → List ℕ
record_words number = codes "record " ++ decimal number

-- the number that a record has now, where it was another
abbrev pub now_words : RecordNumbers → List ℕ
now_words numbers = if numbers.old_number == numbers.new_number then [] else codes " (now " ++ (decimal numbers.new_number ++ codes ")")

-- a record that both tables have, by its numbers
abbrev pub numbers_words : RecordNumbers → List ℕ
numbers_words numbers = record_words numbers.old_number ++ now_words numbers

-- the words that a record is marked as deleted
abbrev pub mark_words : Bool → List ℕ
mark_words deleted = if deleted then codes ", marked as deleted" else []

-- a value of a record: a blank, its field's name and what CSV has of it
abbrev pub value_words : Row → ℕ → Field → List ℕ
value_words row index f = BLANK ∷ (f.name ++ (BLANK ∷ text_told (csv_value f.kind (slice_index_or row.cells index []))))

-- the line of a record that one table alone has: its number, these words, whether it is marked, and its values
unfoldable pub row_told : List ℕ → ℕ → List Field → Row → List ℕ
row_told words number fields row =
    record_words number ++ (words ++ (mark_words row.deleted ++ (codes ":" ++ (csv_fields (value_words row) 0 fields ++ LF ∷ []))))

-- the line of a record's mark that was set or taken away
unfoldable pub mark_told : List ℕ → RecordNumbers → List ℕ
mark_told words numbers = numbers_words numbers ++ (words ++ LF ∷ [])

-- a field's name, and its old and its new text
unfoldable pub both_told : List ℕ → List ℕ → List ℕ → List ℕ
both_told name old_text new_text = name ++ (BLANK ∷ (text_told old_text ++ (codes " -> " ++ text_told new_text)))

-- the line of a value of a record
unfoldable pub value_told : RecordNumbers → List ℕ → List ℕ → List ℕ → List ℕ
value_told numbers name old_text new_text = numbers_words numbers ++ (codes ": " ++ (both_told name old_text new_text ++ LF ∷ []))

-- the line of a change
abbrev pub change_line : Change → List ℕ
change_line (old_field f) = field_told (codes "old field ") f
change_line (new_field f) = field_told (codes "new field ") f
change_line other_order = codes "the fields stand in another order" ++ LF ∷ []
change_line (record_added number fields row) = row_told (codes " added") number fields row
change_line (record_removed number fields row) = row_told (codes " removed") number fields row
change_line (record_marked numbers) = mark_told (codes " marked as deleted") numbers
change_line (record_recalled numbers) = mark_told (codes " recalled") numbers
change_line (replaced numbers name old_text new_text) = value_told numbers name old_text new_text

-- the line of a value that was another
abbrev pub replaced_line : RecordNumbers → List ℕ → List ℕ → List ℕ → List ℕ → List ℕ → List ℕ
replaced_line numbers name old_cell new_cell old_text new_text = change_line (replaced_value numbers name old_cell new_cell old_text new_text)

-- the lines of changes
abbrev pub change_lines : List Change → List ℕ
change_lines changes = flat_map change_line changes

-- the lines of what has changed of the records
abbrev pub row_lines : Table → Table → List ℕ
row_lines old new = change_lines (record_changes old new)

-- what has changed from an old table to a new one, as text, a line a change
abbrev pub diff_text : Table → Table → List ℕ
diff_text old new = change_lines (changes old new)
