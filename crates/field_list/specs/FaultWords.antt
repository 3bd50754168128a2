-- Why a text is no list of fields, in words.
use Rattle.std.specs.Prelude.{ℕ, List, ◌++◌, codes}
use Rattle.std.specs.Fmt.{decimal}
use Rattle.dbf_fields.specs.declared.schema.SchemaFault.{SchemaFault}
use Rattle.dbf_fields.specs.declared.schema.SchemaFault.TheVariants as schema
use Rattle.field_list.specs.declared.fault.FieldLineFault.{FieldLineFault}
use Rattle.field_list.specs.declared.fault.FieldLineFault.TheVariants as line
use Rattle.field_list.specs.declared.fault.FieldListFault.{FieldListFault}
use Rattle.field_list.specs.declared.fault.FieldListFault.TheVariants as fault

-- why a line says no field
abbrev pub field_line_words : FieldLineFault → List ℕ
field_line_words line.NoKind = codes "the word after the name is none of Character, Number, Logical, Date and Memo: blanks stand between the words, as in NAME Character 30"
field_line_words line.NoWidth = codes "the word after the kind is no number up to 255: a width stands there, as in BORN Date 8"
field_line_words line.NoDecimals = codes "the word after the width is no number up to 255: decimals stand there, as in DUES Number 7 2"
field_line_words line.WordTooMany = codes "it has a word too many: name, kind, width and the decimals of a Number are all"

-- why the fields up to one are no schema
abbrev pub field_words : SchemaFault → List ℕ
field_words schema.BadFieldCount = codes "the field is one too many: a table has at most 128"
field_words schema.BadName = codes "the field's name is bad: 1 to 10 letters, digits or _, a letter first"
field_words schema.DuplicateName = codes "the field has the name of an earlier one"
field_words schema.BadKind = codes "the field is of no known kind"
field_words schema.BadWidth = codes "the field's width is bad: Character 1 to 254, Number 1 to 19 and more than its decimals, Logical 1, Date 8, Memo 10"
field_words schema.RecordTooLong = codes "with the field a record is too long: at most 4,000 bytes"
field_words schema.NoMemory = codes "out of memory"

-- why a text is no list of fields: the number of the line, and why it is bad
abbrev pub field_list_words : FieldListFault → List ℕ
field_list_words (fault.BadLine number why) = codes "line " ++ (decimal number ++ (codes ": " ++ field_line_words why))
field_list_words (fault.BadField number why) = codes "line " ++ (decimal number ++ (codes ": " ++ field_words why))
field_list_words fault.NoFields = codes "there is no field"
field_list_words fault.NoMemory = codes "out of memory"
