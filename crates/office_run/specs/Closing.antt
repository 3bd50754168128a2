-- The files that a run writes.
use Rattle.std.specs.Prelude.{◌≡◌, ℕ, ◌+◌, List, [], ◌∷◌, ◌++◌, codes, flat_map, map, Option, Some, None, take, if◌then◌else◌}
use Rattle.std.specs.Fmt.{decimal}
use Rattle.dbf_fields.specs.declared.day.Day.{Day}
use Rattle.dbf_image.specs.Table.{has_memos}
use Rattle.dbf_image.specs.Image.{image, IsOutside}
use Rattle.dbf_image.specs.Blocks.{memo_image}
use Rattle.byte_io.specs.Sink.{grown, IsFront}
use Rattle.ndx_index.specs.Image.{ndx_image}
use Rattle.office_run.specs.declared.close_fault.CloseFault.{CloseFault}
use Rattle.office_run.specs.declared.close_fault.CloseFault.TheVariants.{Write}
use Rattle.folders.specs.declared.named.NamedFile.{NamedFile}
use Rattle.office_run.specs.declared.closed.ClosedTable.{ClosedTable}
use Rattle.office_run.specs.declared.planned.Planned.{Planned}
use Rattle.office_run.specs.declared.content.Content.{Content}
use Rattle.office_run.specs.declared.content.Content.TheVariants.{Table as OfTable, Memos, Index as OfIndex, Text}
use Rattle.office_run.specs.ClosedIndex.{IndexContent}
use Rattle.folders.specs.Files.{listing}
use Rattle.office_run.specs.Writable.{has_too_many}

abbrev pub index_bytes : IndexContent → List ℕ
index_bytes index = ndx_image index.text index.key_len index.pairs

-- the bytes of a file by its content
abbrev pub bytes_of : Content → List ℕ
bytes_of (OfTable table day) = image table.now day.year day.month day.day
bytes_of (Memos table) = memo_image table.now
bytes_of (OfIndex index) = index_bytes index.now
bytes_of (Text text) = text.now

abbrev pub file_named : List ℕ → Content → NamedFile
file_named name content = record { name = name; bytes = bytes_of content }

abbrev pub file_of : Planned → NamedFile
file_of p = file_named p.name p.content

-- the file of a table's fields and records
abbrev pub dbf_file : ℕ → ℕ → ℕ → ClosedTable → NamedFile
dbf_file year month day closed = record { name = closed.name ++ codes ".DBF"; bytes = image closed.content year month day }

-- the file of a table's memos, where a field is a memo
abbrev pub memo_files : ClosedTable → List NamedFile
memo_files closed =
    if has_memos closed.content.schema then record { name = closed.name ++ codes ".DBT"; bytes = memo_image closed.content } ∷ [] else []

-- the file of an index
abbrev pub index_file : IndexContent → NamedFile
index_file index = record { name = index.name ++ codes ".NDX"; bytes = index_bytes index }

-- the files of a table: its DBF, its DBT where a field is a memo, and an NDX of each index
abbrev pub table_files : ℕ → ℕ → ℕ → ClosedTable → List NamedFile
table_files year month day closed = dbf_file year month day closed ∷ (memo_files closed ++ map index_file closed.indexes.items)

abbrev pub tables_files : ℕ → ℕ → ℕ → List ClosedTable → List NamedFile
tables_files year month day tables = flat_map (table_files year month day) tables

-- the name of the file of a station's answers
abbrev pub answer_name : ℕ → List ℕ
answer_name station = codes "STATION" ++ (decimal station ++ codes ".TXT")

-- the files of the answers of stations, the first of which has this number
abbrev pub answer_files : ℕ → List (List ℕ) → List NamedFile
answer_files station [] = []
answer_files station (a ∷ rest) = record { name = answer_name station; bytes = a } ∷ answer_files (station + 1) rest

-- the files of a run on a day, in their order
abbrev pub run_files : Day → List ClosedTable → List (List ℕ) → List NamedFile
run_files today tables answers = tables_files today.year today.month today.day tables ++ answer_files 1 answers

-- the number of the first table that has too many blocks, where the first table has this number
abbrev pub first_blocked : ℕ → List ClosedTable → Option ℕ
first_blocked number [] = None
first_blocked number (closed ∷ rest) = if has_too_many closed.content then Some number else first_blocked (number + 1) rest

-- a header can have the year, and the table of this number is the first that has too many blocks
abbrev pub IsBlockedBy : ℕ → List ClosedTable → ℕ → Type 0
IsBlockedBy year tables number = ¬ IsOutside year × (first_blocked 1 tables ≡ Some number)

-- the first of these planned files, as one list
abbrev pub listing_of_first : ℕ → List Planned → List ℕ
listing_of_first count planned = listing (map file_of (take count planned))

-- What a failed run has written: the files before one of this name are whole, and of it, if it was begun, a
-- front part is there.
pub record IsCutAt (name : List ℕ) (old new : Option (List ℕ)) (files : List NamedFile) : Type 0 where
  pub before : List NamedFile
  pub bytes : List ℕ
  pub others : List NamedFile
  pub order : files ≡ before ++ record { name = name; bytes = bytes } ∷ others
  pub whole : IsFront (grown old (listing before)) new
  pub front : IsFront new (grown old (listing (before ++ record { name = name; bytes = bytes } ∷ [])))

-- where one of these files could not be written, those before it are whole; of other faults nothing is said
abbrev pub IsCutBy : List NamedFile → Option (List ℕ) → Option (List ℕ) → CloseFault → Type 0
IsCutBy files old new (Write name) = IsCutAt name old new files
IsCutBy files old new fault = Unit {0}
