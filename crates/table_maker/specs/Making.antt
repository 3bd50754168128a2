-- The files of a table that is made from a list of its fields.
use Rattle.std.specs.Prelude.{◌≡◌, ◌⊎◌, ℕ, Bool, true, false, List, [], ◌∷◌, ◌++◌, codes, Option, Some, Ok, Err, if◌then◌else◌}
use Rattle.byte_io.specs.Sink.{Rises}
use Rattle.dbf_fields.specs.declared.day.Day.{Day}
use Rattle.dbf_fields.specs.declared.field.Field.{Field}
use Rattle.dbf_image.specs.Blocks.{memo_image}
use Rattle.dbf_image.specs.Image.{image}
use Rattle.dbf_image.specs.Table.{Table, empty_table, has_memos}
use Rattle.field_list.specs.FieldList.{IsFieldList}
use Rattle.field_list.specs.declared.fault.FieldListFault.{FieldListFault}
use Rattle.field_list.specs.declared.fault.FieldListFault.TheVariants as fault
use Rattle.folders.specs.declared.named.NamedFile.{NamedFile}
use Rattle.folders.specs.declared.source.LoadFault.{LoadFault}
use Rattle.folders.specs.declared.source.LoadFault.TheVariants.{CannotRead, NoMemory, Unrecovered}
use Rattle.folders.specs.Files.{load_refusal, IsFileOf, IsTooLong, IsUnrecovered}
use Rattle.table_maker.specs.declared.files.FilesFault.{FilesFault}
use Rattle.table_maker.specs.declared.files.FilesFault.TheVariants as files
use Rattle.table_maker.specs.declared.fault.MakeFault.{MakeFault}
use Rattle.table_maker.specs.declared.fault.MakeFault.TheVariants as make

-- the extension of the table's file, in capitals or in small letters
abbrev pub table_extension : Bool → List ℕ
table_extension in_capitals = if in_capitals then codes ".DBF" else codes ".dbf"

-- the extension of the file of a table's memos, in capitals or in small letters
abbrev pub memos_extension : Bool → List ℕ
memos_extension in_capitals = if in_capitals then codes ".DBT" else codes ".dbt"

-- the names that the files of a table may have: its own, and that of its memos
abbrev pub names_of_table : List ℕ → Bool → List (List ℕ)
names_of_table stem in_capitals = (stem ++ table_extension in_capitals) ∷ (stem ++ memos_extension in_capitals) ∷ []

-- the file of a table, with a date, under a name
abbrev pub dated_file : List ℕ → Table → Day → NamedFile
dated_file name table day = record { name = name; bytes = image table day.year day.month day.day }

-- the file of a table's memos
abbrev pub memo_file : List ℕ → Table → NamedFile
memo_file name table = record { name = name; bytes = memo_image table }

-- the files of a table with a date under a stem: its own, and that of its memos if a field is a memo
abbrev pub files_of_table : List ℕ → Bool → Day → Table → List NamedFile
files_of_table stem in_capitals day table =
    dated_file (stem ++ table_extension in_capitals) table day
    ∷ (if has_memos table.schema then memo_file (stem ++ memos_extension in_capitals) table ∷ [] else [])

-- the files of the empty table of these fields
abbrev pub made_files : List ℕ → Bool → Day → List Field → List NamedFile
made_files stem in_capitals day fields = files_of_table stem in_capitals day (empty_table fields)

-- these are the fields that the file of a path lists
abbrev pub AreFieldsIn : Option (List NamedFile) → List ℕ → List Field → Type 0
AreFieldsIn files list fields = (text : List ℕ) × IsFileOf files list text × IsFieldList text (Ok fields)

-- these are the files of the empty table whose fields the file of a path lists
abbrev pub AreMadeFiles : Option (List NamedFile) → List ℕ → List ℕ → Bool → Day → List NamedFile → Type 0
AreMadeFiles files list stem in_capitals day made =
    (fields : List Field) × AreFieldsIn files list fields × (made ≡ made_files stem in_capitals day fields)

-- the fault is one of making an empty table, where this is the path of the list of fields
abbrev pub IsMakeJobFault : Option (List NamedFile) → List ℕ → MakeFault → Type 0
IsMakeJobFault files list (make.Load path Unrecovered) = (path.now ≡ list) × IsUnrecovered files list
IsMakeJobFault files list (make.Load path CannotRead) = path.now ≡ list
IsMakeJobFault files list (make.Load path NoMemory) = ⊥
IsMakeJobFault files list (make.List path why) = (path.now ≡ list) × ((text : List ℕ) × IsFileOf files list text × IsFieldList text (Err why))
IsMakeJobFault files list make.Write = Unit {0}
IsMakeJobFault files list make.Exists = ⊥
IsMakeJobFault files list make.Unread = ⊥
IsMakeJobFault files list make.NoMemory = Unit {0}

-- the list of fields is not had for this
abbrev pub IsOfList : LoadFault → MakeFault → Type 0
IsOfList why (make.Load path said) = said ≡ why
IsOfList why fault = ⊥

-- Why it is not made. Where no load can give the list of fields that is the fault, whether there is memory or not.
pub record IsWhyNotMade (files : Option (List NamedFile)) (list : List ℕ) (fault : MakeFault) : Type 0 where
  pub early : (why : LoadFault) → load_refusal files list ≡ Some why → IsOfList why fault
  pub why : IsMakeJobFault files list fault

-- a load has failed since then, or the file is over the limit, where the fault says that it can't be read
abbrev pub IsMakeFailure : Option (List NamedFile) → List ℕ → Option ℕ → Option ℕ → MakeFault → Type 0
IsMakeFailure files list before after (make.Load path CannotRead) = Rises before after ⊎ IsTooLong files list
IsMakeFailure files list before after why = after ≡ before

-- what is told of the list of a path that is not loaded: a want of memory as such
abbrev pub IsUnloaded : List ℕ → LoadFault → MakeFault → Type 0
IsUnloaded list NoMemory told = told ≡ make.NoMemory
IsUnloaded list why (make.Load path said) = (path.now ≡ list) × (said ≡ why)
IsUnloaded list why told = ⊥

-- what is told of a text of the list of a path that is no list of fields
abbrev pub IsNoList : List ℕ → FieldListFault → MakeFault → Type 0
IsNoList list fault.NoMemory told = told ≡ make.NoMemory
IsNoList list why (make.List path said) = (path.now ≡ list) × (said ≡ why)
IsNoList list why told = ⊥

-- what is told of files that are not written
abbrev pub made_of_writing : FilesFault → MakeFault
made_of_writing files.Write = make.Write
made_of_writing files.NoMemory = make.NoMemory

-- the folder has not taken a file
abbrev pub is_write_fault : MakeFault → Bool
is_write_fault make.Write = true
is_write_fault why = false
