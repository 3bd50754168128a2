-- What the files of an entry of a setup are, or why they are refused.
use Rattle.std.specs.Prelude.{◌≡◌, ◌≢◌, ℕ, List, [], ◌∷◌, Option, Some, None, Result, Ok, Err}
use Rattle.dbf_image.specs.declared.bad_table.BadTable.{BadTable}
use Rattle.dbf_image.specs.declared.dbf.header.TableNumbers.{TableNumbers}
use Rattle.dbf_image.specs.declared.fault.ImageFault.TheVariants.{NoMemory as NoRoomForTable}
use Rattle.dbf_image.specs.DbfText.{IsDbf}
use Rattle.dbf_image.specs.BadTable.{IsTableRefusal}
use Rattle.dbf_image.specs.Reading.{table_numbers}
use Rattle.dbf_image.specs.Table.{Table as Content}
use Rattle.ndx_index.specs.declared.fault.BadIndex.{BadIndex}
use Rattle.ndx_index.specs.declared.fault.NdxFault.TheVariants.{NoMemory as NoRoomForIndex}
use Rattle.ndx_index.specs.declared.ndx_file.NdxFile.{NdxFile}
use Rattle.ndx_index.specs.Header.{IsIndex, IsRefusedPage}
use Rattle.folders.specs.declared.named.NamedFile.{NamedFile}
use Rattle.folders.specs.declared.source.LoadFault.TheVariants as load
use Rattle.folders.specs.Files.{IsFileOf, IsUnrecovered, load_refusal}
use Rattle.station_lines.specs.declared.setup.entry.SetupEntry.{SetupEntry}
use Rattle.station_lines.specs.declared.setup.entry.SetupEntry.TheVariants.{Table, Index, Station}
use Rattle.setup_files.specs.declared.content.EntryContent.{EntryContent}
use Rattle.setup_files.specs.declared.content.EntryContent.TheVariants as content
use Rattle.setup_files.specs.declared.fault.EntryFault.{EntryFault}
use Rattle.setup_files.specs.declared.fault.EntryFault.TheVariants.{Unloaded, UnloadedMemos, NoTable, NoIndex}
use Rattle.setup_files.specs.declared.fault.LoadRefusal.{LoadRefusal}
use Rattle.setup_files.specs.declared.fault.LoadRefusal.TheVariants.{CannotRead, Unrecovered}
use Rattle.setup_files.specs.declared.head_numbers.IndexNumbers.{IndexNumbers}
use Rattle.setup_files.specs.HeadNumbers.{index_numbers}

-- ---- what they are

-- the bytes of a memo file, where one is named
abbrev pub IsMemoFileOf : Option (List NamedFile) → Option (List ℕ) → Option (List ℕ) → Type 0
IsMemoFileOf files None memo = memo ≡ None
IsMemoFileOf files (Some path) memo = (bytes : List ℕ) × IsFileOf files path bytes × (memo ≡ Some bytes)

-- the table is that of the files of these paths
pub record IsTableOfFiles (files : Option (List NamedFile)) (dbf : List ℕ) (dbt : Option (List ℕ)) (table : Content) : Type 0 where
  pub bytes : List ℕ
  pub memo : Option (List ℕ)
  pub found : IsFileOf files dbf bytes
  pub memo_found : IsMemoFileOf files dbt memo
  pub is : IsDbf bytes memo table

-- the index is that of the file of this path
pub record IsIndexOfFile (files : Option (List NamedFile)) (ndx : List ℕ) (file : NdxFile) : Type 0 where
  pub bytes : List ℕ
  pub found : IsFileOf files ndx bytes
  pub is : IsIndex bytes file.expr file.key_len file.pairs.pairs

-- the files of the entry are this: a table, an index, or the bytes of a script
abbrev pub IsContentOf : Option (List NamedFile) → SetupEntry → EntryContent → Type 0
IsContentOf files (Table name dbf dbt) (content.Table records) = IsTableOfFiles files dbf dbt records.table
IsContentOf files (Index table name ndx) (content.Index file) = IsIndexOfFile files ndx file
IsContentOf files (Station script) (content.Script bytes) = IsFileOf files script bytes
IsContentOf files entry found = ⊥

-- ---- why they are refused

-- why no bytes are had of the file of a path: a set's list lies in its folder, or it can't be read and it is not known
-- that such a list is what it is refused for
abbrev pub IsLoadRefusal : Option (List NamedFile) → List ℕ → LoadRefusal → Type 0
IsLoadRefusal files path Unrecovered = IsUnrecovered files path
IsLoadRefusal files path CannotRead = load_refusal files path ≢ Some load.Unrecovered

-- the bytes of the files of these paths are refused as a table's, and in which part; the numbers are those of the header
pub record IsRefusedTable (files : Option (List NamedFile)) (dbf : List ℕ) (dbt : Option (List ℕ)) (bad : BadTable) (numbers : TableNumbers) : Type 0 where
  pub bytes : List ℕ
  pub memo : Option (List ℕ)
  pub found : IsFileOf files dbf bytes
  pub memo_found : IsMemoFileOf files dbt memo
  pub had_memory : bad.why ≢ NoRoomForTable
  pub refused : IsTableRefusal bad bytes memo
  pub told : numbers ≡ table_numbers bytes

-- the bytes of the file of this path are refused as an index's, and at which page; the numbers are those at its head
pub record IsRefusedIndex (files : Option (List NamedFile)) (ndx : List ℕ) (bad : BadIndex) (numbers : IndexNumbers) : Type 0 where
  pub bytes : List ℕ
  pub found : IsFileOf files ndx bytes
  pub had_memory : bad.why ≢ NoRoomForIndex
  pub refused : IsRefusedPage bytes bad.why bad.page
  pub told : numbers ≡ index_numbers bytes

-- why no bytes are had of the memo file that is named
abbrev pub IsMemosRefusal : Option (List NamedFile) → Option (List ℕ) → LoadRefusal → Type 0
IsMemosRefusal files None why = ⊥
IsMemosRefusal files (Some path) why = IsLoadRefusal files path why

-- Why the files of an entry are refused: no bytes are had of one, or its reader refuses them, with the part or page. A table's
-- memos are loaded only if its own file was found.
abbrev pub IsRefusalOf : Option (List NamedFile) → SetupEntry → EntryFault → Type 0
IsRefusalOf files (Table name dbf dbt) (Unloaded why) = IsLoadRefusal files dbf why
IsRefusalOf files (Table name dbf dbt) (UnloadedMemos why) = (bytes : List ℕ) × IsFileOf files dbf bytes × IsMemosRefusal files dbt why
IsRefusalOf files (Table name dbf dbt) (NoTable bad numbers) = IsRefusedTable files dbf dbt bad numbers
IsRefusalOf files (Index table name ndx) (Unloaded why) = IsLoadRefusal files ndx why
IsRefusalOf files (Index table name ndx) (NoIndex bad numbers) = IsRefusedIndex files ndx bad numbers
IsRefusalOf files (Station script) (Unloaded why) = IsLoadRefusal files script why
IsRefusalOf files entry fault = ⊥

-- the path of the file that is refused: of a table's two the DBF's, but where it is that of its memos of which no bytes are had
abbrev pub refused_path : SetupEntry → EntryFault → List ℕ
refused_path (Table name dbf (Some dbt)) (UnloadedMemos why) = dbt
refused_path (Table name dbf dbt) fault = dbf
refused_path (Index table name ndx) fault = ndx
refused_path (Station script) fault = script

-- ---- either

-- the bytes of the file of a path, or why there are none
abbrev pub IsFileLook : Option (List NamedFile) → List ℕ → Result (List ℕ) LoadRefusal → Type 0
IsFileLook files path (Ok bytes) = IsFileOf files path bytes
IsFileLook files path (Err why) = IsLoadRefusal files path why

-- the bytes of a memo file, where one is named, or why there are none
abbrev pub IsMemosLook : Option (List NamedFile) → Option (List ℕ) → Result (Option (List ℕ)) LoadRefusal → Type 0
IsMemosLook files dbt (Ok memo) = IsMemoFileOf files dbt memo
IsMemosLook files dbt (Err why) = IsMemosRefusal files dbt why

-- what the files of an entry are, or why they are refused
abbrev pub IsEntryRead : Option (List NamedFile) → SetupEntry → Result EntryContent EntryFault → Type 0
IsEntryRead files entry (Ok found) = IsContentOf files entry found
IsEntryRead files entry (Err fault) = IsRefusalOf files entry fault

-- the same of each of some entries
abbrev pub AreEntriesRead : Option (List NamedFile) → List SetupEntry → List (Result EntryContent EntryFault) → Type 0
AreEntriesRead files [] [] = Unit {0}
AreEntriesRead files [] (read ∷ reads) = ⊥
AreEntriesRead files (entry ∷ entries) [] = ⊥
AreEntriesRead files (entry ∷ entries) (read ∷ reads) = IsEntryRead files entry read × AreEntriesRead files entries reads
