-- The table of the files of a path, and why there is none.
use Rattle.std.specs.Prelude.{◌≡◌, ℕ, Bool, true, false, List, ◌++◌, codes, Option, unwrap_or}
use Rattle.dbf_image.specs.declared.fault.ImageFault.{ImageFault}
use Rattle.dbf_image.specs.declared.fault.ImageFault.TheVariants as image
use Rattle.dbf_image.specs.DbfText.{IsDbf}
use Rattle.dbf_image.specs.FaultWords.{image_name, image_words}
use Rattle.dbf_image.specs.Reading.{IsImageRefusal}
use Rattle.dbf_image.specs.Table.{Table}
use Rattle.folders.specs.declared.named.NamedFile.{NamedFile}
use Rattle.folders.specs.declared.source.LoadFault.{LoadFault}
use Rattle.folders.specs.declared.source.LoadFault.TheVariants as load
use Rattle.folders.specs.Files.{IsFileOf}
use Rattle.folders.specs.Paths.{folder_of_path}
use Rattle.table_reader.specs.declared.fault.TableReadFault.{TableReadFault}
use Rattle.table_reader.specs.declared.fault.TableReadFault.TheVariants.{Load, Memos, NoTable}
use Rattle.table_reader.specs.Memos.{IsLookedFor, IsMemoFile, IsMemosFault, IsMissingBeside, IsWhyUnread}

-- ---- what was read

-- the files at these paths are those of the table: the one of its memos is that of a path, where one is given
pub record IsTableAt (files : Option (List NamedFile)) (path : List ℕ) (memos : Option (List ℕ)) (table : Table) : Type 0 where
  pub dbf : List ℕ
  pub dbt : Option (List ℕ)
  pub table_file : IsFileOf files path dbf
  pub memo_file : IsMemoFile files path dbf memos dbt
  pub is : IsDbf dbf dbt table

-- ---- why it was not

-- The files of these paths are no table for this: the fault is that of the table's file and of the file of memos that it is read with,
-- which is that of a path, where one is given.
pub record IsNoTable (files : Option (List NamedFile)) (unread : List ℕ → Type 0) (path : List ℕ) (memos : Option (List ℕ)) (fault : ImageFault) : Type 0 where
  pub dbf : List ℕ
  pub dbt : Option (List ℕ)
  pub table_file : IsFileOf files path dbf
  pub memo_file : IsMemoFile files path dbf memos dbt
  pub missing : IsMissingBeside unread path dbf memos dbt
  pub refused : IsImageRefusal fault dbf dbt

-- what a fault of reading the table of a path says is true of its files, where this is true of a path that was not had
abbrev pub IsTableReadFault : Option (List NamedFile) → (List ℕ → Type 0) → List ℕ → Option (List ℕ) → TableReadFault → Type 0
IsTableReadFault files unread path memos (Load why) = IsWhyUnread files unread path why
IsTableReadFault files unread path memos (Memos why) = IsMemosFault files unread path memos why
IsTableReadFault files unread path memos (NoTable why) = IsNoTable files unread path memos why

-- what it says of the count of loads that failed: only that of a file of memos beside the table can fail before another fault
abbrev pub IsTableCount : Option (List NamedFile) → Option ℕ → Option ℕ → List ℕ → TableReadFault → Type 0
IsTableCount files before after path (Load load.CannotRead) = Unit {0}
IsTableCount files before after path (Load why) = after ≡ before
IsTableCount files before after path (Memos load.CannotRead) = Unit {0}
IsTableCount files before after path (Memos why) = after ≡ before
IsTableCount files before after path (NoTable why) = IsLookedFor files before after path

-- the fault is a want of memory: of a load,
abbrev pub is_load_no_memory : LoadFault → Bool
is_load_no_memory load.NoMemory = true
is_load_no_memory why = false

-- of the bytes of a table's files,
abbrev pub is_image_no_memory : ImageFault → Bool
is_image_no_memory image.NoMemory = true
is_image_no_memory why = false

-- and of a table
abbrev pub is_table_no_memory : TableReadFault → Bool
is_table_no_memory (Load why) = is_load_no_memory why
is_table_no_memory (Memos why) = is_load_no_memory why
is_table_no_memory (NoTable why) = is_image_no_memory why

-- ---- in words

-- the path of the file that a fault is one of: that of the file of memos, where it is given and the fault is one of it, and else the table's
abbrev pub path_of_fault : List ℕ → Option (List ℕ) → TableReadFault → List ℕ
path_of_fault path memos (Load why) = path
path_of_fault path memos (Memos why) = unwrap_or memos path
path_of_fault path memos (NoTable why) = path

-- why the file of a path was not loaded; where its folder is not recovered, also what to do
abbrev pub load_words : List ℕ → LoadFault → List ℕ
load_words path load.CannotRead = codes "cannot read: is it there, a file, and may it be read?"
load_words path load.Unrecovered = codes "the folder is not recovered: start with --out " ++ folder_of_path path
load_words path load.NoMemory = codes "out of memory"

-- why the table of a path was not read; of the bytes of its files, the fault's name and what it says
abbrev pub table_read_words : List ℕ → TableReadFault → List ℕ
table_read_words path (Load why) = load_words path why
table_read_words path (Memos why) = load_words path why
table_read_words path (NoTable why) = image_name why ++ (codes ": " ++ image_words why)
