-- The files of a table that is made of another one and the records of a text of CSV, and why they are not made.
use Rattle.std.specs.Borrow.{Bor}
use Rattle.std.specs.Prelude.{◌≡◌, ◌⊎◌, ℕ, Bool, true, false, List, Option, Some, Ok, Err, IfSome, option_copied}
use Rattle.dbf_image.specs.Table.{Table}
use Rattle.folders.specs.declared.named.NamedFile.{NamedFile}
use Rattle.folders.specs.declared.source.LoadFault.{LoadFault}
use Rattle.folders.specs.declared.source.LoadFault.TheVariants as load
use Rattle.folders.specs.Files.{IsFileOf, load_refusal}
use Rattle.program_frame.specs.InputDays.{FileAnswers, IsClosedBeside, IsOpenBeside}
use Rattle.table_loader.specs.declared.named.NamedFault.{NamedFault}
use Rattle.table_loader.specs.FaultWords.{field_at_fault}
use Rattle.table_loader.specs.Loading.{csv_loaded}
use Rattle.table_reader.specs.Memos.{IsLookedFor, IsNotHad, IsWhyUnread}
use Rattle.table_reader.specs.TableFiles.{is_load_no_memory, is_table_no_memory, path_of_fault, IsTableAt, IsTableCount, IsTableReadFault}
use Rattle.table_maker.specs.declared.files.FilesFault.{FilesFault}
use Rattle.table_maker.specs.declared.files.FilesFault.TheVariants as files
use Rattle.table_maker.specs.declared.load_fault.LoadJobFault.{LoadJobFault}
use Rattle.table_maker.specs.declared.load_fault.LoadJobFault.TheVariants as told
use Rattle.table_maker.specs.declared.load_job.LoadJob.{LoadJob}
use Rattle.files_in_place.specs.Folder.{Folder}
use Rattle.table_maker.specs.Making.{files_of_table, names_of_table}
use Rattle.table_maker.specs.Placing.{IsFree, LookFaults}

-- ---- what is made

-- this is the table that a job's text of CSV makes of its old table
pub record IsLoadedTable (files : Option (List NamedFile)) (job : LoadJob) (new : Table) : Type 0 where
  pub text : List ℕ
  pub old : Table
  pub csv_file : IsFileOf files job.csv.now text
  pub old_files : IsTableAt files job.table.now (option_copied job.memos) old
  pub loaded : csv_loaded job.form old text ≡ Ok new

-- these are the files of that table
abbrev pub AreLoadedFiles : Option (List NamedFile) → LoadJob → List NamedFile → Type 0
AreLoadedFiles files job made = (new : Table) × IsLoadedTable files job new × (made ≡ files_of_table job.stem.now job.in_capitals job.today new)

-- neither name of that table has a file
abbrev pub IsFreeOfLoad : LoadJob → Folder → Type 0
IsFreeOfLoad job folder = IsFree (names_of_table job.stem.now job.in_capitals) folder

-- ---- why it is not

-- the text of CSV is not loaded for this, with the name of the field at fault
pub record IsRefusedText (files : Option (List NamedFile)) (job : LoadJob) (fault : NamedFault) : Type 0 where
  pub text : List ℕ
  pub old : Table
  pub csv_file : IsFileOf files job.csv.now text
  pub old_files : IsTableAt files job.table.now (option_copied job.memos) old
  pub refused : csv_loaded job.form old text ≡ Err fault.why
  pub named : fault.field ≡ field_at_fault old.schema fault.why

-- the fault is one of a job's files, with the path of the file, where this is true of a path that was not had; want of memory is told as such
abbrev pub IsLoadJobFault : Option (List NamedFile) → (List ℕ → Type 0) → LoadJob → LoadJobFault → Type 0
IsLoadJobFault files unread job (told.Csv path why) = (path.now ≡ job.csv.now) × (is_load_no_memory why ≡ false) × IsWhyUnread files unread job.csv.now why
IsLoadJobFault files unread job (told.Old path why) =
    (path.now ≡ path_of_fault job.table.now (option_copied job.memos) why) × (is_table_no_memory why ≡ false)
    × IsTableReadFault files unread job.table.now (option_copied job.memos) why
IsLoadJobFault files unread job (told.Text path why) = (path.now ≡ job.csv.now) × IsRefusedText files job why
IsLoadJobFault files unread job told.Write = Unit {0}
IsLoadJobFault files unread job told.Exists = ⊥
IsLoadJobFault files unread job told.Unread = ⊥
IsLoadJobFault files unread job told.NoMemory = Unit {0}

-- the text of CSV is not had for this
abbrev pub IsOfCsv : LoadFault → LoadJobFault → Type 0
IsOfCsv why (told.Csv path said) = said ≡ why
IsOfCsv why fault = ⊥

-- Why the files are not made. Where no load can give the text of CSV that is the fault, whether there is memory or not.
pub record IsWhyNotLoaded (files : Option (List NamedFile)) (unread : List ℕ → Type 0) (job : LoadJob) (fault : LoadJobFault) : Type 0 where
  pub early : (why : LoadFault) → load_refusal files job.csv.now ≡ Some why → IsOfCsv why fault
  pub why : IsLoadJobFault files unread job fault

-- what a fault says of the count of loads that failed
abbrev pub IsLoadJobCount : Option (List NamedFile) → Option ℕ → Option ℕ → LoadJob → LoadJobFault → Type 0
IsLoadJobCount files before after job (told.Csv path load.CannotRead) = Unit {0}
IsLoadJobCount files before after job (told.Csv path why) = after ≡ before
IsLoadJobCount files before after job (told.Old path why) = IsTableCount files before after job.table.now why
IsLoadJobCount files before after job told.NoMemory = IsLookedFor files before after job.table.now
IsLoadJobCount files before after job fault = after ≡ before

-- a file can't be read only where a load has failed since then, or where it is over the limit
pub record IsLoadJobFailure (files : Option (List NamedFile)) (job : LoadJob) (before after : Option ℕ) (fault : LoadJobFault) : Type 0 where
  pub why : IsWhyNotLoaded files (IsNotHad files before after) job fault
  pub count : IsLoadJobCount files before after job fault

-- ---- live days in the folders of its files

-- a day is open in the folder of the file of memos that is given
abbrev pub HasOpenMemos : FileAnswers → Option (List ℕ) → Type 0
HasOpenMemos answers memos = (path : List ℕ) × (memos ≡ Some path) × IsOpenBeside answers path

-- no day is open in the folder of the text of CSV, in that of the table, nor in that of the file of memos that is given
pub record HasNoLoadDay (answers : FileAnswers) (job : LoadJob) : Type 0 where
  pub csv : IsClosedBeside answers job.csv.now
  pub table : IsClosedBeside answers job.table.now
  pub memos : IfSome (option_copied job.memos) (IsClosedBeside answers)

-- or a day is open in one of them
abbrev pub IsLoadDay : FileAnswers → LoadJob → Bool → Type 0
IsLoadDay answers job true = IsOpenBeside answers job.csv.now ⊎ IsOpenBeside answers job.table.now ⊎ HasOpenMemos answers (option_copied job.memos)
IsLoadDay answers job false = HasNoLoadDay answers job

-- ---- what is told

-- what is told of a text of CSV that is not loaded: a want of memory as such
abbrev pub csv_told : Bor (List ℕ) → LoadFault → LoadJobFault
csv_told path load.NoMemory = told.NoMemory
csv_told path why = told.Csv path why

-- what is told of a text that was not put after an old table: why, or a want of memory
abbrev pub IsUnloadedText : LoadJob → Table → List ℕ → LoadJobFault → Type 0
IsUnloadedText job old text (told.Text path why) =
    (path.now ≡ job.csv.now) × (csv_loaded job.form old text ≡ Err why.why) × (why.field ≡ field_at_fault old.schema why.why)
IsUnloadedText job old text told.NoMemory = Unit {0}
IsUnloadedText job old text fault = ⊥

-- what is told of files that are not written
abbrev pub loaded_of_writing : FilesFault → LoadJobFault
loaded_of_writing files.Write = told.Write
loaded_of_writing files.NoMemory = told.NoMemory

-- the folder has not taken a file
abbrev pub is_load_write_fault : LoadJobFault → Bool
is_load_write_fault told.Write = true
is_load_write_fault why = false

-- the faults of looking for the names of its files
abbrev pub load_look : LookFaults LoadJobFault
load_look = record { exists = told.Exists; unread = told.Unread }
