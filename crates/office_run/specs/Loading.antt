-- What is read for a run: the files that the entries of a setup name.
use Rattle.std.specs.Prelude.{◌≡◌, ◌≢◌, ◌≤◌, ◌⊎◌, ℕ, List, [], ◌∷◌, ◌++◌, length, map, Option, Some, None, Result, Ok, Err, IsSome, bytes_eq, slice_get, slice_set, take}
use Rattle.std.specs.List.{position}
use Rattle.byte_io.specs.Sink.{Rises}
use Rattle.catalogue_core.specs.declared.source.IndexSource.{IndexSource}
use Rattle.catalogue_core.specs.declared.source.TableSource.{TableSource}
use Rattle.folders.specs.declared.named.NamedFile.{NamedFile}
use Rattle.station_lines.specs.declared.setup.entry.SetupEntry.{SetupEntry}
use Rattle.station_lines.specs.declared.setup.entry.SetupEntry.TheVariants.{Table, Index, Station}
use Rattle.setup_files.specs.declared.content.EntryContent.{EntryContent}
use Rattle.setup_files.specs.declared.fault.EntryFault.{EntryFault}
use Rattle.setup_files.specs.declared.fault.EntryFault.TheVariants.{Unloaded, UnloadedMemos, NoTable, NoIndex}
use Rattle.setup_files.specs.declared.fault.LoadRefusal.{LoadRefusal}
use Rattle.setup_files.specs.declared.fault.LoadRefusal.TheVariants as refusal
use Rattle.setup_files.specs.EntryFiles.{IsIndexOfFile, IsRefusalOf, IsTableOfFiles, refused_path}
use Rattle.office_run.specs.declared.fault.FileFault.{FileFault}
use Rattle.office_run.specs.declared.fault.FileFault.TheVariants.{CannotRead, Unrecovered, Image, Ndx}
use Rattle.office_run.specs.declared.fault.ServeFault.{ServeFault}
use Rattle.office_run.specs.declared.fault.ServeFault.TheVariants.{File, NoMemory}
use Rattle.office_run.specs.declared.loaded.Loaded.{Loaded}
use Rattle.folders.specs.declared.source.LoadFault.TheVariants.{Unrecovered as LoadUnrecovered}
use Rattle.folders.specs.Files.{IsFileOf, IsTooLong, IsUnrecovered, load_refusal}

-- ---- what is read

-- the tables with their indexes, and the scripts
pub record Read : Type 0 where
  pub tables : List TableSource
  pub scripts : List (List ℕ)

abbrev pub read_as : List TableSource → List (List ℕ) → Read
read_as tables scripts = record { tables = tables; scripts = scripts }

abbrev pub nothing : Read
nothing = read_as [] []

abbrev pub read_of : Loaded → Read
read_of loaded = read_as loaded.tables.items loaded.scripts.items

-- the table is that of its two files, under its name and without indexes
pub record IsTableRead (files : Option (List NamedFile)) (name dbf : List ℕ) (dbt : Option (List ℕ)) (table : TableSource) : Type 0 where
  pub content : IsTableOfFiles files dbf dbt table.content
  pub named : table.name ≡ name
  pub plain : table.indexes.items ≡ []

-- the index is that of its file, under its name
pub record IsIndexRead (files : Option (List NamedFile)) (name ndx : List ℕ) (index : IndexSource) : Type 0 where
  pub content : IsIndexOfFile files ndx index.file
  pub named : index.name ≡ name

-- the same table with one more index
pub record HasOneMore (index : IndexSource) (old new : TableSource) : Type 0 where
  pub named : new.name ≡ old.name
  pub content : new.content ≡ old.content
  pub indexes : new.indexes.items ≡ old.indexes.items ++ index ∷ []

-- where the first table of a name stands
abbrev pub first_named : List ℕ → List TableSource → Option ℕ
first_named name tables = position (λ t. bytes_eq name t.name) tables

-- the names are those of the tables in their order, but where a name came twice: then there are fewer names than tables
pub record AreNamesOf (names : List (List ℕ)) (tables : List TableSource) : Type 0 where
  pub few : length names ≤ length tables
  pub same : length names ≡ length tables → names ≡ map (λ t. t.name) tables

-- the first table of the name has got one more index
pub record HasIndex (name : List ℕ) (index : IndexSource) (old new : List TableSource) : Type 0 where
  pub place : ℕ
  pub table : TableSource
  pub changed : TableSource
  pub first : first_named name old ≡ Some place
  pub there : slice_get old place ≡ Some table
  pub one_more : HasOneMore index table changed
  pub others : new ≡ slice_set old place changed

-- an index can be loaded only after its table
abbrev pub CanLoad : List TableSource → SetupEntry → Type 0
CanLoad tables (Index table name ndx) = IsSome (first_named table tables)
CanLoad tables entry = Unit {0}

-- what an entry adds to what was read
abbrev pub Loads : Option (List NamedFile) → SetupEntry → Read → Read → Type 0
Loads files (Table name dbf dbt) old new = (table : TableSource) × IsTableRead files name dbf dbt table × (new ≡ read_as (old.tables ++ table ∷ []) old.scripts)
Loads files (Index table name ndx) old new = (index : IndexSource) × IsIndexRead files name ndx index × HasIndex table index old.tables new.tables × (new.scripts ≡ old.scripts)
Loads files (Station script) old new = (bytes : List ℕ) × IsFileOf files script bytes × (new ≡ read_as old.tables (old.scripts ++ bytes ∷ []))

-- what entries add, one after the other
abbrev pub LoadAll : Option (List NamedFile) → List SetupEntry → Read → Read → Type 0
LoadAll files [] old new = new ≡ old
LoadAll files (entry ∷ entries) old new = (next : Read) × Loads files entry old next × LoadAll files entries next new

-- ---- why an entry's files are not read

-- why no bytes are had of the file of a path: a set's list lies in its folder, or it can't be read and it is not known
-- that such a list is what it is refused for
abbrev pub IsUnloaded : Option (List NamedFile) → List ℕ → FileFault → Type 0
IsUnloaded files path Unrecovered = IsUnrecovered files path
IsUnloaded files path CannotRead = load_refusal files path ≢ Some LoadUnrecovered
IsUnloaded files path fault = ⊥

-- no bytes are had of the file of this path, or memory is refused
abbrev pub IsFileFault : Option (List NamedFile) → List ℕ → ServeFault → Type 0
IsFileFault files path fault = (fault ≡ NoMemory) ⊎ ((why : FileFault) × IsUnloaded files path why × (fault ≡ File path why))

-- what a run says of a file of which no bytes are had
abbrev pub load_fault : LoadRefusal → FileFault
load_fault refusal.CannotRead = CannotRead
load_fault refusal.Unrecovered = Unrecovered

-- why the files of an entry are refused, as a fault of loading
abbrev pub file_fault : EntryFault → FileFault
file_fault (Unloaded why) = load_fault why
file_fault (UnloadedMemos why) = load_fault why
file_fault (NoTable bad numbers) = Image bad.why
file_fault (NoIndex bad numbers) = Ndx bad.why

-- the files of the entry are refused, and the fault says why, and of which path
abbrev pub IsUnread : Option (List NamedFile) → SetupEntry → List ℕ → FileFault → Type 0
IsUnread files entry path fault = (why : EntryFault) × IsRefusalOf files entry why × (path ≡ refused_path entry why) × (fault ≡ file_fault why)

-- the fault of an entry whose files are refused
abbrev pub refusal_told : SetupEntry → Result EntryContent EntryFault → Option ServeFault
refusal_told entry (Ok content) = None
refusal_told entry (Err fault) = Some (File (refused_path entry fault) (file_fault fault))

-- the fault of the first of some entries whose files are refused
abbrev pub first_refused : List SetupEntry → List (Result EntryContent EntryFault) → Option ServeFault
first_refused (entry ∷ entries) (Ok content ∷ reads) = first_refused entries reads
first_refused (entry ∷ entries) (Err fault ∷ reads) = refusal_told entry (Err fault)
first_refused entries reads = None

-- why an entry is not loaded: a file that is not read, or want of memory
abbrev pub IsEntryFault : Option (List NamedFile) → SetupEntry → ServeFault → Type 0
IsEntryFault files entry NoMemory = Unit {0}
IsEntryFault files entry (File path fault) = IsUnread files entry path fault
IsEntryFault files entry fault = ⊥

-- the fault is that of the first entry that was not loaded: all before it were loaded and read
pub record IsFaultIn (files : Option (List NamedFile)) (entries : List SetupEntry) (fault : ServeFault) : Type 0 where
  pub before : ℕ
  pub entry : SetupEntry
  pub read : Read
  pub next : slice_get entries before ≡ Some entry
  pub loaded : LoadAll files (take before entries) nothing read
  pub is_fault : IsEntryFault files entry fault

-- what a fault says of the count of loads that failed: a file can't be read where a load failed or the file is over the
-- limit; of want of memory nothing is said; at any other fault, as where a set's list lies in its folder, no load has failed
abbrev pub IsFailure : Option (List NamedFile) → Option ℕ → Option ℕ → ServeFault → Type 0
IsFailure files before after NoMemory = Unit {0}
IsFailure files before after (File path CannotRead) = Rises before after ⊎ IsTooLong files path
IsFailure files before after fault = after ≡ before
