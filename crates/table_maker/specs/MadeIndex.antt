-- The file of an index that is made of a table, and why it is not made.
use Rattle.std.specs.Prelude.{◌≡◌, ◌⊎◌, ℕ, Bool, true, false, List, [], ◌∷◌, ◌++◌, codes, Option, Some, IfSome, option_copied}
use Rattle.dbf_fields.specs.declared.field.Field.{Field}
use Rattle.dbf_image.specs.Table.{Table}
use Rattle.files_in_place.specs.Folder.{Folder}
use Rattle.folders.specs.declared.named.NamedFile.{NamedFile}
use Rattle.folders.specs.declared.source.LoadFault.{LoadFault}
use Rattle.folders.specs.Files.{load_refusal}
use Rattle.key_expr.specs.declared.fault.ExprFault.{ExprFault}
use Rattle.key_expr.specs.declared.fault.ExprFault.TheVariants as expression
use Rattle.key_expr.specs.Expression.{Expression}
use Rattle.key_expr.specs.Rules.{IsFault, IsKeyText}
use Rattle.ndx_index.specs.IndexFile.{index_image, IsIndexOf}
use Rattle.ndx_index.specs.declared.pair.Pair.{Pair}
use Rattle.program_frame.specs.InputDays.{FileAnswers, IsClosedBeside, IsOpenBeside}
use Rattle.program_frame.specs.Jobs.{ComesToItsEnd}
use Rattle.program_frame.specs.declared.ending.Failure.{Failure}
use Rattle.table_order.specs.TableOrder.{order}
use Rattle.table_reader.specs.declared.fault.TableReadFault.TheVariants as read
use Rattle.table_reader.specs.Memos.{IsLookedFor, IsNotHad}
use Rattle.table_reader.specs.TableFiles.{is_table_no_memory, path_of_fault, IsTableAt, IsTableCount, IsTableReadFault}
use Rattle.table_maker.specs.declared.files.FilesFault.{FilesFault}
use Rattle.table_maker.specs.declared.files.FilesFault.TheVariants as files
use Rattle.table_maker.specs.declared.index_fault.IndexJobFault.{IndexJobFault}
use Rattle.table_maker.specs.declared.index_fault.IndexJobFault.TheVariants as told
use Rattle.table_maker.specs.declared.index_job.IndexJob.{IndexJob}
use Rattle.table_maker.specs.declared.job.Made.{Made}
use Rattle.table_maker.specs.LoadedTable.{HasOpenMemos}
use Rattle.table_maker.specs.Placing.{IsFree, IsUnplacedInto, LookFaults}

-- ---- what is made

-- a name that the file of an index may have
abbrev pub IsIndexName : List ℕ → Type 0
IsIndexName name = ((stem : List ℕ) × (name ≡ stem ++ codes ".NDX")) ⊎ ((stem : List ℕ) × (name ≡ stem ++ codes ".ndx"))

-- the file of an index under a name, by its key expression and its pairs
abbrev pub index_file : List ℕ → Expression → List Pair → NamedFile
index_file name key pairs = record { name = name; bytes = index_image key pairs }

-- This is the file of the index of a job's table by the key expression that its text is for the table's fields: the pairs of all records, in
-- their order. It reads back as that index.
pub record IsMadeIndex (files : Option (List NamedFile)) (job : IndexJob) (made : List NamedFile) : Type 0 where
  pub table : Table
  pub key : Expression
  pub table_files : IsTableAt files job.table.now (option_copied job.memos) table
  pub text : key.text ≡ job.expression.now
  pub fields : key.fields ≡ table.schema
  pub says : IsKeyText table.schema job.expression.now key.expr
  pub file : made ≡ index_file job.name.now key (order table key.expr) ∷ []
  pub reads_back : IsIndexOf (index_image key (order table key.expr)) key (order table key.expr)

-- its name has no file
abbrev pub IsFreeOfIndex : IndexJob → Folder → Type 0
IsFreeOfIndex job folder = IsFree (job.name.now ∷ []) folder

-- ---- why it is not

-- a fault of a key expression is a want of memory
abbrev pub is_key_no_memory : ExprFault → Bool
is_key_no_memory expression.NoMemory = true
is_key_no_memory why = false

-- a job's text is no key expression for these fields: why, with the path of the table, or a want of memory
abbrev pub IsBadKey : IndexJob → List Field → IndexJobFault → Type 0
IsBadKey job fields (told.Key path why) = (path.now ≡ job.table.now) × (is_key_no_memory why ≡ false) × IsFault why fields job.expression.now
IsBadKey job fields told.NoMemory = Unit {0}
IsBadKey job fields fault = ⊥

-- the same of the fields of its table
pub record IsNoKey (files : Option (List NamedFile)) (job : IndexJob) (why : ExprFault) : Type 0 where
  pub table : Table
  pub table_files : IsTableAt files job.table.now (option_copied job.memos) table
  pub refused : IsFault why table.schema job.expression.now

-- the fault is one of a job's files or of its text, where this is true of a path that was not had; want of memory is told as such
abbrev pub IsIndexJobFault : Option (List NamedFile) → (List ℕ → Type 0) → IndexJob → IndexJobFault → Type 0
IsIndexJobFault files unread job (told.Table path why) =
    (path.now ≡ path_of_fault job.table.now (option_copied job.memos) why) × (is_table_no_memory why ≡ false)
    × IsTableReadFault files unread job.table.now (option_copied job.memos) why
IsIndexJobFault files unread job (told.Key path why) = (path.now ≡ job.table.now) × (is_key_no_memory why ≡ false) × IsNoKey files job why
IsIndexJobFault files unread job told.Write = Unit {0}
IsIndexJobFault files unread job told.Exists = ⊥
IsIndexJobFault files unread job told.Unread = ⊥
IsIndexJobFault files unread job told.NoMemory = Unit {0}

-- the table's file is not had for this
abbrev pub IsOfTableFile : LoadFault → IndexJobFault → Type 0
IsOfTableFile why (told.Table path said) = said ≡ read.Load why
IsOfTableFile why fault = ⊥

-- Why the file is not made. Where no load can give the table's file that is the fault, whether there is memory or not.
pub record IsWhyNoIndex (files : Option (List NamedFile)) (unread : List ℕ → Type 0) (job : IndexJob) (fault : IndexJobFault) : Type 0 where
  pub early : (why : LoadFault) → load_refusal files job.table.now ≡ Some why → IsOfTableFile why fault
  pub why : IsIndexJobFault files unread job fault

-- what a fault says of the count of loads that failed
abbrev pub IsIndexJobCount : Option (List NamedFile) → Option ℕ → Option ℕ → IndexJob → IndexJobFault → Type 0
IsIndexJobCount files before after job (told.Table path why) = IsTableCount files before after job.table.now why
IsIndexJobCount files before after job told.NoMemory = IsLookedFor files before after job.table.now
IsIndexJobCount files before after job fault = after ≡ before

-- a file can't be read only where a load has failed since then, or where it is over the limit
pub record IsIndexJobFailure (files : Option (List NamedFile)) (job : IndexJob) (before after : Option ℕ) (fault : IndexJobFault) : Type 0 where
  pub why : IsWhyNoIndex files (IsNotHad files before after) job fault
  pub count : IsIndexJobCount files before after job fault

-- ---- live days in the folders of its files

-- no day is open in the folder of the table, nor in that of the file of memos that is given
pub record HasNoIndexDay (answers : FileAnswers) (job : IndexJob) : Type 0 where
  pub table : IsClosedBeside answers job.table.now
  pub memos : IfSome (option_copied job.memos) (IsClosedBeside answers)

-- or a day is open in one of them
abbrev pub IsIndexDay : FileAnswers → IndexJob → Bool → Type 0
IsIndexDay answers job true = IsOpenBeside answers job.table.now ⊎ HasOpenMemos answers (option_copied job.memos)
IsIndexDay answers job false = HasNoIndexDay answers job

-- ---- what is told

-- what is told of a file that is not written
abbrev pub index_of_writing : FilesFault → IndexJobFault
index_of_writing files.Write = told.Write
index_of_writing files.NoMemory = told.NoMemory

-- the folder has not taken the file
abbrev pub is_index_write_fault : IndexJobFault → Bool
is_index_write_fault told.Write = true
is_index_write_fault why = false

-- the faults of looking for its name
abbrev pub index_look : LookFaults IndexJobFault
index_look = record { exists = told.Exists; unread = told.Unread }

-- why a job's index is not in the folder of a path, where this says whether its file may be replaced
abbrev pub IsUnindexedInto : Option (List NamedFile) → IndexJob → Bool → Failure IndexJobFault → Type 0
IsUnindexedInto files job replace why =
    IsUnplacedInto index_look told.NoMemory (IsWhyNoIndex files (λ _. Unit {0}) job) (ComesToItsEnd (λ made (report : Made). IsMadeIndex files job made))
    replace why
