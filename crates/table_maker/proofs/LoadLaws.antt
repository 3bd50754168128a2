-- Why the records of a text of CSV are not loaded.
use Rattle.std.proofs.Common.{◌≡◌, ◌≢◌, ℕ, Bool, true, false, List, [], ◌∷◌, Some, None, inl, refl, ap, sym, ◌∙◌}
use Rattle.std.specs.Borrow.{Bor}
use Rattle.std.specs.Prelude.{Option, Result, Ok, Err, IfSome, OnOk, not, option_copied}
use Rattle.dbf_fields.specs.Faults.{first_fault}
use Rattle.dbf_image.specs.Table.{Table}
use Rattle.folders.specs.declared.named.NamedFile.{NamedFile}
use Rattle.folders.specs.declared.source.LoadFault.{LoadFault}
use Rattle.folders.specs.declared.source.LoadFault.TheVariants.{CannotRead, NoMemory, Unrecovered}
use Rattle.folders.specs.Files.{has_list_beside, is_unreadable, load_refusal, IsFileOf, IsUnrecovered}
use Rattle.folders.specs.Paths.{is_reserved_path}
use Rattle.folders.specs.Placed.{IsListedAfter}
use Rattle.program_frame.specs.InputDays.{FileAnswers, IsClosedBeside}
use Rattle.table_reader.specs.Memos.{memo_path, IsLookedFor, IsMemosFault, IsNotHad, IsWhyUnread}
use Rattle.table_reader.specs.TableFiles.{is_table_no_memory, IsTableAt, IsTableCount, IsTableReadFault}
use Rattle.table_reader.specs.declared.fault.TableReadFault.{TableReadFault}
use Rattle.table_reader.specs.declared.fault.TableReadFault.TheVariants.{Load, Memos, NoTable}
use Rattle.table_maker.specs.declared.files.FilesFault.{FilesFault}
use Rattle.table_maker.specs.declared.files.FilesFault.TheVariants as writing
use Rattle.table_maker.specs.declared.load_fault.LoadJobFault.{LoadJobFault}
use Rattle.table_maker.specs.declared.load_fault.LoadJobFault.TheVariants as told
use Rattle.table_maker.specs.declared.load_job.LoadJob.{LoadJob}
use Rattle.table_maker.specs.LoadedTable.{csv_told, loaded_of_writing, IsLoadJobCount, IsLoadJobFailure, IsLoadDay, IsLoadJobFault, IsUnloadedText, IsWhyNotLoaded}

-- ---- what is true whether it is known that a path was not had or not

module _ (files : Option (List NamedFile)) (unread : List ℕ → Type 0) where
  abbrev pub any : List ℕ → Type 0
  any path = Unit {0}

  any_load : (path : List ℕ) (why : LoadFault) → IsWhyUnread files unread path why → IsWhyUnread files any path why
  any_load path NoMemory h = tt
  any_load path CannotRead h = tt
  any_load path Unrecovered h = h

  any_memos : (table : List ℕ) (given : Option (List ℕ)) (why : LoadFault) → IsMemosFault files unread table given why → IsMemosFault files any table given why
  any_memos table (Some path) why h = (h.0, any_load path why h.1)
  any_memos table None NoMemory h = tt
  any_memos table None CannotRead h = h
  any_memos table None Unrecovered h = h

  any_path : (path : Option (List ℕ)) → IfSome path unread → IfSome path any
  any_path None h = h
  any_path (Some path) h = tt

  pub any_table : (path : List ℕ) (memos : Option (List ℕ)) (why : TableReadFault) → IsTableReadFault files unread path memos why
      → IsTableReadFault files any path memos why
  any_table path memos (Load why) h = any_load path why h
  any_table path memos (Memos why) h = any_memos path memos why h
  any_table path memos (NoTable why) h = record {
    dbf = h.dbf;
    dbt = h.dbt;
    table_file = h.table_file;
    memo_file = h.memo_file;
    missing = λ given wants none. any_path (memo_path path) (h.missing given wants none);
    refused = h.refused;
  }

  any_job : (job : LoadJob) (fault : LoadJobFault) → IsLoadJobFault files unread job fault → IsLoadJobFault files any job fault
  any_job job (told.Csv path why) h = (h.0, h.1, any_load _ why h.2)
  any_job job (told.Old path why) h = (h.0, h.1, any_table _ _ why h.2)
  any_job job (told.Text path why) h = h
  any_job job told.Write h = h
  any_job job told.Exists h = h
  any_job job told.Unread h = h
  any_job job told.NoMemory h = h

  any_why : (job : LoadJob) (fault : LoadJobFault) → IsWhyNotLoaded files unread job fault → IsWhyNotLoaded files any job fault
  any_why job fault h = record { early = h.early; why = any_job job fault h.why }

pub failure_why : (files : Option (List NamedFile)) (before after : Option ℕ) (job : LoadJob) (fault : LoadJobFault) → IsLoadJobFailure files job before after fault
    → IsWhyNotLoaded files (λ path. Unit {0}) job fault
failure_why files before after job fault h = any_why files (IsNotHad files before after) job fault h.why

-- ---- a load that can't give a file is no want of memory

never_of : (a b c : Bool) → first_fault ((a, CannotRead) ∷ (b, Unrecovered) ∷ (c, CannotRead) ∷ []) ≢ Some NoMemory
never_of false b c e = cc
never_of true false c e = cc
never_of true true false e = cc
never_of true true true e = cc

pub never_memory : (files : Option (List NamedFile)) (path : List ℕ) → load_refusal files path ≢ Some NoMemory
never_memory files path = never_of (not (is_reserved_path path)) (not (has_list_beside files path)) (not (is_unreadable files path))

-- ---- why the text of CSV is not had

module _ (files : Option (List NamedFile)) (before after : Option ℕ) (job : LoadJob) where
  pub csv_failure : (path : Bor (List ℕ)) (why : LoadFault) → path.now ≡ job.csv.now → ((first : LoadFault) → load_refusal files job.csv.now ≡ Some first → why ≡ first)
      → (why ≡ CannotRead → IsNotHad files before after job.csv.now) → (why ≡ Unrecovered → IsUnrecovered files job.csv.now) → (why ≡ Unrecovered → after ≡ before) → (why ≡ NoMemory → after ≡ before)
      → IsLoadJobFailure files job before after (csv_told path why)
  csv_failure path NoMemory at first unread unrecovered seen memory = record {
    why = record { early = λ said refused. absurd (never_memory files job.csv.now (refused ∙ ap (λ (f : LoadFault). Some f) (sym (first said refused)))); why = tt };
    count = inl (memory refl);
  }
  csv_failure path CannotRead at first unread unrecovered seen memory = record { why = record { early = first; why = (at, refl, unread refl) }; count = tt }
  csv_failure path Unrecovered at first unread unrecovered seen memory = record { why = record { early = first; why = (at, refl, unrecovered refl) }; count = seen refl }

  -- ---- after it was had

  pub old_failure : (fault : LoadJobFault) → ((why : LoadFault) → load_refusal files job.csv.now ≢ Some why) → IsLoadJobFault files (IsNotHad files before after) job fault
      → IsLoadJobCount files before after job fault → IsLoadJobFailure files job before after fault
  old_failure fault readable why count = record { why = record { early = λ said refused. absurd (readable said refused); why = why }; count = count }

  pub text_failure : (old : Table) (text : List ℕ) (fault : LoadJobFault) → ((why : LoadFault) → load_refusal files job.csv.now ≢ Some why) → IsFileOf files job.csv.now text
      → IsTableAt files job.table.now (option_copied job.memos) old → after ≡ before → IsUnloadedText job old text fault → IsLoadJobFailure files job before after fault
  text_failure old text (told.Text path why) readable csv_file old_files same h =
      old_failure (told.Text path why) readable (h.0, record { text = text; old = old; csv_file = csv_file; old_files = old_files; refused = h.1; named = h.2 }) same
  text_failure old text told.NoMemory readable csv_file old_files same h = old_failure told.NoMemory readable tt (inl same)
  text_failure old text (told.Csv path why) readable csv_file old_files same h = absurd h
  text_failure old text (told.Old path why) readable csv_file old_files same h = absurd h
  text_failure old text told.Write readable csv_file old_files same h = absurd h
  text_failure old text told.Exists readable csv_file old_files same h = absurd h
  text_failure old text told.Unread readable csv_file old_files same h = absurd h

  pub write_failure : (why : FilesFault) → ((why : LoadFault) → load_refusal files job.csv.now ≢ Some why) → after ≡ before → IsLoadJobFailure files job before after (loaded_of_writing why)
  write_failure writing.Write readable same = old_failure told.Write readable tt same
  write_failure writing.NoMemory readable same = old_failure told.NoMemory readable tt (inl same)

-- a want of memory in reading the old table
pub memory_count : (files : Option (List NamedFile)) (before after : Option ℕ) (path : List ℕ) (why : TableReadFault) → is_table_no_memory why ≡ true → IsTableCount files before after path why
    → IsLookedFor files before after path
memory_count files before after path (Load NoMemory) is h = inl h
memory_count files before after path (Load CannotRead) is h = absurd cc
memory_count files before after path (Load Unrecovered) is h = absurd cc
memory_count files before after path (Memos NoMemory) is h = inl h
memory_count files before after path (Memos CannotRead) is h = absurd cc
memory_count files before after path (Memos Unrecovered) is h = absurd cc
memory_count files before after path (NoTable why) is h = h

-- ---- what is written

pub listed_as : (are more : List NamedFile → Type 0) (old new : Option (List ℕ)) → ((files : List NamedFile) → are files → more files) → IsListedAfter are old new → IsListedAfter more old new
listed_as are more old new then h = record { files = h.files; such = then h.files h.such; written = h.written; bytes = h.bytes; told = h.told; distinct = h.distinct }

-- no day is open in the folders of a job's files
pub no_load_day : {T E : Type 0} (answers : FileAnswers) (job : LoadJob) (result : Result T E) → IsClosedBeside answers job.csv.now
    → IsClosedBeside answers job.table.now → OnOk result (IfSome (option_copied job.memos) (IsClosedBeside answers))
    → OnOk result (IsLoadDay answers job false)
no_load_day answers job (Ok x) csv table memos = record { csv = csv; table = table; memos = memos }
no_load_day answers job (Err y) csv table memos = tt
