-- The file of an index that is made, and why it is not.
use Rattle.std.proofs.Common.{◌≡◌, ◌≢◌, ◌≤◌, ℕ, true, false, List, [], ◌∷◌, length, Some, inl, refl, subst, arith}
use Rattle.std.specs.List.{IsDistinct}
use Rattle.std.specs.Prelude.{Option, Result, Ok, Err, IfSome, OnOk, option_copied}
use Rattle.byte_io.specs.Sink.{grown}
use Rattle.dbf_image.specs.Table.{IsTable, Table}
use Rattle.folders.specs.declared.named.NamedFile.{NamedFile}
use Rattle.folders.specs.declared.source.LoadFault.{LoadFault}
use Rattle.folders.specs.declared.source.LoadFault.TheVariants.{CannotRead, NoMemory, Unrecovered}
use Rattle.folders.specs.Files.{listing, load_refusal, IsOfBytes}
use Rattle.folders.specs.Placed.{IsListedAfter}
use Rattle.folders.proofs.ListingLaws.{files_again}
use Rattle.key_expr.specs.Grammar.{Expr}
use Rattle.ndx_index.specs.declared.format.TheConstants.{MAX_PAIRS}
use Rattle.program_frame.specs.InputDays.{FileAnswers, IsClosedBeside}
use Rattle.table_order.specs.TableOrder.{order}
use Rattle.table_order.specs.Laws.RecordOrders.{length-order}
use Rattle.table_reader.specs.Memos.{IsNotHad}
use Rattle.table_reader.specs.TableFiles.{is_table_no_memory, IsTableAt}
use Rattle.table_reader.specs.declared.fault.TableReadFault.{TableReadFault}
use Rattle.table_reader.specs.declared.fault.TableReadFault.TheVariants.{Load}
use Rattle.table_maker.specs.declared.files.FilesFault.{FilesFault}
use Rattle.table_maker.specs.declared.files.FilesFault.TheVariants as writing
use Rattle.table_maker.specs.declared.index_fault.IndexJobFault.{IndexJobFault}
use Rattle.table_maker.specs.declared.index_fault.IndexJobFault.TheVariants as told
use Rattle.table_maker.specs.declared.index_job.IndexJob.{IndexJob}
use Rattle.table_maker.specs.MadeIndex.{index_of_writing, IsBadKey, IsIndexDay, IsIndexJobCount, IsIndexJobFailure, IsIndexJobFault, IsWhyNoIndex}
use Rattle.table_maker.proofs.LoadLaws.{any_table, never_memory}

-- ---- the file

-- there are no more pairs than records
pub few_pairs : (table : Table) (e : Expr) → IsTable table → length (order table e) ≤ MAX_PAIRS
few_pairs table e t = omega (arith, length-order table e, t.count_bounded)

-- one file alone
pub listed_alone : (file : NamedFile) (old new : Option (List ℕ)) → new ≡ grown old (listing (file ∷ [])) → IsOfBytes file
    → IsListedAfter (λ made. made ≡ file ∷ []) old new
unfolding IsDistinct
listed_alone file old new written fine = record {
  files = file ∷ [];
  such = refl;
  written = written;
  bytes = (fine, tt);
  told = files_again (file ∷ []) (fine, tt);
  distinct = (tt, tt);
}

-- ---- what is true whether it is known that a path was not had or not

any_job : (files : Option (List NamedFile)) (unread : List ℕ → Type 0) (job : IndexJob) (fault : IndexJobFault) → IsIndexJobFault files unread job fault
    → IsIndexJobFault files (λ path. Unit {0}) job fault
any_job files unread job (told.Table path why) h = (h.0, h.1, any_table files unread _ _ why h.2)
any_job files unread job (told.Key path why) h = h
any_job files unread job told.Write h = h
any_job files unread job told.Exists h = h
any_job files unread job told.Unread h = h
any_job files unread job told.NoMemory h = h

pub index_why : (files : Option (List NamedFile)) (before after : Option ℕ) (job : IndexJob) (fault : IndexJobFault)
    → IsIndexJobFailure files job before after fault
    → IsWhyNoIndex files (λ path. Unit {0}) job fault
index_why files before after job fault h = record { early = h.why.early; why = any_job files (IsNotHad files before after) job fault h.why.why }

-- ---- why the table is not had

-- a load that can't give its file is no want of memory
pub first_is_no_memory : (files : Option (List NamedFile)) (path : List ℕ) (why : TableReadFault) (said : LoadFault) → load_refusal files path ≡ Some said
    → why ≡ Load said
    → is_table_no_memory why ≡ true → ⊥
first_is_no_memory files path why NoMemory refused is none = never_memory files path refused
first_is_no_memory files path why CannotRead refused is none =
    let clash : is_table_no_memory (Load CannotRead) ≡ true = subst (λ (w : TableReadFault). is_table_no_memory w ≡ true) is none in cc
first_is_no_memory files path why Unrecovered refused is none =
    let clash : is_table_no_memory (Load Unrecovered) ≡ true = subst (λ (w : TableReadFault). is_table_no_memory w ≡ true) is none in cc

-- ---- after it was had

module _ (files : Option (List NamedFile)) (before after : Option ℕ) (job : IndexJob) where
  had_failure : (fault : IndexJobFault) → ((why : LoadFault) → load_refusal files job.table.now ≢ Some why)
      → IsIndexJobFault files (IsNotHad files before after) job fault
      → IsIndexJobCount files before after job fault → IsIndexJobFailure files job before after fault
  had_failure fault readable why count = record { why = record { early = λ said refused. absurd (readable said refused); why = why }; count = count }

  pub key_failure : (table : Table) (fault : IndexJobFault) → ((why : LoadFault) → load_refusal files job.table.now ≢ Some why)
      → IsTableAt files job.table.now (option_copied job.memos) table → after ≡ before → IsBadKey job table.schema fault
      → IsIndexJobFailure files job before after fault
  key_failure table (told.Key path why) readable at same h = had_failure (told.Key path why) readable
      (h.0, h.1, record { table = table; table_files = at; refused = h.2 }) same
  key_failure table told.NoMemory readable at same h = had_failure told.NoMemory readable tt (inl same)
  key_failure table (told.Table path why) readable at same h = absurd h
  key_failure table told.Write readable at same h = absurd h
  key_failure table told.Exists readable at same h = absurd h
  key_failure table told.Unread readable at same h = absurd h

  pub index_write_failure : (why : FilesFault) → ((why : LoadFault) → load_refusal files job.table.now ≢ Some why) → after ≡ before
      → IsIndexJobFailure files job before after (index_of_writing why)
  index_write_failure writing.Write readable same = had_failure told.Write readable tt same
  index_write_failure writing.NoMemory readable same = had_failure told.NoMemory readable tt (inl same)

-- no day is open in the folders of a job's files
pub no_index_day : {T E : Type 0} (answers : FileAnswers) (job : IndexJob) (result : Result T E) → IsClosedBeside answers job.table.now
    → OnOk result (IfSome (option_copied job.memos) (IsClosedBeside answers))
    → OnOk result (IsIndexDay answers job false)
no_index_day answers job (Ok x) table memos = record { table = table; memos = memos }
no_index_day answers job (Err y) table memos = tt
