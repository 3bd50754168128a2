-- A whole run that is asked for, with its journal or without, by its parts.
use Rattle.std.proofs.Common.{◌≡◌, ◌≤◌, length, ℕ, Bool, true, false, List, [], Option, Some, None, ap, subst, refl, inl, inr}
use Rattle.std.specs.List.{AllByRecursion, IsDistinct}
use Rattle.std.specs.Prelude.{bytes_eq}
use Rattle.dbf_fields.specs.declared.day.Day.{Day}
use Rattle.byte_io.specs.Sink.{grown}
use Rattle.catalogue_core.specs.declared.entry.Entry.{Entry}
use Rattle.office_run.specs.declared.close_fault.CloseFault.TheVariants.{Write}
use Rattle.office_run.specs.declared.closed.ClosedTable.{ClosedTable}
use Rattle.folders.specs.declared.named.NamedFile.{NamedFile}
use Rattle.office_run.specs.Closing.{first_blocked, run_files}
use Rattle.folders.specs.Files.{IsOfBytes, listing}
use Rattle.folders.specs.Placed.{names_of, IsListedAfter}
use Rattle.folders.specs.declared.source.TheConstants.{MAX_FILE_BYTES}
use Rattle.folders.proofs.ListingLaws.{files_again}
use Rattle.journal_file.specs.declared.sum.FileSum.{FileSum}
use Rattle.journal_file.specs.WholeText.{CanBeTold}
use Rattle.office_run.specs.declared.asked.Asked.{Asked}
use Rattle.office_run.specs.declared.counts.CommandCounts.{CommandCounts}
use Rattle.office_run.specs.declared.fault.ServeFault.{ServeFault}
use Rattle.office_run.specs.declared.fault.ServeFault.TheVariants.{Close, NoMemory}
use Rattle.office_run.specs.Counts.{AreRefusedIn}
use Rattle.office_run.specs.FileSums.{AreAllNoted}
use Rattle.office_run.specs.JournalFile.{journal_name, run_text, told_run, IsJournalText}
use Rattle.office_run.specs.Served.{asked_files, files_to_write, IsServed, IsUnwrittenAt, IsCutFiles, IsCutRunAt, IsCutRun}
use Rattle.office_run.specs.WholeRun.{IsWholeRun}
use Rattle.office_run.proofs.RunNames.{run_names_differ, run_names_differ_with_journal}

asked_names_differ : (files : Option (List NamedFile)) (setup : List ℕ) (reindex : Bool) (tables : List ClosedTable) (answers : List (List ℕ)) (count : ℕ) (run : IsWholeRun files setup reindex tables answers count)
    (today : Day) (text : List ℕ) (journal : Bool) → IsDistinct bytes_eq (names_of (asked_files journal today tables answers text))
asked_names_differ files setup reindex tables answers count run today text true = run_names_differ_with_journal files setup reindex tables answers count run today text
asked_names_differ files setup reindex tables answers count run today text false = run_names_differ files setup reindex tables answers count run today

-- where the journal is asked for, what was noted and performed is its text
module _ (files : Option (List NamedFile)) (asked : Asked) (tables : List ClosedTable) (answers : List (List ℕ)) (count : ℕ) (entries : List Entry) (read : List FileSum) (old new : Option (List ℕ))
    (run : IsWholeRun files asked.setup.now asked.reindex tables answers count) (noted : asked.journal ≡ true → AreAllNoted files asked.setup.now (Some []) (Some read)) (same : asked.journal ≡ true → entries ≡ run.history.journal) where
  abbrev plain : List NamedFile
  plain = run_files asked.today tables answers

  abbrev text : List ℕ
  text = run_text read asked.reindex entries plain

  abbrev pub told_text : asked.journal ≡ true → IsJournalText files asked.setup.now asked.reindex run.history.journal plain text
  told_text is = record { read = read; noted = noted is; text_is = ap (λ (es : List Entry). run_text read asked.reindex es plain) (same is) }

  cut_at : (name : List ℕ) → IsUnwrittenAt asked.journal name (files_to_write asked tables answers entries read) old new → IsCutRunAt files asked.setup.now asked.reindex asked.today asked.journal old new name
  cut_at name cut = record { tables = tables; answers = answers; count = count; run = run; text = text; told_text = told_text; cut = cut }

  -- the run of which a file could not be written
  pub cut_run : (fault : ServeFault) → IsCutFiles asked.journal (files_to_write asked tables answers entries read) old new fault
      → IsCutRun files asked.setup.now asked.reindex asked.today asked.journal old new fault
  cut_run (Close (Write name)) cut = cut_at name cut
  cut_run NoMemory (inl same_folder) = inl same_folder
  cut_run NoMemory (inr cut) = inr (cut.0, cut_at journal_name (inl cut.1))
  cut_run fault cut = tt

-- the run whose files were written
pub served : (files : Option (List NamedFile)) (asked : Asked) (tables : List ClosedTable) (answers : List (List ℕ)) (counts : CommandCounts) (entries : List Entry) (read : List FileSum) (old new : Option (List ℕ))
    (run : IsWholeRun files asked.setup.now asked.reindex tables answers counts.all) → (asked.journal ≡ true → AreAllNoted files asked.setup.now (Some []) (Some read)) → (asked.journal ≡ true → entries ≡ run.history.journal)
    → AreRefusedIn run.history counts → first_blocked 1 tables ≡ None → (asked.journal ≡ true → CanBeTold (told_run read asked.reindex entries (run_files asked.today tables answers)))
    → (asked.journal ≡ true → length (run_text read asked.reindex entries (run_files asked.today tables answers)) ≤ MAX_FILE_BYTES)
    → new ≡ grown old (listing (files_to_write asked tables answers entries read)) → AllByRecursion IsOfBytes (files_to_write asked tables answers entries read)
    → IsListedAfter (λ written. IsServed files asked.setup.now asked.reindex asked.today asked.journal written counts) old new
served files asked tables answers counts entries read old new run noted same refused few_blocks told readable written bytes =
    let plain : List NamedFile = run_files asked.today tables answers in
    let text : List ℕ = run_text read asked.reindex entries plain in
    let wrote : List NamedFile = files_to_write asked tables answers entries read in
    record {
      files = wrote;
      such = record {
        tables = tables;
        answers = answers;
        run = run;
        refused = refused;
        few_blocks = few_blocks;
        text = text;
        told_text = λ is. (
          told_text files asked tables answers counts.all entries read old new run noted same is,
          subst (λ (es : List Entry). CanBeTold (told_run read asked.reindex es plain)) (same is) (told is),
          readable is,
        );
        written_is = refl;
      };
      written = written;
      bytes = bytes;
      told = files_again wrote bytes;
      distinct = asked_names_differ files asked.setup.now asked.reindex tables answers counts.all run asked.today text asked.journal;
    }
