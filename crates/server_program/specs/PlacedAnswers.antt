-- What each station was answered, in the folder of a run.
use Rattle.std.specs.Prelude.{◌≡◌, ℕ, Bool, List, Option, Some}
use Rattle.dbf_fields.specs.declared.day.Day.{Day}
use Rattle.files_in_place.specs.Folder.{Folder}
use Rattle.folders.specs.declared.named.NamedFile.{NamedFile}
use Rattle.office_run.specs.AnswerFiles.{AllHaveAnswers, HasEntries}
use Rattle.office_run.specs.declared.counts.CommandCounts.{CommandCounts}
use Rattle.office_run.specs.Served.{IsServed}

-- the folder has the file
abbrev pub HasFile : Folder → NamedFile → Type 0
HasFile folder file = folder file.name ≡ Some file.bytes

-- the folder has the answers of each station of this run
abbrev pub HasAnswersOf : {files : Option (List NamedFile)} {setup : List ℕ} {reindex : Bool} {today : Day} {journal : Bool}
    {written : List NamedFile} {counts : CommandCounts} → Folder → IsServed files setup reindex today journal written counts → Type 0
HasAnswersOf folder served = AllHaveAnswers (HasFile folder) served.run.history served.run.read.scripts

-- the folder has, in the journal's file of this run, the entries that were answered so
abbrev pub HasJournalOf : {files : Option (List NamedFile)} {setup : List ℕ} {reindex : Bool} {today : Day} {journal : Bool}
    {written : List NamedFile} {counts : CommandCounts} → Folder → IsServed files setup reindex today journal written counts → Type 0
HasJournalOf folder served = HasEntries (HasFile folder) served.run.history.journal
