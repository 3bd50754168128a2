-- The answers of a run in its folder.
use Rattle.std.proofs.Common.{◌≡◌, ℕ, Bool, true, List, Option}
use Rattle.dbf_fields.specs.declared.day.Day.{Day}
use Rattle.files_in_place.specs.Folder.{Folder}
use Rattle.folders.specs.declared.named.NamedFile.{NamedFile}
use Rattle.program_frame.specs.Placing.{HasFiles}
use Rattle.office_run.proofs.AnswerLaws.{all_answered, entries_told}
use Rattle.office_run.specs.declared.counts.CommandCounts.{CommandCounts}
use Rattle.office_run.specs.Served.{IsServed}
use Rattle.server_program.specs.PlacedAnswers.{HasAnswersOf, HasFile, HasJournalOf}

module _ (files : Option (List NamedFile)) (setup : List ℕ) (reindex : Bool) (today : Day) (journal : Bool) (written : List NamedFile) (counts : CommandCounts) (served : IsServed files setup reindex today journal written counts)
    (old new : Folder) (placed : HasFiles written old new) where
  pub answers_placed : HasAnswersOf new served
  answers_placed = all_answered files setup reindex today journal written counts served (HasFile new) placed.there

  pub journal_placed : journal ≡ true → HasJournalOf new served
  journal_placed is = entries_told files setup reindex today journal written counts served (HasFile new) placed.there is
