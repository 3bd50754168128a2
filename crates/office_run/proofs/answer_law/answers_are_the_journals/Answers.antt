use Rattle.std.proofs.Common.{true, refl, Contains}
use Rattle.office_run.proofs.AnswerLaws.{all_answered, all_contained, entries_told}
use Rattle.office_run.proofs.answer_law.answers_are_the_journals.Goals as goal

pub returns-clause-answers : goal.returns-clause-answers
returns-clause-answers c files setup reindex today journal written counts served =
    all_answered files setup reindex today journal written counts served (Contains written) (all_contained written)

pub returns-clause-entries : goal.returns-clause-entries
returns-clause-entries c files setup reindex today written counts served =
    entries_told files setup reindex today true written counts served (Contains written) (all_contained written) refl
