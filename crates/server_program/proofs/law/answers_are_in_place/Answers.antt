use Rattle.server_program.proofs.PlacedAnswers.{answers_placed, journal_placed}
use Rattle.server_program.proofs.law.answers_are_in_place.Goals as goal

pub returns-clause-answers : goal.returns-clause-answers
returns-clause-answers g c promised system files words served asked =
    let put = asked.put.put promised in
    answers_placed files asked.options.setup.now asked.options.reindex asked.options.today asked.options.journal put.put.files served.counts put.put.such _ (g.Y.Disk.Disk.meaning.seen asked.put.end) put.placed

pub returns-clause-entries : goal.returns-clause-entries
returns-clause-entries g c promised system files words served asked is =
    let put = asked.put.put promised in
    journal_placed files asked.options.setup.now asked.options.reindex asked.options.today asked.options.journal put.put.files served.counts put.put.such _ (g.Y.Disk.Disk.meaning.seen asked.put.end) put.placed is
