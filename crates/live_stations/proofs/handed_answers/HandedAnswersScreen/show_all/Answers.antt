use Rattle.std.proofs.Common.{◌∙◌}
use Rattle.live_stations.proofs.HandedLaws.{on_err, shows_front}
use Rattle.live_stations.proofs.handed_answers.HandedAnswersScreen.show_all.Goals as goal

pub returns-in_err-show_waiting-clause-unshown : goal.returns-in_err-show_waiting-clause-unshown
returns-in_err-show_waiting-clause-unshown g c =
    on_err _ (shows_front g.D.Disk.meaning c.args.day.now c.args.answers.now c.loop-answer.answer-index c.args.self.now.shown c.show_waiting.new.self.shown (c.in_err-show_waiting.ensures.unshown ∙ c.loop-answer.invariant))
