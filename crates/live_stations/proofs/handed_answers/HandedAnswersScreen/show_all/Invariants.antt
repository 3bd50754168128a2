use Rattle.std.proofs.Common.{◌≡◌, ◌++◌, take}
use Rattle.live_day.specs.Waiting.{all_shown_after}
use Rattle.live_stations.proofs.handed_answers.HandedAnswersScreen.show_all.Given as goal

abbrev pub invariant-loop-answer : goal.invariant-loop-answer
invariant-loop-answer g l = l.self.shown ≡ l.initial.self.shown ++ all_shown_after g.D.Disk.meaning l.day (take l.answer-index l.answers)
