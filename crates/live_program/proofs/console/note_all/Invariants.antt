use Rattle.std.proofs.Common.{◌≡◌, ◌++◌, map, take}
use Rattle.live_day.specs.Waiting.{all_shown_after}
use Rattle.live_program.specs.Consoles.{shown_of_numbers}
use Rattle.live_program.proofs.console.note_all.Given as goal

abbrev pub invariant-loop-answer : goal.invariant-loop-answer
invariant-loop-answer g l =
    map shown_of_numbers l.shown ≡ map shown_of_numbers l.initial.shown ++ all_shown_after g.D.Disk.meaning l.day (take l.answer-index l.answers)
