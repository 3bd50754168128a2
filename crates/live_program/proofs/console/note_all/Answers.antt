use Rattle.live_program.proofs.ConsoleLaws.{noted_next}
use Rattle.live_program.proofs.console.note_all.Goals as goal

pub loop-answer-preserved : goal.loop-answer-preserved
loop-answer-preserved g c =
    noted_next g.D.Disk.meaning c.args.day.now c.args.answers.now c.loop-answer.answer-index c.answer-item.result c.args.shown.now c.loop-answer.shown c.push.new.self c.loop-answer-test.true c.answer-item.is
    c.push.ensures.value c.loop-answer.invariant
