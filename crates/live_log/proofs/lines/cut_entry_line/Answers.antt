use Rattle.live_log.proofs.LineLaws.{line_first}
use Rattle.live_log.proofs.lines.cut_entry_line.Goals as goal

pub returns-clause-found : goal.returns-clause-found
returns-clause-found c =
    let cut = c.in-Some.cut in
    let begins = c.in-Some.ensures.found in
    ((cut.station, cut.command.now, cut.answer.now), begins, line_first (cut.station, cut.command.now, cut.answer.now) c.args.text.now cut.rest.now c.split_at.result.0.now begins.is c.split_at.ensures.front)
