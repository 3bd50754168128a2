use Rattle.setup_check.proofs.DayLaws.{found_log}
use Rattle.setup_check.proofs.open_days.look_at_log.Goals as goal

pub returns-in-Ok-clause-found : goal.returns-in-Ok-clause-found
returns-in-Ok-clause-found g c =
    found_log c.find_day.result (g.S.Source.files c.args.source.now) c.args.path.now c.in-Ok.log c.as_slice.result.now (g.S.Source.failures c.args.source.now)
    (g.S.Source.failures c.load.new.self) c.in-Ok.ensures.found c.as_slice.ensures.value c.in-Ok.ensures.no_failure c.find_day.ensures.found
