use Rattle.audit_program.proofs.AskingLaws.{for_open_day}
use Rattle.audit_program.proofs.running.run_options.Goals as goal

pub returns-in-Some-clause-open_day : goal.returns-in-Some-clause-open_day
returns-in-Some-clause-open_day g c told =
    for_open_day g.Y.Disk.Disk.meaning (g.Y.System.opens c.args.system.now) (g.Y.Beside.answers c.args.system.now) (g.S.Source.files c.args.source.now)
    c.args.options c.in-Some.written c.in-Some.is (c.run_into.ensures.open_day told)
