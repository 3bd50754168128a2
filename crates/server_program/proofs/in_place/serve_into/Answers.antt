use Rattle.std.proofs.Common.{List}
use Rattle.folders.specs.declared.named.NamedFile.{NamedFile}
use Rattle.program_frame.proofs.BesideDay.{asked_day, put_without_day, told_not_open}
use Rattle.server_program.specs.Program.{IsServedBy}
use Rattle.server_program.proofs.Serving.{place_unserved}
use Rattle.server_program.proofs.in_place.serve_into.Goals as goal

pub returns-in-Some-clause-served : goal.returns-in-Some-clause-served
returns-in-Some-clause-served g c =
    put_without_day g.Y.Disk.Disk.meaning (g.Y.Beside.answers c.args.job.now.system.now)
    (g.Y.System.opens c.args.job.now.system.now c.args.job.now.options.out.now)
    (λ served (files : List NamedFile). IsServedBy (g.S.Source.files c.args.source.now) c.args.job.now.options files served)
    _ c.in-Some.disk c.serve_in_place.result.disk c.serve_in_place.result.ended (rw c.in-Some.is at c.in_ok-disk.ensures.opened)
    c.serve_in_place.ensures.refused c.serve_in_place.ensures.unmarked c.serve_in_place.ensures.ends.placed

pub returns-in-Some-clause-fault : goal.returns-in-Some-clause-fault
returns-in-Some-clause-fault g c =
    place_unserved (g.S.Source.files c.args.source.now) c.args.job.now.options c.serve_in_place.result.ended c.serve_in_place.ensures.fault

pub returns-in-Some-clause-open_day : goal.returns-in-Some-clause-open_day
returns-in-Some-clause-open_day g c told =
    asked_day g.Y.Disk.Disk.meaning (g.Y.Beside.answers c.args.job.now.system.now) (g.Y.System.opens c.args.job.now.system.now c.args.job.now.options.out.now) _
    c.in-Some.disk c.serve_in_place.result.disk (rw c.in-Some.is at c.in_ok-disk.ensures.opened) (c.serve_in_place.ensures.open_day told)

pub returns-in_err-disk-clause-open_day : goal.returns-in_err-disk-clause-open_day
returns-in_err-disk-clause-open_day g c told = absurd (told_not_open _ _ _ c.in_err-disk.ensures.fault c.from_residual.ensures.1 told)
