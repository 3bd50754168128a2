use Rattle.std.proofs.Common.{List}
use Rattle.folders.specs.declared.named.NamedFile.{NamedFile}
use Rattle.program_frame.proofs.BesideDay.{asked_day, put_without_day, told_not_open}
use Rattle.program_frame.proofs.system.run_into.Goals as goal

pub returns-in-Some-clause-placed : goal.returns-in-Some-clause-placed
returns-in-Some-clause-placed g c =
    put_without_day g.Y.Disk.Disk.meaning (g.Y.Beside.answers c.args.system.now) (g.Y.System.opens c.args.system.now c.args.out.now) (λ report (files : List NamedFile). g.J.Job.writes c.args.job.now (g.S.Source.files c.args.source.now) files report) _ c.in-Some.disk
    c.run_in_place.result.disk c.run_in_place.result.ended (rw c.in-Some.is at c.in_ok-disk.ensures.opened) c.run_in_place.ensures.refused c.run_in_place.ensures.unmarked c.run_in_place.ensures.ends.placed

pub returns-in-Some-clause-open_day : goal.returns-in-Some-clause-open_day
returns-in-Some-clause-open_day g c told =
    asked_day g.Y.Disk.Disk.meaning (g.Y.Beside.answers c.args.system.now) (g.Y.System.opens c.args.system.now c.args.out.now) _ c.in-Some.disk c.run_in_place.result.disk (rw c.in-Some.is at c.in_ok-disk.ensures.opened) (c.run_in_place.ensures.open_day told)

pub returns-in_err-disk-clause-open_day : goal.returns-in_err-disk-clause-open_day
returns-in_err-disk-clause-open_day g c told = absurd (told_not_open _ _ _ c.in_err-disk.ensures.fault c.from_residual.ensures.1 told)
