use Rattle.std.proofs.Common.{inl, inr, refl, Err}
use Rattle.program_frame.proofs.BesideDay.{input_tells, told_so, unmarked_load, unmarked_stopped, work_stopped}
use Rattle.program_frame.proofs.EndLaws.{unbegun_load, unbegun_stopped}
use Rattle.program_frame.proofs.PlacingLaws.{recovering_old}
use Rattle.program_frame.proofs.begin.begin_work.Goals as goal

pub returns-in-Err-clause-refused : goal.returns-in-Err-clause-refused
returns-in-Err-clause-refused g c =
    unmarked_stopped (g.B.Beside.answers c.args.system.now) _ (g.J.Job.fails c.args.job.now (g.S.Source.files c.args.source.now)) c.in-Err.refused.ended (λ why unbegun. unbegun_stopped {R = Unit {0}} _ (g.J.Job.fails c.args.job.now (g.S.Source.files c.args.source.now)) (Err why) unbegun) c.in-Err.ensures.refused

pub returns-in-Err-clause-open_day : goal.returns-in-Err-clause-open_day
returns-in-Err-clause-open_day g c told = elim (c.in-Err.ensures.open_day told) [ inl here ↦ inl here | inr marked ↦ inr (inl marked) ]

pub returns-in-Err-clause-failure : goal.returns-in-Err-clause-failure
returns-in-Err-clause-failure g c =
    unmarked_load (g.B.Beside.answers c.args.system.now) _
    (g.J.Job.loads c.args.job.now (g.S.Source.files c.args.source.now) (g.S.Source.failures c.args.source.now) (g.S.Source.failures c.args.source.now))
    _ c.in-Err.refused.ended (λ why unbegun. unbegun_load {R = Unit {0}} _
    (g.J.Job.loads c.args.job.now (g.S.Source.files c.args.source.now) (g.S.Source.failures c.args.source.now) (g.S.Source.failures c.args.source.now)) _ (Err why) unbegun refl) c.in-Err.ensures.refused refl

pub returns-in-Err-refuse_open_day-clause-refused : goal.returns-in-Err-refuse_open_day-clause-refused
returns-in-Err-refuse_open_day-clause-refused g c =
    work_stopped _ (g.B.Beside.answers c.args.system.now) (g.J.Job.fails c.args.job.now (g.S.Source.files c.args.source.now)) c.in-Err-refuse_open_day.why c.in-Err-refuse_open_day.ensures.refused

pub returns-in-Err-refuse_open_day-clause-old_files : goal.returns-in-Err-refuse_open_day-clause-old_files
returns-in-Err-refuse_open_day-clause-old_files g c promised = recovering_old g.D.Disk.meaning _ _ (c.in-Ok.ensures.recovered promised).moments

pub returns-in-Err-refuse_open_day-clause-tells : goal.returns-in-Err-refuse_open_day-clause-tells
returns-in-Err-refuse_open_day-clause-tells g c =
    input_tells g.D.Disk.meaning c.args.disk c.in-Ok.disk (g.B.Beside.answers c.args.system.now) (g.J.Job.fails c.args.job.now (g.S.Source.files c.args.source.now)) _ c.in-Err-refuse_open_day.why c.in-Err-refuse_open_day.ensures.refused c.in-Ok.ensures.recovered

pub returns-in-Err-refuse_open_day-clause-open_day : goal.returns-in-Err-refuse_open_day-clause-open_day
returns-in-Err-refuse_open_day-clause-open_day g c told = inr (inr (c.refuse_open_day.ensures.open (told_so _ _ _ c.in-Err-refuse_open_day.is told), c.in-Ok.ensures.recovered))
