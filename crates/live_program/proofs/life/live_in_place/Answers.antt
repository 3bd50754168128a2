use Rattle.std.proofs.Common.{◌∙◌, inl, inr, refl}
use Rattle.live_program.proofs.OtherDayLaws.{unended_not_open, work_not_open}
use Rattle.live_program.proofs.FailureLaws.{err_is, recovered_told, unended_begun}
use Rattle.live_program.proofs.LifeLaws.{begun_life, err_by, ok_always, ok_never, told_since, unbegun_life, unrecovered_life}
use Rattle.live_program.proofs.life.live_in_place.Goals as goal

pub returns-in-Err-clause-life : goal.returns-in-Err-clause-life
returns-in-Err-clause-life g c promised =
    unrecovered_life g.D.Disk.meaning _ _ _ (g.S.Source.files c.args.source.now) c.args.options.now _ c.args.disk c.in-Err.refused.disk c.in-Err.refused.ended c.in-Err.ensures.refused (c.in-Err.ensures.old_files promised)

pub returns-in-Ok-begin_day-clause-life : goal.returns-in-Ok-begin_day-clause-life
returns-in-Ok-begin_day-clause-life g c promised =
    begun_life g.D.Disk.meaning promised c.args.disk c.in-Ok.alone.disk (c.in-Ok.ensures.recovered promised) (g.S.Source.files c.args.source.now) c.args.options.now c.in-Ok-begin_day.begun.day c.in-Ok-begin_day.begun.earlier (rw c.begin_alone.ensures.kept at (c.in-Ok-begin_day.ensures.found promised)) (c.in-Ok-begin_day.ensures.clean promised)
    (c.in-Ok-begin_day.ensures.others promised) (c.in-Ok-begin_day.ensures.any_moment promised) _ _ _ _ _ c.live_day-lived.result.disk c.live_day-lived.result.ended (c.live_day-lived.ensures.ends promised)

pub returns-clause-life : goal.returns-clause-life
returns-clause-life g c promised =
    unbegun_life g.D.Disk.meaning promised c.args.disk c.in-Ok.alone.disk (c.in-Ok.ensures.recovered promised) _ _ (g.S.Source.files c.args.source.now) c.args.options.now _ c.in-Err-begin_day.unbegun.disk c.in-Err-begin_day.unbegun.ended
    c.in-Err-begin_day.ensures.refused (rw c.begin_alone.ensures.kept at (c.in-Err-begin_day.ensures.unbegun promised))

pub returns-in-Err-clause-read : goal.returns-in-Err-clause-read
returns-in-Err-clause-read g c = ok_never c.in-Err.refused.ended _ c.in-Err.ensures.refused

pub returns-in-Err-clause-fault : goal.returns-in-Err-clause-fault
returns-in-Err-clause-fault g c = err_by c.in-Err.refused.ended _ _ (λ why is. elim is [ inl folder ↦ inl folder | inr other ↦ inr (inl other) ]) c.in-Err.ensures.unbegun

pub returns-in-Ok-begin_day-clause-fault : goal.returns-in-Ok-begin_day-clause-fault
returns-in-Ok-begin_day-clause-fault g c =
    err_by c.live_day-lived.result.ended _ _ (λ why is. inr (inr (inr (c.in-Ok-begin_day.begun.day.history.opened, rw c.begin_alone.ensures.kept at c.in-Ok-begin_day.ensures.tables, is)))) c.live_day-lived.ensures.fault

pub returns-clause-fault : goal.returns-clause-fault
returns-clause-fault g c =
    let why = rw c.begin_alone.ensures.kept at c.in-Err-begin_day.ensures.fault in
    err_is c.in-Err-begin_day.unbegun.ended _ _ why.2
    (inr (inr (inl (why.0, recovered_told g.D.Disk.meaning c.args.disk c.in-Ok.alone.disk (g.S.Source.files c.args.source.now) c.args.options.now why.0 c.in-Ok.ensures.recovered why.1, refl))))

pub returns-in-Ok-begin_day-clause-unsaid : goal.returns-in-Ok-begin_day-clause-unsaid
returns-in-Ok-begin_day-clause-unsaid g c why of_start ended = absurd (unended_begun _ c.in-Ok-begin_day.begun.day.history.opened c.args.options.now.today c.live_day-lived.result.ended why of_start ended c.live_day-lived.ensures.fault)

pub returns-clause-unsaid : goal.returns-clause-unsaid
returns-clause-unsaid g c why of_start ended = rw c.begin_alone.ensures.kept at c.in-Err-begin_day.ensures.unsaid

pub returns-in-Ok-begin_day-clause-told : goal.returns-in-Ok-begin_day-clause-told
returns-in-Ok-begin_day-clause-told g c promised =
    told_since g.D.Disk.meaning promised c.args.disk c.in-Ok.alone.disk (c.in-Ok.ensures.recovered promised) (g.S.Source.files c.args.source.now) c.args.options.now _ _ (rw c.begin_alone.ensures.kept at (c.begin_day.ensures.told promised))

pub returns-clause-told : goal.returns-clause-told
returns-clause-told g c promised =
    told_since g.D.Disk.meaning promised c.args.disk c.in-Ok.alone.disk (c.in-Ok.ensures.recovered promised) (g.S.Source.files c.args.source.now) c.args.options.now _ _ (rw c.begin_alone.ensures.kept at (c.begin_day.ensures.told promised))

pub returns-in-Ok-begin_day-clause-kept : goal.returns-in-Ok-begin_day-clause-kept
returns-in-Ok-begin_day-clause-kept g c = c.begin_day.ensures.kept ∙ c.begin_alone.ensures.kept

pub returns-in-Ok-begin_day-clause-said : goal.returns-in-Ok-begin_day-clause-said
returns-in-Ok-begin_day-clause-said g c = rw c.begin_alone.ensures.kept at c.begin_day.ensures.said

pub returns-in-Ok-begin_day-clause-open_day : goal.returns-in-Ok-begin_day-clause-open_day
returns-in-Ok-begin_day-clause-open_day g c told =
    absurd (unended_not_open _ c.in-Ok-begin_day.begun.day.history.opened c.args.options.now.today c.live_day-lived.result.ended c.live_day-lived.ensures.fault told)

pub returns-in-Ok-begin_day-clause-others : goal.returns-in-Ok-begin_day-clause-others
returns-in-Ok-begin_day-clause-others g c = ok_always c.live_day-lived.result.ended _ c.in-Ok.ensures.closed

pub returns-in-Err-clause-others : goal.returns-in-Err-clause-others
returns-in-Err-clause-others g c = ok_never c.in-Err.refused.ended _ c.in-Err.ensures.refused

-- what was shown: nothing where the day was not begun, and else all marks were put
pub returns-in-Ok-begin_day-clause-marked : goal.returns-in-Ok-begin_day-clause-marked
returns-in-Ok-begin_day-clause-marked g c = inr c.in-Ok.ensures.marked

pub returns-in-Ok-begin_day-clause-marks : goal.returns-in-Ok-begin_day-clause-marks
returns-in-Ok-begin_day-clause-marks g c = ok_always c.live_day-lived.result.ended _ c.in-Ok.ensures.marked

pub returns-in-Err-clause-marked : goal.returns-in-Err-clause-marked
returns-in-Err-clause-marked g c = inl refl

pub returns-in-Err-clause-marks : goal.returns-in-Err-clause-marks
returns-in-Err-clause-marks g c = ok_never c.in-Err.refused.ended _ c.in-Err.ensures.refused
