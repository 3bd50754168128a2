use Rattle.std.proofs.Common.{arith, ap, sym, true, Err}
use Rattle.program_frame.proofs.BesideDay.{open_before, reads_recovered, refusal_is, refusal_tells, told_so, unrecovered_not_open, unrecovered_unbegun}
use Rattle.program_frame.proofs.PlacingLaws.{recovering_old}
use Rattle.program_frame.proofs.begin.begin_in_place.Goals as goal

pub returns-in-Ok-refuse_open_day-clause-recovered : goal.returns-in-Ok-refuse_open_day-clause-recovered
returns-in-Ok-refuse_open_day-clause-recovered g c promised =
    reads_recovered g.D.Disk.meaning c.args.disk c.in-Ok.disk c.refuse_open_day.new.disk (c.in-Ok.ensures.recovered promised) c.refuse_open_day.ensures.only

pub returns-in-Err-clause-refused : goal.returns-in-Err-clause-refused
returns-in-Err-clause-refused g c = unrecovered_unbegun _ c.in-Err.refused.ended c.in-Err.ensures.refused c.in-Err.ensures.unbegun

pub returns-in-Err-clause-open_day : goal.returns-in-Err-clause-open_day
returns-in-Err-clause-open_day g c promised told = absurd (unrecovered_not_open _ c.in-Err.refused.ended c.in-Err.ensures.unbegun told)

pub returns-in-Err-refuse_open_day-clause-refused : goal.returns-in-Err-refuse_open_day-clause-refused
returns-in-Err-refuse_open_day-clause-refused g c = refusal_is _ c.in-Err-refuse_open_day.why c.in-Err-refuse_open_day.ensures.refused

pub returns-in-Err-refuse_open_day-clause-old_files : goal.returns-in-Err-refuse_open_day-clause-old_files
returns-in-Err-refuse_open_day-clause-old_files g c promised =
    let m = g.D.Disk.meaning in
    recovering_old m _ _ (reads_recovered m c.args.disk c.in-Ok.disk c.refuse_open_day.new.disk (c.in-Ok.ensures.recovered promised) c.refuse_open_day.ensures.only).moments

pub returns-in-Err-refuse_open_day-clause-tells : goal.returns-in-Err-refuse_open_day-clause-tells
returns-in-Err-refuse_open_day-clause-tells g c =
    let m = g.D.Disk.meaning in
    refusal_tells m c.args.disk c.refuse_open_day.new.disk _ c.in-Err-refuse_open_day.why c.in-Err-refuse_open_day.ensures.refused
    (λ is. omega (arith, c.in-Ok.ensures.later, c.in-Err-refuse_open_day.ensures.unread (ap Err is)))
    (λ promised. reads_recovered m c.args.disk c.in-Ok.disk c.refuse_open_day.new.disk (c.in-Ok.ensures.recovered promised) c.refuse_open_day.ensures.only)

pub returns-in-Err-refuse_open_day-clause-open_day : goal.returns-in-Err-refuse_open_day-clause-open_day
returns-in-Err-refuse_open_day-clause-open_day g c promised told =
    let m = g.D.Disk.meaning in
    record {
      open_before = open_before m c.args.disk c.in-Ok.disk c.refuse_open_day.new.disk true (c.in-Ok.ensures.recovered promised) (sym (c.refuse_open_day.ensures.open promised (told_so _ _ _ c.in-Err-refuse_open_day.is told)));
      left = reads_recovered m c.args.disk c.in-Ok.disk c.refuse_open_day.new.disk (c.in-Ok.ensures.recovered promised) c.refuse_open_day.ensures.only;
    }
