use Rattle.std.proofs.Common.{arith, ap, inl, inr, subst, true, false, Err}
use Rattle.open_day.specs.OpenDay.{mark_name}
use Rattle.program_frame.specs.InputDays.{IsMarkAt}
use Rattle.program_frame.proofs.BesideDay.{mark_tells, reads_recovered, told_so, unbegun_or_marked}
use Rattle.program_frame.proofs.PlacingLaws.{recovering_old}
use Rattle.program_frame.proofs.begin.begin_unmarked.Goals as goal

pub returns-in-Ok-refuse_marked_day-clause-recovered : goal.returns-in-Ok-refuse_marked_day-clause-recovered
returns-in-Ok-refuse_marked_day-clause-recovered g c promised =
    reads_recovered g.D.Disk.meaning c.args.disk c.in-Ok.disk c.refuse_marked_day.new.disk (c.in-Ok.ensures.recovered promised) c.refuse_marked_day.ensures.only

pub returns-in-Ok-refuse_marked_day-clause-unmarked : goal.returns-in-Ok-refuse_marked_day-clause-unmarked
returns-in-Ok-refuse_marked_day-clause-unmarked g c promised =
    subst (λ (mark : _). IsMarkAt (g.B.Beside.answers c.args.system.now) mark false) ((c.in-Ok.ensures.recovered promised).same mark_name) (c.in-Ok-refuse_marked_day.ensures.closed promised)

pub returns-in-Err-clause-refused : goal.returns-in-Err-clause-refused
returns-in-Err-clause-refused g c = unbegun_or_marked (g.B.Beside.answers c.args.system.now) _ c.in-Err.refused.ended c.in-Err.ensures.refused

pub returns-in-Err-clause-open_day : goal.returns-in-Err-clause-open_day
returns-in-Err-clause-open_day g c told = inl (λ promised. c.in-Err.ensures.open_day promised told)

pub returns-in-Err-refuse_marked_day-clause-refused : goal.returns-in-Err-refuse_marked_day-clause-refused
returns-in-Err-refuse_marked_day-clause-refused g c = inr c.in-Err-refuse_marked_day.ensures.refused

pub returns-in-Err-refuse_marked_day-clause-refused_here : goal.returns-in-Err-refuse_marked_day-clause-refused_here
returns-in-Err-refuse_marked_day-clause-refused_here g c promised is = let closed = c.in-Ok.ensures.closed promised in absurd cc

pub returns-in-Err-refuse_marked_day-clause-old_files : goal.returns-in-Err-refuse_marked_day-clause-old_files
returns-in-Err-refuse_marked_day-clause-old_files g c promised =
    let m = g.D.Disk.meaning in
    recovering_old m _ _ (reads_recovered m c.args.disk c.in-Ok.disk c.refuse_marked_day.new.disk (c.in-Ok.ensures.recovered promised) c.refuse_marked_day.ensures.only).moments

pub returns-in-Err-refuse_marked_day-clause-tells : goal.returns-in-Err-refuse_marked_day-clause-tells
returns-in-Err-refuse_marked_day-clause-tells g c =
    let m = g.D.Disk.meaning in
    mark_tells m c.args.disk c.refuse_marked_day.new.disk (g.B.Beside.answers c.args.system.now) _ c.in-Err-refuse_marked_day.why c.in-Err-refuse_marked_day.ensures.refused
    (λ is. omega (arith, c.in-Ok.ensures.later, c.in-Err-refuse_marked_day.ensures.unread (ap Err is)))
    (λ promised. reads_recovered m c.args.disk c.in-Ok.disk c.refuse_marked_day.new.disk (c.in-Ok.ensures.recovered promised) c.refuse_marked_day.ensures.only)

pub returns-in-Err-refuse_marked_day-clause-open_day : goal.returns-in-Err-refuse_marked_day-clause-open_day
returns-in-Err-refuse_marked_day-clause-open_day g c told = inr (λ promised.
    let m = g.D.Disk.meaning in
    record {
      marked_before = subst (λ (mark : _). IsMarkAt (g.B.Beside.answers c.args.system.now) mark true) ((c.in-Ok.ensures.recovered promised).same mark_name) (c.refuse_marked_day.ensures.open promised (told_so _ _ _ c.in-Err-refuse_marked_day.is told));
      left = reads_recovered m c.args.disk c.in-Ok.disk c.refuse_marked_day.new.disk (c.in-Ok.ensures.recovered promised) c.refuse_marked_day.ensures.only;
    })
