use Rattle.std.proofs.Common.{◌∙◌, Err, ap, inl, inr}
use Rattle.live_program.specs.OtherDays.{others_answer}
use Rattle.live_program.proofs.FailureLaws.{told_end_of}
use Rattle.live_program.proofs.LifeLaws.{ok_always}
use Rattle.live_program.proofs.MarksLaws.{day_told, told_by}
use Rattle.live_program.proofs.OtherDayLaws.{mark_other}
use Rattle.live_program.proofs.marking.mark_alone.Goals as goal

pub returns-clause-closed : goal.returns-clause-closed
returns-clause-closed g c = ok_always c.put_marks.result _ c.in_ok-refuse_other_days.ensures.closed

pub returns-clause-unmarked : goal.returns-clause-unmarked
returns-clause-unmarked g c promised = ok_always c.put_marks.result _ (c.in-Ok.ensures.closed promised)

pub returns-clause-marked : goal.returns-clause-marked
returns-clause-marked g c = rw c.refuse_other_days.ensures.kept at c.put_marks.ensures.marked

pub returns-clause-refused : goal.returns-clause-refused
returns-clause-refused g c = rw c.refuse_other_days.ensures.kept at c.put_marks.ensures.refused

pub returns-clause-open_day : goal.returns-clause-open_day
returns-clause-open_day g c told = inl (inr (c.put_marks.ensures.open_day told))

pub returns-in_err-refuse_other_days-clause-open_day : goal.returns-in_err-refuse_other_days-clause-open_day
returns-in_err-refuse_other_days-clause-open_day g c told = inl (inl (c.in_err-refuse_other_days.ensures.open (told_by _ _ _ c.from_residual.ensures.1 told)))

pub returns-in_err-refuse_other_days-clause-refused : goal.returns-in_err-refuse_other_days-clause-refused
returns-in_err-refuse_other_days-clause-refused g c = told_end_of _ _ _ c.from_residual.ensures.1 c.in_err-refuse_other_days.ensures.refused

pub returns-in-Err-clause-open_day : goal.returns-in-Err-clause-open_day
returns-in-Err-clause-open_day g c told = inr (λ promised. c.in-Err.ensures.open promised (ap Err (day_told c.in-Err.why _ told)))

pub returns-in-Err-clause-refused : goal.returns-in-Err-clause-refused
returns-in-Err-clause-refused g c =
    mark_other (others_answer (g.Y.Beside.answers c.args.places.now) (g.Y.Beside.lies c.args.places.now) c.args.options.now.out.now) (g.S.Source.files c.args.source.now) c.args.options.now
    c.in-Err.why c.in-Err.ensures.refused

pub returns-clause-kept : goal.returns-clause-kept
returns-clause-kept g c = c.put_marks.ensures.kept ∙ c.refuse_other_days.ensures.kept
