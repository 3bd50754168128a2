use Rattle.std.proofs.Common.{ℕ, List, Option, Err, ap, false, inl, inr, subst, true}
use Rattle.open_day.specs.OpenDay.{mark_name}
use Rattle.program_frame.proofs.BesideDay.{reads_recovered}
use Rattle.program_frame.proofs.PlacingLaws.{recovering_old}
use Rattle.program_frame.specs.InputDays.{IsMarkAt}
use Rattle.live_program.specs.OtherDays.{others_answer}
use Rattle.live_program.proofs.MarksLaws.{day_told}
use Rattle.live_program.proofs.OtherDayLaws.{unbegun_so, unrecovered_not_open}
use Rattle.live_program.proofs.marking.begin_alone.Goals as goal

pub returns-in-Err-clause-unbegun : goal.returns-in-Err-clause-unbegun
returns-in-Err-clause-unbegun g c = unbegun_so (g.S.Source.files c.args.source.now) c.args.options.now c.in-Err.refused.ended c.in-Err.ensures.unbegun

pub returns-in-Err-clause-open_day : goal.returns-in-Err-clause-open_day
returns-in-Err-clause-open_day g c told = absurd (unrecovered_not_open c.in-Err.refused.ended c.in-Err.ensures.unbegun told)

pub returns-in-Ok-mark_alone-clause-recovered : goal.returns-in-Ok-mark_alone-clause-recovered
returns-in-Ok-mark_alone-clause-recovered g c promised =
    reads_recovered g.D.Disk.meaning c.args.disk c.in-Ok.disk c.mark_alone.new.disk (c.in-Ok.ensures.recovered promised) c.mark_alone.ensures.only

pub returns-in-Ok-mark_alone-clause-unmarked : goal.returns-in-Ok-mark_alone-clause-unmarked
returns-in-Ok-mark_alone-clause-unmarked g c promised =
    subst (λ (mark : Option (List ℕ)). IsMarkAt (others_answer (g.Y.Beside.answers c.args.places.now) (g.Y.Beside.lies c.args.places.now) c.args.options.now.out.now) mark false)
    ((c.in-Ok.ensures.recovered promised).same mark_name) (c.in-Ok-mark_alone.ensures.unmarked promised)

pub returns-in-Err-mark_alone-clause-unbegun : goal.returns-in-Err-mark_alone-clause-unbegun
returns-in-Err-mark_alone-clause-unbegun g c = inr c.in-Err-mark_alone.ensures.refused

pub returns-in-Err-mark_alone-clause-old_files : goal.returns-in-Err-mark_alone-clause-old_files
returns-in-Err-mark_alone-clause-old_files g c promised =
    let m = g.D.Disk.meaning in
    recovering_old m _ _ (reads_recovered m c.args.disk c.in-Ok.disk c.mark_alone.new.disk (c.in-Ok.ensures.recovered promised) c.mark_alone.ensures.only).moments

pub returns-in-Err-mark_alone-clause-open_day : goal.returns-in-Err-mark_alone-clause-open_day
returns-in-Err-mark_alone-clause-open_day g c told = elim (c.in-Err-mark_alone.ensures.open_day (ap Err (day_told c.in-Err-mark_alone.why _ told))) [
  | inl elsewhere ↦ inl elsewhere
  | inr marked ↦ inr (λ promised.
      subst (λ (mark : Option (List ℕ)). IsMarkAt (others_answer (g.Y.Beside.answers c.args.places.now) (g.Y.Beside.lies c.args.places.now) c.args.options.now.out.now) mark true)
      ((c.in-Ok.ensures.recovered promised).same mark_name) (marked promised))
]
