use Rattle.live_program.proofs.SayingLaws.{said_for}
use Rattle.std.proofs.Common.{Err, ap, inl, inr, map, refl}
use Rattle.program_frame.proofs.BesideDay.{said_open, unread_said}
use Rattle.live_program.proofs.Commands.{unread_not_open}
use Rattle.live_program.proofs.FailureLaws.{told_end_of}
use Rattle.live_program.proofs.LifeLaws.{failed_unlived, unread_unlived}
use Rattle.live_program.proofs.running.run_program.Goals as goal

pub returns-in_err-options-clause-unlived : goal.returns-in_err-options-clause-unlived
returns-in_err-options-clause-unlived g c =
    unread_unlived g.Y.Disk.Disk.meaning (g.Y.Places.opens c.args.places.now) (g.S.Source.files c.args.source.now) (map g.T.AsStr.text c.args.words.now) _ _ _ _ _ _ c.from_residual.ensures.1 c.in_err-options.ensures.fault

pub returns-in_err-live_options-clause-unlived : goal.returns-in_err-live_options-clause-unlived
returns-in_err-live_options-clause-unlived g c =
    failed_unlived g.Y.Disk.Disk.meaning (g.Y.Places.opens c.args.places.now) (g.S.Source.files c.args.source.now) (map g.T.AsStr.text c.args.words.now) _ _ _ _ _ _ c.in_ok-options.options _
    c.from_residual-in_err-live_options.ensures.1 c.in_ok-options.ensures.asked c.in_err-live_options.ensures.life

pub returns-clause-lived : goal.returns-clause-lived
returns-clause-lived g c = record {
  options = c.in_ok-options.options;
  asked = c.in_ok-options.ensures.asked;
  life = c.in_ok-live_options.ensures.life;
}

pub returns-in_err-options-clause-fault : goal.returns-in_err-options-clause-fault
returns-in_err-options-clause-fault g c = told_end_of _ _ _ c.from_residual.ensures.1 (inl c.in_err-options.ensures.fault)

pub returns-in_err-live_options-clause-fault : goal.returns-in_err-live_options-clause-fault
returns-in_err-live_options-clause-fault g c =
    told_end_of _ _ _ c.from_residual-in_err-live_options.ensures.1
    (inr (record {
      options = c.in_ok-options.options;
      asked = c.in_ok-options.ensures.asked;
      why = c.in_err-live_options.field-0.0;
      failed = c.in_err-live_options.ensures.fault;
      end_is = refl;
    }))

pub returns-in_err-live_options-clause-said : goal.returns-in_err-live_options-clause-said
returns-in_err-live_options-clause-said g c = said_for (g.S.Source.files c.args.source.now) (map g.T.AsStr.text c.args.words.now) c.in_ok-options.options (g.E.Write.contents c.args.err.now)
    (g.E.Write.contents c.live_options.new.err) c.in_ok-options.ensures.asked c.live_options.ensures.said

pub returns-clause-others : goal.returns-clause-others
returns-clause-others g c = (c.in_ok-options.options, c.in_ok-options.ensures.asked, c.in_ok-live_options.ensures.others)

pub returns-in_err-options-clause-open_day : goal.returns-in_err-options-clause-open_day
returns-in_err-options-clause-open_day g c told = absurd (unread_said _ _ c.from_residual.ensures.1 (unread_not_open (map g.T.AsStr.text c.args.words.now) _ c.in_err-options.ensures.fault) told)

pub returns-in_err-live_options-clause-open_day : goal.returns-in_err-live_options-clause-open_day
returns-in_err-live_options-clause-open_day g c told =
    (c.in_ok-options.options, c.in_ok-options.ensures.asked, c.in_err-live_options.ensures.open_day (ap Err (said_open _ _ c.from_residual-in_err-live_options.ensures.1 told)))

pub returns-in_err-options-clause-marked : goal.returns-in_err-options-clause-marked
returns-in_err-options-clause-marked g c = inl refl

pub returns-in_err-live_options-clause-marked : goal.returns-in_err-live_options-clause-marked
returns-in_err-live_options-clause-marked g c = elim c.live_options.ensures.marked [
  | inl same ↦ inl same
  | inr marked ↦ inr (c.in_ok-options.options, c.in_ok-options.ensures.asked, marked)
]

pub returns-clause-marked : goal.returns-clause-marked
returns-clause-marked g c = elim c.live_options.ensures.marked [
  | inl same ↦ inl same
  | inr marked ↦ inr (c.in_ok-options.options, c.in_ok-options.ensures.asked, marked)
]

pub returns-clause-said : goal.returns-clause-said
returns-clause-said g c = said_for (g.S.Source.files c.args.source.now) (map g.T.AsStr.text c.args.words.now) c.in_ok-options.options (g.E.Write.contents c.args.err.now)
    (g.E.Write.contents c.live_options.new.err) c.in_ok-options.ensures.asked c.live_options.ensures.said
