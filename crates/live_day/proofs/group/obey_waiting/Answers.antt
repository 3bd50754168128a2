use Rattle.std.proofs.Common.{⊎_elim, [], Option, Ok, IfSome, ap, arith, inl, refl, subst}
use Rattle.live_day.specs.Sessions.{IsLineRefused}
use Rattle.live_day.specs.declared.notice.Notice.{Notice}
use Rattle.live_day.specs.declared.wish.Wish.TheVariants.{Perform, Station}
use Rattle.live_day.proofs.GroupLaws.{performs_else, refused_line, refused_station, seat_or_none}
use Rattle.live_day.proofs.StoppedLaws.{on_err}
use Rattle.live_day.proofs.WaitingLaws.{waits_none}
use Rattle.live_day.proofs.group.obey_waiting.Goals as goal

pub returns-then-wanted-stations-clause-made : goal.returns-then-wanted-stations-clause-made
returns-then-wanted-stations-clause-made g c = (
  [],
  waits_none c.args.answers.now.items c.args.answers.now.items refl,
  record {
    wish = Station c.in-Station.wanted;
    asked = c.in-Station.ensures.value;
    made = (refl, inl (omega arith, omega arith, refl, refl));
  },
)

pub returns-else-wanted-ge1-clause-made : goal.returns-else-wanted-ge1-clause-made
returns-else-wanted-ge1-clause-made g c =
    refused_station c.in-Station.wanted c.args.station c.args.typed.now c.args.day.now.history c.in-Station.ensures.value
    (⊎_elim (λ both. absurd (omega arith)) (λ none. none) (seat_or_none c.in-Station.wanted c.args.day.now.history.opened.stations))

pub returns-in-None-clause-made : goal.returns-in-None-clause-made
returns-in-None-clause-made g c =
    let done = c.in_ok-perform_waiting-in-Perform.ensures.answered (ap (λ (o : Option Notice). Ok o) c.in-None.is) in
    (done.0, done.1, record { wish = Perform; asked = performs_else c.args.typed.now _ c.requires.no_quit c.wish_typed.ensures.value c.in-Perform.is; made = (refl, inl done.2) })

pub returns-in-Some-clause-made : goal.returns-in-Some-clause-made
returns-in-Some-clause-made g c =
    refused_line c.args.station c.args.typed.now _ c.args.day.now.history c.in-Some.notice c.requires.no_quit c.wish_typed.ensures.value c.in-Perform.is
    (subst (λ (o : Option Notice). IfSome o (IsLineRefused c.args.typed.now c.args.day.now.history)) c.in-Some.is c.in_ok-perform_waiting-in-Perform.ensures.refused)

pub returns-in_err-perform_waiting-in-Perform-clause-performed : goal.returns-in_err-perform_waiting-in-Perform-clause-performed
returns-in_err-perform_waiting-in-Perform-clause-performed g c =
    let done = c.in_err-perform_waiting-in-Perform.ensures.performed in
    on_err c.from_residual.result (done.0, record { wish = Perform; asked = performs_else c.args.typed.now _ c.requires.no_quit c.wish_typed.ensures.value c.in-Perform.is; made = (refl, inl done.1) })
