use Rattle.std.proofs.Common.{◌≡◌, ◌∙◌, ◌<◌, ap, arith, get_or, length, refl, subst, sym}
use Rattle.files_in_place.proofs.Each.{each_at}
use Rattle.live_day.specs.declared.keyboard.Typed.{Typed}
use Rattle.live_day.specs.Groups.{IsNoQuit}
use Rattle.live_day.proofs.GroupLaws.{front_refused, obeyed_next}
use Rattle.live_day.proofs.SinceLaws.{since_both}
use Rattle.live_day.proofs.StoppedLaws.{first_performed, on_err}
use Rattle.live_day.proofs.group.perform_front.Goals as goal

pub front-preserved : goal.front-preserved
front-preserved g c =
    let lines = c.args.lines.now in
    let i = c.front.line-index in
    let line = c.line-item.result in
    let count = c.front.count in
    let is : line ≡ get_or lines count line = c.line-item.is ∙ ap (λ k. get_or lines k line) (sym c.front.invariant.count) in
    let inside : count < length lines = omega (arith, c.front.invariant.count, c.front-test.true) in
    let made = rw c.in-Ok.is at c.in_ok-next.ensures.made in
    record {
      count = omega (arith, c.front.invariant.count);
      obeyed = obeyed_next lines count line c.args.station c.args.day.now.history c.front.seated c.front.day.history c.front.answers.items c.obey_waiting.new.answers.items made.0 c.in-Ok.next c.obey_waiting.new.day.history
          inside is c.front.invariant.obeyed made.1 made.2;
      waiting = c.in_ok-next.ensures.waiting;
      counted = rw c.in-Ok.is at c.in_ok-next.ensures.counted;
      inside = rw c.in-Ok.is at c.in_ok-next.ensures.inside;
      since = since_both c.args.day.now c.front.day c.obey_waiting.new.day c.front.invariant.since c.obey_waiting.ensures.since;
    }

pub obey_waiting-requires-clause-no_quit : goal.obey_waiting-requires-clause-no_quit
obey_waiting-requires-clause-no_quit g c =
    subst (λ (t : Typed). IsNoQuit t) (sym c.line-item.is) (each_at IsNoQuit c.args.lines.now c.front.line-index c.line-item.result (omega (arith, c.front-test.true)) c.requires.no_quit)

pub returns-in-Err-clause-obeyed : goal.returns-in-Err-clause-obeyed
returns-in-Err-clause-obeyed g c =
    let lines = c.args.lines.now in
    let line = c.line-item.result in
    let count = c.front.count in
    let is : line ≡ get_or lines count line = c.line-item.is ∙ ap (λ k. get_or lines k line) (sym c.front.invariant.count) in
    let inside : count < length lines = omega (arith, c.front.invariant.count, c.front-test.true) in
    let undone = rw c.in-Err.is at c.in_ok-next.ensures.undone in
    let made = rw c.in-Err.is at c.in_ok-next.ensures.made in
    front_refused c.args.station lines c.args.day.now.history c.front.day c.obey_waiting.new.day _ c.front.answers.items line c.in-Err.notice undone.0 undone.1 refl inside is c.front.invariant.obeyed made

pub returns-clause-obeyed : goal.returns-clause-obeyed
returns-clause-obeyed g c = record { within = omega (arith, c.front.invariant.count); obeyed = c.front.invariant.obeyed; stopped = omega (arith, c.front.invariant.count, c.front-test.false) }

pub returns-in_err-next-clause-first : goal.returns-in_err-next-clause-first
returns-in_err-next-clause-first g c =
    let lines = c.args.lines.now in
    let line = c.line-item.result in
    let count = c.front.count in
    let is : line ≡ get_or lines count line = c.line-item.is ∙ ap (λ k. get_or lines k line) (sym c.front.invariant.count) in
    let inside : count < length lines = omega (arith, c.front.invariant.count, c.front-test.true) in
    let one = c.in_err-next.ensures.performed in
    on_err c.from_residual.result (first_performed lines count line c.args.station c.args.day.now.history c.front.seated c.front.day.history _ c.front.seated c.obey_waiting.new.day.history one.0 inside is c.front.invariant.obeyed one.1)
