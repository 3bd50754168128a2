use Rattle.std.proofs.Common.{List, [], ◌∙◌, ◌++◌, ap, length, inl, inr, length-append, refl, subst, sym, arith}
use Rattle.std.proofs.lemmas.List.{append-nil}
use Rattle.live_day.specs.Faults.{IsDayFault, IsOfLog}
use Rattle.live_day.specs.declared.typing.Then.TheVariants.{Failed}
use Rattle.live_day.specs.declared.keyboard.Typed.{Typed}
use Rattle.live_day.specs.Stops.{AreStopped, HasLogOf}
use Rattle.live_day.specs.Typing.{CanReadNoMore, IsAllTyped}
use Rattle.live_day.specs.declared.keyboard.TypingFault.{TypingFault}
use Rattle.live_day.proofs.GroupLaws.{end_on, obeyed_group, run_over, typed_both}
use Rattle.live_day.proofs.SessionLaws.{obeyed_none}
use Rattle.live_day.proofs.ShowLaws.{after_none, front_now, shown_both, shown_none}
use Rattle.live_day.proofs.StopLaws.{of_no_log, stopped_same, told_unread, unread_fault}
use Rattle.live_day.proofs.StoppedLaws.{first_typed, group_end, group_first, log_left, on_err, stopped_after, stopped_all, stopped_in}
use Rattle.live_day.proofs.TypingLaws.{typed_none}
use Rattle.live_day.proofs.running.run_day.Goals as goal

pub groups-init : goal.groups-init
groups-init g c = record {
  takes = c.requires.takes;
  counted = omega arith;
  inside = c.requires.some;
  obeyed = obeyed_none (g.K.Keyboard.typed c.args.keyboard.now) c.args.day.now.history (g.S.Screen.shown c.args.screen.now);
  typed = omega arith;
  read = typed_none (g.K.Keyboard.text_left c.args.keyboard.now) (g.K.Keyboard.typed c.args.keyboard.now);
  kept = shown_none g.D.Disk.meaning c.args.day.now c.args.day.now (g.S.Screen.shown c.args.screen.now)
      (after_none g.D.Disk.meaning c.args.day.now (λ keeps. c.station_count.ensures.logged keeps c.requires.takes) (λ keeps. c.station_count.ensures.durable keeps c.requires.takes));
}

pub groups-preserved : goal.groups-preserved
groups-preserved g c =
    let group = rw c.in-More.is at c.read_group-group.ensures.read in
    let made = c.in_ok-station.ensures.obeyed in
    let are = rw c.as_slice.ensures.value at made.2 in
    record {
      takes = c.in_ok-station.ensures.takes;
      counted = c.in_ok-station.ensures.counted;
      inside = c.in_ok-station.ensures.inside;
      obeyed = obeyed_group (g.K.Keyboard.typed c.args.keyboard.now) (g.K.Keyboard.typed c.groups.keyboard) (g.K.Keyboard.typed c.read_group-group.new.keyboard) c.read_group-group.result.lines.items c.args.day.now.history c.groups.day.history c.obey_lines.new.day.history
          (g.S.Screen.shown c.args.screen.now) (g.S.Screen.shown c.groups.screen) (g.S.Screen.shown c.obey_lines.new.screen) c.groups.station c.in_ok-station.station made.0 c.groups.invariant.obeyed group.0 made.1 are;
      read = typed_both (g.K.Keyboard.text_left c.args.keyboard.now) (g.K.Keyboard.text_left c.groups.keyboard) (g.K.Keyboard.text_left c.read_group-group.new.keyboard) _ _ _ c.groups.invariant.read group.1;
      typed = omega (arith, ap length group.0, length-append (g.K.Keyboard.typed c.groups.keyboard) c.read_group-group.result.lines.items, c.read_group-group.ensures.some c.in-More.is, c.groups.invariant.typed);
      kept = shown_both g.D.Disk.meaning c.args.day.now c.groups.day c.obey_lines.new.day (g.S.Screen.shown c.args.screen.now) (g.S.Screen.shown c.groups.screen) (g.S.Screen.shown c.obey_lines.new.screen)
          c.groups.invariant.kept c.obey_lines.ensures.kept;
    }

pub returns-in-Over-clause-obeyed : goal.returns-in-Over-clause-obeyed
returns-in-Over-clause-obeyed g c =
    let group = rw c.in-Over.is at c.read_group-group.ensures.read in
    let made = c.in_ok-station.ensures.obeyed in
    let are = rw c.as_slice.ensures.value at made.2 in
    let t = g.K.Keyboard.typed c.args.keyboard.now in
    let u = g.K.Keyboard.typed c.groups.keyboard in
    let a = g.K.Keyboard.text_left c.args.keyboard.now in
    let b = g.K.Keyboard.text_left c.groups.keyboard in
    let z = g.K.Keyboard.text_left c.read_group-group.new.keyboard in
    let ended = g.K.Keyboard.has_ended c.read_group-group.new.keyboard in
    let lines : List Typed = c.read_group-group.result.lines.items in
    run_over (IsAllTyped ended a z) t (u ++ lines) (g.K.Keyboard.typed c.read_group-group.new.keyboard) group.0 c.args.day.now.history c.obey_lines.new.day.history
    (g.S.Screen.shown c.args.screen.now) (g.S.Screen.shown c.obey_lines.new.screen) c.in_ok-station.station
    (obeyed_group t u (u ++ lines) lines c.args.day.now.history c.groups.day.history c.obey_lines.new.day.history
    (g.S.Screen.shown c.args.screen.now) (g.S.Screen.shown c.groups.screen) (g.S.Screen.shown c.obey_lines.new.screen) c.groups.station c.in_ok-station.station made.0 c.groups.invariant.obeyed refl made.1 are)
    group.2 (end_on ended a b z t u group.0 c.groups.invariant.read group.1)

pub returns-in-Over-clause-read : goal.returns-in-Over-clause-read
returns-in-Over-clause-read g c =
    let group = rw c.in-Over.is at c.read_group-group.ensures.read in
    typed_both (g.K.Keyboard.text_left c.args.keyboard.now) (g.K.Keyboard.text_left c.groups.keyboard) (g.K.Keyboard.text_left c.read_group-group.new.keyboard) _ _ _ c.groups.invariant.read group.3

pub returns-in-Over-clause-kept : goal.returns-in-Over-clause-kept
returns-in-Over-clause-kept g c =
    shown_both g.D.Disk.meaning c.args.day.now c.groups.day c.obey_lines.new.day (g.S.Screen.shown c.args.screen.now) (g.S.Screen.shown c.groups.screen) (g.S.Screen.shown c.obey_lines.new.screen) c.groups.invariant.kept c.obey_lines.ensures.kept

pub returns-in-Failed-clause-kept : goal.returns-in-Failed-clause-kept
returns-in-Failed-clause-kept g c =
    shown_both g.D.Disk.meaning c.args.day.now c.groups.day c.obey_lines.new.day (g.S.Screen.shown c.args.screen.now) (g.S.Screen.shown c.groups.screen) (g.S.Screen.shown c.obey_lines.new.screen) c.groups.invariant.kept c.obey_lines.ensures.kept

pub returns-in_err-station-clause-kept : goal.returns-in_err-station-clause-kept
returns-in_err-station-clause-kept g c =
    shown_both g.D.Disk.meaning c.args.day.now c.groups.day c.obey_lines.new.day (g.S.Screen.shown c.args.screen.now) (g.S.Screen.shown c.groups.screen) (g.S.Screen.shown c.obey_lines.new.screen) c.groups.invariant.kept c.obey_lines.ensures.kept

pub returns-in_err-station-clause-stopped : goal.returns-in_err-station-clause-stopped
returns-in_err-station-clause-stopped g c =
    stopped_same c.from_residual.result _ c.obey_lines.new.day.takes c.from_residual.ensures.1 c.in_err-station.ensures.stopped

pub returns-in-Failed-clause-stopped : goal.returns-in-Failed-clause-stopped
returns-in-Failed-clause-stopped g c =
    let takes = c.in_ok-station.ensures.takes in
    (λ of_log. absurd (of_no_log c.in-Failed.fault (subst IsOfLog c.from.ensures of_log)), λ no. absurd cc)

pub returns-in_err-station-clause-fault : goal.returns-in_err-station-clause-fault
returns-in_err-station-clause-fault g c =
    let unread = CanReadNoMore (g.K.Keyboard.has_failed c.read_group-group.new.keyboard) (g.K.Keyboard.typed c.read_group-group.new.keyboard) in
    told_unread g.D.Disk.meaning (g.S.Screen.has_failed c.obey_lines.new.screen) unread c.obey_lines.new.day.history c.from_residual.result _ c.from_residual.ensures.1 c.in_err-station.ensures.fault

pub returns-in-Failed-clause-fault : goal.returns-in-Failed-clause-fault
returns-in-Failed-clause-fault g c =
    let m = g.D.Disk.meaning in
    let unshown = g.S.Screen.has_failed c.obey_lines.new.screen in
    let unread = CanReadNoMore (g.K.Keyboard.has_failed c.read_group-group.new.keyboard) (g.K.Keyboard.typed c.read_group-group.new.keyboard) in
    let h = c.obey_lines.new.day.history in
    subst (IsDayFault m unshown unread h) (sym c.from.ensures)
    (unread_fault m unshown unread h c.in-Failed.fault (λ is. inl (c.read_group-group.ensures.failed (c.in-Failed.is ∙ ap (λ (f : TypingFault). Failed f) is))))

pub returns-clause-fault : goal.returns-clause-fault
returns-clause-fault g c = inr (omega (arith, c.groups.invariant.typed, c.groups-test.false))

pub returns-in-Over-clause-typed : goal.returns-in-Over-clause-typed
returns-in-Over-clause-typed g c =
    first_typed (g.K.Keyboard.text_left c.args.keyboard.now) (g.K.Keyboard.text_left c.groups.keyboard) _ _ _ c.groups.invariant.read (group_first _ _ _ _ _ _ _ c.read_group-group.ensures.read)

pub returns-in-Failed-clause-typed : goal.returns-in-Failed-clause-typed
returns-in-Failed-clause-typed g c =
    first_typed (g.K.Keyboard.text_left c.args.keyboard.now) (g.K.Keyboard.text_left c.groups.keyboard) _ _ _ c.groups.invariant.read (group_first _ _ _ _ _ _ _ c.read_group-group.ensures.read)

pub returns-in_err-station-clause-typed : goal.returns-in_err-station-clause-typed
returns-in_err-station-clause-typed g c =
    first_typed (g.K.Keyboard.text_left c.args.keyboard.now) (g.K.Keyboard.text_left c.groups.keyboard) _ _ _ c.groups.invariant.read (group_first _ _ _ _ _ _ _ c.read_group-group.ensures.read)

pub returns-clause-typed : goal.returns-clause-typed
returns-clause-typed g c = (g.K.Keyboard.text_left c.groups.keyboard, c.groups.invariant.read)

pub returns-in_err-station-clause-stopped_at : goal.returns-in_err-station-clause-stopped_at
returns-in_err-station-clause-stopped_at g c =
    let m = g.D.Disk.meaning in
    let lines : List Typed = c.read_group-group.result.lines.items in
    let y = g.S.Screen.shown c.groups.screen in
    let z = g.S.Screen.shown c.obey_lines.new.screen in
    let end = group_end _ _ _ _ _ _ _ c.read_group-group.ensures.read in
    let kept = HasLogOf m c.obey_lines.new.day in
    let stopped = subst (λ (l : List Typed). AreStopped (length l) kept c.groups.station l c.groups.day.history c.obey_lines.new.day.history y z) c.as_slice.ensures.value c.in_err-station.ensures.cut in
    on_err c.from_residual.result (stopped_in kept (g.K.Keyboard.typed c.args.keyboard.now) (g.K.Keyboard.typed c.groups.keyboard) (g.K.Keyboard.typed c.read_group-group.new.keyboard) lines end.0
    c.args.day.now.history c.groups.day.history c.obey_lines.new.day.history (g.S.Screen.shown c.args.screen.now) y z c.groups.station c.groups.invariant.obeyed end.1 c.read_group-group.ensures.few stopped)

pub returns-in-Failed-clause-stopped_at : goal.returns-in-Failed-clause-stopped_at
returns-in-Failed-clause-stopped_at g c =
    let m = g.D.Disk.meaning in
    let group = rw c.in-Failed.is at c.read_group-group.ensures.read in
    let made = c.in_ok-station.ensures.obeyed in
    let are = rw c.as_slice.ensures.value at made.2 in
    let y = g.S.Screen.shown c.groups.screen in
    let z = g.S.Screen.shown c.obey_lines.new.screen in
    stopped_after (HasLogOf m c.obey_lines.new.day) (g.K.Keyboard.typed c.args.keyboard.now) (g.K.Keyboard.typed c.groups.keyboard) (g.K.Keyboard.typed c.read_group-group.new.keyboard)
    c.read_group-group.result.lines.items c.args.day.now.history c.groups.day.history c.obey_lines.new.day.history (g.S.Screen.shown c.args.screen.now) y z c.groups.station c.in_ok-station.station made.0
    c.groups.invariant.obeyed group.0 c.read_group-group.ensures.few made.1 are (log_left m c.groups.day c.obey_lines.new.day y z c.obey_lines.ensures.kept)

pub returns-clause-stopped_at : goal.returns-clause-stopped_at
returns-clause-stopped_at g c =
    let m = g.D.Disk.meaning in
    let t = g.K.Keyboard.typed c.groups.keyboard in
    let takes = c.groups.invariant.takes in
    stopped_all (HasLogOf m c.groups.day) (g.K.Keyboard.typed c.args.keyboard.now) t t [] c.args.day.now.history c.groups.day.history (g.S.Screen.shown c.args.screen.now) (g.S.Screen.shown c.groups.screen) c.groups.station
    c.groups.invariant.obeyed (sym (append-nil t)) (λ keeps left may. front_now m c.groups.day (c.station_count-2.ensures.logged keeps takes) (c.station_count-2.ensures.durable keeps takes) left may)
