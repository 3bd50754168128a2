use Rattle.live_day.specs.Groups.{IsNoQuit}
use Rattle.live_day.specs.Stops.{HasLogOf}
use Rattle.live_day.proofs.GroupLaws.{all_after, to_more, to_none}
use Rattle.live_day.proofs.ShowLaws.{after_none, shown_both, shown_none}
use Rattle.live_day.proofs.StopLaws.{stopped_same, told_err}
use Rattle.live_day.proofs.StoppedLaws.{log_left, on_err, stopped_to}
use Rattle.live_day.proofs.answering.obey_lines.Goals as goal

pub obeying-init : goal.obeying-init
obeying-init g c = record {
  takes = c.requires.takes;
  counted = c.requires.counted;
  inside = c.requires.inside;
  no_quit = c.requires.no_quit;
  to = to_none c.args.lines.now c.args.station c.args.day.now.history (g.S.Screen.shown c.args.screen.now);
  kept = shown_none g.D.Disk.meaning c.args.day.now c.args.day.now (g.S.Screen.shown c.args.screen.now)
      (after_none g.D.Disk.meaning c.args.day.now (λ keeps. c.station_count.ensures.logged keeps c.requires.takes) (λ keeps. c.station_count.ensures.durable keeps c.requires.takes));
}

pub obeying-preserved : goal.obeying-preserved
obeying-preserved g c =
    let made = c.in_ok-count.ensures.obeyed in
    let count = c.in_ok-count.count in
    record {
      takes = c.in_ok-count.ensures.takes;
      counted = c.in_ok-count.ensures.counted;
      inside = c.in_ok-count.ensures.inside;
      no_quit = all_after IsNoQuit count c.obeying.rest.now c.split_at.result.1.now c.split_at.ensures.back c.obeying.invariant.no_quit;
      to = to_more c.args.lines.now c.obeying.rest.now c.split_at.result.1.now c.args.station c.args.day.now.history c.obeying.seated c.obeying.day.history
          (g.S.Screen.shown c.args.screen.now) (g.S.Screen.shown c.obeying.screen) (g.S.Screen.shown c.obey_some.new.screen) count made.0 c.in_ok-count.next c.obey_some.new.day.history
          c.split_at.ensures.back c.obeying.invariant.to made.1 made.2;
      kept = shown_both g.D.Disk.meaning c.args.day.now c.obeying.day c.obey_some.new.day (g.S.Screen.shown c.args.screen.now) (g.S.Screen.shown c.obeying.screen) (g.S.Screen.shown c.obey_some.new.screen)
          c.obeying.invariant.kept c.obey_some.ensures.kept;
    }

pub returns-in_err-count-clause-kept : goal.returns-in_err-count-clause-kept
returns-in_err-count-clause-kept g c =
    shown_both g.D.Disk.meaning c.args.day.now c.obeying.day c.obey_some.new.day (g.S.Screen.shown c.args.screen.now) (g.S.Screen.shown c.obeying.screen) (g.S.Screen.shown c.obey_some.new.screen)
    c.obeying.invariant.kept c.obey_some.ensures.kept

pub returns-in_err-count-clause-stopped : goal.returns-in_err-count-clause-stopped
returns-in_err-count-clause-stopped g c =
    stopped_same c.from_residual.result _ c.obey_some.new.day.takes c.from_residual.ensures.1 c.in_err-count.ensures.stopped

pub returns-in_err-count-clause-fault : goal.returns-in_err-count-clause-fault
returns-in_err-count-clause-fault g c = told_err _ c.from_residual.result _ c.from_residual.ensures.1 c.in_err-count.ensures.fault

pub returns-in_err-count-clause-cut : goal.returns-in_err-count-clause-cut
returns-in_err-count-clause-cut g c =
    let m = g.D.Disk.meaning in
    let x = g.S.Screen.shown c.args.screen.now in
    let y = g.S.Screen.shown c.obeying.screen in
    let z = g.S.Screen.shown c.obey_some.new.screen in
    on_err c.from_residual.result (stopped_to (HasLogOf m c.obey_some.new.day) c.args.lines.now c.obeying.rest.now c.args.station c.args.day.now.history c.obeying.seated c.obeying.day.history c.obey_some.new.day.history x y z
    c.obeying.invariant.to c.in_err-count.ensures.cut (log_left m c.obeying.day c.obey_some.new.day y z c.obey_some.ensures.kept))
