use Rattle.std.proofs.Common.{◌≡◌, ◌≤◌, length, true}
use Rattle.live_day.specs.Sessions.{HasObeyed}
use Rattle.live_day.specs.Shows.{KeepsShown}
use Rattle.live_day.specs.Typing.{HasTyped}
use Rattle.live_day.proofs.running.run_day.Given as goal

abbrev pub invariant-groups : goal.invariant-groups
invariant-groups g l = record {
  takes : l.day.takes ≡ true;
  counted : 1 ≤ l.station;
  inside : l.station ≤ l.day.history.opened.stations;
  obeyed : HasObeyed (g.K.Keyboard.typed l.initial.keyboard) (g.K.Keyboard.typed l.keyboard) l.initial.day.history l.day.history (g.S.Screen.shown l.initial.screen) (g.S.Screen.shown l.screen) l.station;
  read : HasTyped (g.K.Keyboard.text_left l.initial.keyboard) (g.K.Keyboard.text_left l.keyboard) (g.K.Keyboard.typed l.initial.keyboard) (g.K.Keyboard.typed l.keyboard);
  typed : l.counter ≤ length (g.K.Keyboard.typed l.keyboard);
  kept : KeepsShown g.D.Disk.meaning l.initial.day l.day (g.S.Screen.shown l.initial.screen) (g.S.Screen.shown l.screen);
}
