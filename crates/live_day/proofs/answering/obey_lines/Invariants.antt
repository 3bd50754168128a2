use Rattle.std.proofs.Common.{◌≡◌, ◌≤◌, true, length}
use Rattle.std.specs.List.{AllByRecursion}
use Rattle.live_day.specs.Groups.{IsNoQuit}
use Rattle.live_day.specs.Shows.{KeepsShown}
use Rattle.live_day.proofs.GroupLaws.{HasObeyedTo}
use Rattle.live_day.proofs.answering.obey_lines.Given as goal

abbrev pub invariant-obeying : goal.invariant-obeying
invariant-obeying g l = record {
  takes : l.day.takes ≡ true;
  counted : 1 ≤ l.seated;
  inside : l.seated ≤ l.day.history.opened.stations;
  no_quit : AllByRecursion IsNoQuit l.rest;
  to : HasObeyedTo l.lines l.rest l.station l.initial.day.history l.seated l.day.history (g.S.Screen.shown l.initial.screen) (g.S.Screen.shown l.screen);
  kept : KeepsShown g.D.Disk.meaning l.initial.day l.day (g.S.Screen.shown l.initial.screen) (g.S.Screen.shown l.screen);
}

abbrev pub decreases-obeying : goal.decreases-obeying
decreases-obeying g l = length l.rest
