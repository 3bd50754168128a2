use Rattle.std.proofs.Common.{◌≡◌, ◌≤◌, take}
use Rattle.std.specs.List.{AllByRecursion}
use Rattle.live_day.specs.Days.{HasPerformedSince}
use Rattle.live_day.specs.Groups.{all_told_by}
use Rattle.live_day.specs.Sessions.{AreObeyed}
use Rattle.live_day.specs.Waiting.{IsWaiting}
use Rattle.live_day.proofs.group.perform_front.Given as goal

abbrev pub invariant-front : goal.invariant-front
invariant-front g l = record {
  count : l.count ≡ l.line-index;
  obeyed : AreObeyed (take l.count l.lines) l.station l.initial.day.history l.seated l.day.history (all_told_by l.answers.items);
  waiting : AllByRecursion (IsWaiting l.day.history) l.answers.items;
  counted : 1 ≤ l.seated;
  inside : l.seated ≤ l.day.history.opened.stations;
  since : HasPerformedSince l.initial.day l.day;
}
