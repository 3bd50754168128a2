use Rattle.std.proofs.Common.{inl, inr, refl}
use Rattle.live_day.specs.Faults.{IsDayFault}
use Rattle.files_in_place.specs.Folder.{Folder}
use Rattle.live_day.specs.Stops.{HasLogOf, IsDayStopped}
use Rattle.live_day.specs.Typing.{CanReadNoMore}
use Rattle.live_day.proofs.StoppedLaws.{stopped_by}
use Rattle.live_program.specs.Lives.{IsLeftNow}
use Rattle.live_program.specs.Failures.{IsUnclosed, IsUnendedFrom}
use Rattle.live_program.proofs.FailureLaws.{err_failed, err_is, stop_failed}
use Rattle.live_program.proofs.LifeLaws.{closed_day, day_ends, err_by, left_closing, left_stopped, ok_always, ok_never, placed_day, stopped_day, stopped_ends}
use Rattle.live_program.proofs.life.live_day.Goals as goal

pub returns-in-Ok : goal.returns-in-Ok
returns-in-Ok g c = record {
  ends = λ promised.
      let m = g.D.Disk.meaning in
      let begun = c.args.day in
      let day = c.run_day.new.day in
      let end = c.args.end in
      let x = g.C.Screen.shown c.args.screen.now in
      let y = g.C.Screen.shown c.run_day.new.screen in
      let kept = c.run_day.ensures.kept in
      let clean = c.requires.clean promised in
      let logged = c.close.ensures.logged promised in
      let closing = c.close.ensures.any_moment promised in
      day_ends m _ _ _ _ _ _ begun.history day.history end x y begun.log.disk c.close.result.disk c.close.result.ended c.in-Ok.ensures.obeyed
      (closed_day m promised begun day end x y kept c.requires.name clean c.close.ensures.legal c.close.ensures.of_stations c.close.result.disk logged closing)
      (left_closing m promised begun day end x y kept c.requires.name clean c.close.ensures.legal c.close.ensures.of_stations c.close.result.disk logged closing) _
      (placed_day m promised begun day end x y kept c.requires.name clean c.close.ensures.legal c.close.ensures.of_stations c.close.result.disk logged closing) (c.close.ensures.placed promised) c.close.ensures.count;
  read = ok_always c.close.result.ended _ c.in-Ok.ensures.read;
  typed = c.run_day.ensures.typed;
  fault = err_by c.close.result.ended (IsUnclosed c.run_day.new.day.history c.args.end.today) (IsUnendedFrom (IsDayFault g.D.Disk.meaning (g.C.Screen.has_failed c.run_day.new.screen)
      (CanReadNoMore (g.K.Keyboard.has_failed c.run_day.new.keyboard) (g.K.Keyboard.typed c.run_day.new.keyboard))) c.args.day.history.opened c.args.end.today)
      (λ why is. (c.run_day.new.day.history, c.run_day.ensures.kept.after.history.opened, inr is)) c.close.ensures.fault;
}

pub returns-in-Err : goal.returns-in-Err
returns-in-Err g c = record {
  ends = λ promised.
      let m = g.D.Disk.meaning in
      let x = g.C.Screen.shown c.args.screen.now in
      let y = g.C.Screen.shown c.run_day.new.screen in
      let begun = c.args.day in
      let day = c.run_day.new.day in
      let end = c.args.end in
      let typed = g.K.Keyboard.typed c.args.keyboard.now in
      let typed_then = g.K.Keyboard.typed c.run_day.new.keyboard in
      let kept = c.run_day.ensures.kept in
      let stopped = stopped_day m promised begun day end x y kept c.requires.name (c.requires.clean promised) c.stop.ensures.legal c.stop.ensures.of_stations in
      let none : Folder → Type 0 = λ left. ⊥ in
      let run : IsDayStopped (IsLeftNow m none begun.log.head (m.seen begun.log.disk) begun.history day.history end day.log.disk) typed typed_then begun.history day.history x y =
      stopped_by (HasLogOf m day) (IsLeftNow m none begun.log.head (m.seen begun.log.disk) begun.history day.history end day.log.disk)
      (left_stopped m promised begun day end x y kept c.requires.name (c.requires.clean promised) c.stop.ensures.legal c.stop.ensures.of_stations) typed typed_then begun.history day.history x y c.in-Err.ensures.stopped_at in
      stopped_ends m _ _ _ _ _ _ begun.history day.history end x y begun.log.disk c.stop.result.disk c.stop.result.ended (err_failed c.stop.result.ended _ c.stop.ensures.ended) (rw c.stop.ensures.disk stopped)
      (rw c.stop.ensures.disk run);
  read = ok_never c.stop.result.ended _ (err_failed c.stop.result.ended _ c.stop.ensures.ended);
  typed = c.run_day.ensures.typed;
  fault = err_is c.stop.result.ended _ (IsUnendedFrom (IsDayFault g.D.Disk.meaning (g.C.Screen.has_failed c.run_day.new.screen)
      (CanReadNoMore (g.K.Keyboard.has_failed c.run_day.new.keyboard) (g.K.Keyboard.typed c.run_day.new.keyboard))) c.args.day.history.opened c.args.end.today) c.stop.ensures.ended
      (c.run_day.new.day.history, c.run_day.ensures.kept.after.history.opened, inl (c.from.result, stop_failed _ c.run_day.result c.in-Err.fault c.from.result c.in-Err.is c.run_day.ensures.fault c.from.ensures, refl));
}
