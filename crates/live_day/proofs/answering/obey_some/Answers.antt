use Rattle.std.proofs.Common.{◌++◌, arith, subst, sym}
use Rattle.live_day.specs.Faults.{IsDayFault, IsOfLog}
use Rattle.live_day.specs.Groups.{all_told_by}
use Rattle.live_day.specs.Sessions.{notice_told}
use Rattle.live_day.proofs.GroupLaws.{obeyed_first}
use Rattle.live_day.proofs.SessionLaws.{tells_both}
use Rattle.live_day.proofs.ShowLaws.{shown_both}
use Rattle.live_day.proofs.StopLaws.{goes_on_err, stopped_same, told_err}
use Rattle.live_day.proofs.StoppedLaws.{cut_notice, on_err}
use Rattle.live_day.proofs.answering.obey_some.Goals as goal

pub returns-then-front-gt0-clause-obeyed : goal.returns-then-front-gt0-clause-obeyed
returns-then-front-gt0-clause-obeyed g c = (all_told_by c.in_ok-front.front.answers.items, c.in_ok-front.ensures.told, c.in_ok-front.ensures.obeyed.obeyed)

pub notify-requires-clause-said : goal.notify-requires-clause-said
notify-requires-clause-said g c = (rw c.in-Some.is at c.in_ok-front.ensures.obeyed.stopped).refused.said

pub returns-clause-obeyed : goal.returns-clause-obeyed
returns-clause-obeyed g c =
    let front = c.in_ok-front.front in
    let next = rw c.in-Some.is at c.in_ok-front.ensures.obeyed.stopped in (
      all_told_by front.answers.items ++ notice_told front.station c.obey_front.new.day.history c.in-Some.notice,
      tells_both (g.S.Screen.shown c.args.screen.now) (g.S.Screen.shown c.obey_front.new.screen) (g.S.Screen.shown c.notify.new.screen) _ _ c.in_ok-front.ensures.told c.in_ok-notify.ensures.told,
      obeyed_first c.args.station c.args.lines.now c.args.day.now.history front c.obey_front.new.day.history c.in-Some.notice (omega arith) (record { typed = next.typed; next = next.next; refused = next.refused }) c.in_ok-front.ensures.obeyed.obeyed,
    )

pub returns-clause-kept : goal.returns-clause-kept
returns-clause-kept g c =
    shown_both g.D.Disk.meaning c.args.day.now c.obey_front.new.day c.obey_front.new.day (g.S.Screen.shown c.args.screen.now) (g.S.Screen.shown c.obey_front.new.screen) (g.S.Screen.shown c.notify.new.screen)
    c.obey_front.ensures.kept c.notify.ensures.kept

pub returns-in_err-notify-clause-kept : goal.returns-in_err-notify-clause-kept
returns-in_err-notify-clause-kept g c =
    shown_both g.D.Disk.meaning c.args.day.now c.obey_front.new.day c.obey_front.new.day (g.S.Screen.shown c.args.screen.now) (g.S.Screen.shown c.obey_front.new.screen) (g.S.Screen.shown c.notify.new.screen)
    c.obey_front.ensures.kept c.notify.ensures.kept

pub returns-in_err-front-clause-stopped : goal.returns-in_err-front-clause-stopped
returns-in_err-front-clause-stopped g c =
    stopped_same c.from_residual.result _ c.obey_front.new.day.takes c.from_residual.ensures.1 c.in_err-front.ensures.stopped

pub returns-in_err-front-clause-fault : goal.returns-in_err-front-clause-fault
returns-in_err-front-clause-fault g c = told_err _ c.from_residual.result _ c.from_residual.ensures.1 c.in_err-front.ensures.fault

pub returns-in_err-notify-clause-stopped : goal.returns-in_err-notify-clause-stopped
returns-in_err-notify-clause-stopped g c =
    goes_on_err c.from_residual-in_err-notify.result _ c.obey_front.new.day.takes c.in_ok-front.ensures.takes c.from_residual-in_err-notify.ensures.1 (λ never. subst IsOfLog c.in_err-notify.ensures.fault never)

pub returns-in_err-notify-clause-fault : goal.returns-in_err-notify-clause-fault
returns-in_err-notify-clause-fault g c =
    let failed = g.S.Screen.has_failed c.notify.new.screen in
    told_err _ c.from_residual-in_err-notify.result _ c.from_residual-in_err-notify.ensures.1
    (subst (IsDayFault g.D.Disk.meaning failed ⊥ c.obey_front.new.day.history) (sym c.in_err-notify.ensures.fault) c.in_err-notify.ensures.failed)

pub returns-in_err-front-clause-cut : goal.returns-in_err-front-clause-cut
returns-in_err-front-clause-cut g c = on_err c.from_residual.result c.in_err-front.ensures.cut

pub returns-in_err-notify-clause-cut : goal.returns-in_err-notify-clause-cut
returns-in_err-notify-clause-cut g c =
    let front = c.in_ok-front.front in
    let next = rw c.in-Some.is at c.in_ok-front.ensures.obeyed.stopped in
    on_err c.from_residual-in_err-notify.result (cut_notice c.args.station c.args.lines.now c.args.day.now.history front c.obey_front.new.day.history c.in-Some.notice
    (g.S.Screen.shown c.args.screen.now) (g.S.Screen.shown c.obey_front.new.screen) (g.S.Screen.shown c.notify.new.screen) (omega arith) (record { typed = next.typed; next = next.next; refused = next.refused })
    c.in_ok-front.ensures.obeyed.obeyed c.in_ok-front.ensures.told c.in_err-notify.ensures.cut)
