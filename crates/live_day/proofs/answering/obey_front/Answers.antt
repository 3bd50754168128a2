use Rattle.std.proofs.Common.{◌∙◌, ◌++◌, List, ap, subst, sym}
use Rattle.std.specs.List.{AllByRecursion}
use Rattle.live_day.specs.declared.waiting.WaitingAnswer.{WaitingAnswer}
use Rattle.live_day.specs.Waiting.{IsWaiting, ShowsFront, all_shown_after}
use Rattle.live_day.proofs.ShowLaws.{after_put, shown_both, shown_none}
use Rattle.live_day.proofs.StopLaws.{goes_on_err, stopped_log, told_err}
use Rattle.live_day.proofs.StoppedLaws.{cut_front, cut_untold, on_err}
use Rattle.live_day.proofs.WaitingLaws.{shown_answers, shown_front, tells_answers}
use Rattle.live_day.proofs.answering.obey_front.Goals as goal

pub returns-in_err-front-clause-kept : goal.returns-in_err-front-clause-kept
returns-in_err-front-clause-kept g c =
    let m = g.D.Disk.meaning in
    let b = c.lines.new.self in
    shown_none m c.args.day.now b (g.S.Screen.shown c.args.screen.now)
    (after_put m c.args.day.now b c.lines.ensures.name c.lines.ensures.head c.lines.ensures.goes_on c.lines.ensures.others c.lines.ensures.any_moment)

pub show_all-requires-clause-waiting : goal.show_all-requires-clause-waiting
show_all-requires-clause-waiting g c =
    subst (λ (l : List WaitingAnswer). AllByRecursion (IsWaiting c.lines.new.self.history) l) (sym c.as_slice.ensures.value) c.in_ok-front.ensures.waiting

pub returns-in_err-show_all-clause-kept : goal.returns-in_err-show_all-clause-kept
returns-in_err-show_all-clause-kept g c =
    let m = g.D.Disk.meaning in
    let b = c.lines.new.self in
    let x = g.S.Screen.shown c.args.screen.now in
    let z = g.S.Screen.shown c.show_all.new.self in
    let waiting = subst (λ (l : List WaitingAnswer). AllByRecursion (IsWaiting b.history) l) (sym c.as_slice.ensures.value) c.in_ok-front.ensures.waiting in
    shown_both m c.args.day.now b b x x z
    (shown_none m c.args.day.now b x (after_put m c.args.day.now b c.lines.ensures.name c.lines.ensures.head c.lines.ensures.goes_on c.lines.ensures.others c.lines.ensures.any_moment))
    (shown_front m b (λ keeps. c.in_ok-front.ensures.logged keeps) (λ keeps. c.in_ok-front.ensures.durable keeps) c.as_slice.result.now x z waiting c.in_err-show_all.ensures.unshown)

pub returns-clause-kept : goal.returns-clause-kept
returns-clause-kept g c =
    let m = g.D.Disk.meaning in
    let b = c.lines.new.self in
    let x = g.S.Screen.shown c.args.screen.now in
    let z = g.S.Screen.shown c.show_all.new.self in
    let waiting = subst (λ (l : List WaitingAnswer). AllByRecursion (IsWaiting b.history) l) (sym c.as_slice.ensures.value) c.in_ok-front.ensures.waiting in
    shown_both m c.args.day.now b b x x z
    (shown_none m c.args.day.now b x (after_put m c.args.day.now b c.lines.ensures.name c.lines.ensures.head c.lines.ensures.goes_on c.lines.ensures.others c.lines.ensures.any_moment))
    (shown_answers m b (λ keeps. c.in_ok-front.ensures.logged keeps) (λ keeps. c.in_ok-front.ensures.durable keeps) c.as_slice.result.now x z waiting c.in_ok-show_all.ensures.shown)

pub returns-clause-told : goal.returns-clause-told
returns-clause-told g c =
    let m = g.D.Disk.meaning in
    let b = c.lines.new.self in
    let x = g.S.Screen.shown c.args.screen.now in
    tells_answers m b c.in_ok-front.front.answers.items x (g.S.Screen.shown c.show_all.new.self)
    (c.in_ok-show_all.ensures.shown ∙ ap (λ (l : List WaitingAnswer). x ++ all_shown_after m b l) c.as_slice.ensures.value)

pub returns-in_err-front-clause-stopped : goal.returns-in_err-front-clause-stopped
returns-in_err-front-clause-stopped g c = stopped_log c.from_residual.result _ c.lines.new.self.takes c.from_residual.ensures.1 c.in_err-front.ensures.ended

pub returns-in_err-show_all-clause-stopped : goal.returns-in_err-show_all-clause-stopped
returns-in_err-show_all-clause-stopped g c =
    goes_on_err c.from_residual-in_err-show_all.result _ c.lines.new.self.takes c.in_ok-front.ensures.takes c.from_residual-in_err-show_all.ensures.1 (λ never. never)

pub returns-in_err-front-clause-fault : goal.returns-in_err-front-clause-fault
returns-in_err-front-clause-fault g c = told_err _ c.from_residual.result _ c.from_residual.ensures.1 c.in_err-front.ensures.fault

pub returns-in_err-show_all-clause-fault : goal.returns-in_err-show_all-clause-fault
returns-in_err-show_all-clause-fault g c =
    told_err _ c.from_residual-in_err-show_all.result _ c.from_residual-in_err-show_all.ensures.1 c.in_err-show_all.ensures.failed

pub returns-in_err-front-clause-cut : goal.returns-in_err-front-clause-cut
returns-in_err-front-clause-cut g c =
    on_err c.from_residual.result (cut_untold c.args.station c.args.lines.now c.args.day.now.history c.lines.new.self.history (g.S.Screen.shown c.args.screen.now) c.in_err-front.ensures.first)

pub returns-in_err-show_all-clause-cut : goal.returns-in_err-show_all-clause-cut
returns-in_err-show_all-clause-cut g c =
    let m = g.D.Disk.meaning in
    let b = c.lines.new.self in
    let x = g.S.Screen.shown c.args.screen.now in
    let z = g.S.Screen.shown c.show_all.new.self in
    on_err c.from_residual-in_err-show_all.result (cut_front m b c.args.station c.args.lines.now c.args.day.now.history c.in_ok-front.front b.history x z c.in_ok-front.ensures.obeyed
    (subst (λ (l : List WaitingAnswer). ShowsFront x z (all_shown_after m b l)) c.as_slice.ensures.value c.in_err-show_all.ensures.unshown))
