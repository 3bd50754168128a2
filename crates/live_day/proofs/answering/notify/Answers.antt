use Rattle.std.proofs.Common.{inr}
use Rattle.live_day.specs.Shows.{notice_text}
use Rattle.live_day.proofs.SessionLaws.{tells_line}
use Rattle.live_day.proofs.ShowLaws.{shown_maybe, shown_one}
use Rattle.live_day.proofs.StoppedLaws.{on_err, tells_maybe}
use Rattle.live_day.proofs.answering.notify.Goals as goal

pub show-requires-clause-told : goal.show-requires-clause-told
show-requires-clause-told g c = inr (c.args.notice, c.requires.said, c.notice_line.ensures.value)

pub returns-in_err-show-clause-kept : goal.returns-in_err-show-clause-kept
returns-in_err-show-clause-kept g c =
    shown_maybe g.D.Disk.meaning c.args.day.now c.args.station c.notice_line.result.now (g.S.Screen.shown c.args.screen.now) (g.S.Screen.shown c.show.new.self)
    (λ keeps. c.station_count.ensures.logged keeps c.requires.takes) (λ keeps. c.station_count.ensures.durable keeps c.requires.takes)
    (inr (c.args.notice, c.requires.said, c.notice_line.ensures.value)) c.in_err-show.ensures.unshown

pub returns-clause-told : goal.returns-clause-told
returns-clause-told g c =
    tells_line g.D.Disk.meaning c.args.day.now c.args.station c.notice_line.result.now (notice_text c.args.notice) (g.S.Screen.shown c.args.screen.now) (g.S.Screen.shown c.show.new.self)
    c.notice_line.ensures.value c.in_ok-show.ensures.shown

pub returns-clause-kept : goal.returns-clause-kept
returns-clause-kept g c =
    shown_one g.D.Disk.meaning c.args.day.now c.args.station c.notice_line.result.now (g.S.Screen.shown c.args.screen.now) (g.S.Screen.shown c.show.new.self)
    (λ keeps. c.station_count.ensures.logged keeps c.requires.takes) (λ keeps. c.station_count.ensures.durable keeps c.requires.takes)
    (inr (c.args.notice, c.requires.said, c.notice_line.ensures.value)) c.in_ok-show.ensures.shown

pub returns-in_err-show-clause-cut : goal.returns-in_err-show-clause-cut
returns-in_err-show-clause-cut g c =
    on_err c.from_residual.result
    (tells_maybe g.D.Disk.meaning c.args.day.now c.args.station c.notice_line.result.now (notice_text c.args.notice) (g.S.Screen.shown c.args.screen.now) (g.S.Screen.shown c.show.new.self)
    c.notice_line.ensures.value c.in_err-show.ensures.unshown)
