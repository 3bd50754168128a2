use Rattle.std.proofs.Common.{◌≡◌, ◌<◌, true, List, length, sym, subst, rules}
use Rattle.catalogue_core.specs.declared.entry.Entry.{Entry}
use Rattle.files_in_place.specs.Disk.{IsSyncedDisk}
use Rattle.live_log.specs.Logs.{HasLog}
use Rattle.live_day.specs.Days.{HasGoneOn, parts_of}
use Rattle.live_day.specs.Faults.{IsGroupFault}
use Rattle.live_day.specs.Groups.{IsFrontObeyed}
use Rattle.live_day.proofs.DayLaws.{any_none, put_moment, rest_is}
use Rattle.live_day.proofs.SinceLaws.{put_logged_on, put_too_long, some_on}
use Rattle.live_day.proofs.StopLaws.{group_fault, told_err}
use Rattle.live_day.proofs.StoppedLaws.{first_of_front, on_err}
use Rattle.live_day.proofs.day.Day.lines.Goals as goal

pub returns-in_err-front-clause-any_moment : goal.returns-in_err-front-clause-any_moment
returns-in_err-front-clause-any_moment g c keeps =
    let m = g.D.Disk.meaning in
    let synced : IsSyncedDisk m c.args.self.now.log.disk = search rules in
    let logged : HasLog c.args.self.now.log.name c.args.self.now.log.head (parts_of c.args.self.now.history.journal) (m.seen c.args.self.now.log.disk) = search rules in
    any_none m c.args.self.now c.perform_front.new.day c.perform_front.ensures.since.log synced logged

pub returns-then-entry_count-performed-clause-any_moment : goal.returns-then-entry_count-performed-clause-any_moment
returns-then-entry_count-performed-clause-any_moment g c keeps =
    let m = g.D.Disk.meaning in
    let synced : IsSyncedDisk m c.args.self.now.log.disk = search rules in
    let logged : HasLog c.args.self.now.log.name c.args.self.now.log.head (parts_of c.args.self.now.history.journal) (m.seen c.args.self.now.log.disk) = search rules in
    any_none m c.args.self.now c.perform_front.new.day c.perform_front.ensures.since.log synced logged

pub put-requires : goal.put-requires
put-requires g c =
    let h = c.args.self.now.history in
    let next = c.self-2.inside.catalogue in
    let first : c.journal-performed.result.now ≡ h.journal = search rules in
    let second : c.journal.result.now ≡ next.journal = search rules in
    let is = rest_is c.journal-performed.result.now c.journal.result.now h next first second in
    let longer : length h.journal < length next.journal = search rules in
    record { some = subst (λ (l : List Entry). 0 < length l) (sym is) (some_on h next longer) }

pub returns-in_err-put-clause-any_moment : goal.returns-in_err-put-clause-any_moment
returns-in_err-put-clause-any_moment g c keeps =
    let m = g.D.Disk.meaning in
    let h = c.args.self.now.history in
    let next = c.self-2.inside.catalogue in
    let first : c.journal-performed.result.now ≡ h.journal = search rules in
    let second : c.journal.result.now ≡ next.journal = search rules in
    let is = rest_is c.journal-performed.result.now c.journal.result.now h next first second in
    let same : c.self-2.inside.log ≡ c.args.self.now.log = search rules in
    let takes : c.self-2.inside.log.takes ≡ true = search rules in
    let logged : HasLog c.args.self.now.log.name c.args.self.now.log.head (parts_of h.journal) (m.seen c.args.self.now.log.disk) = search rules in
    put_moment m h next c.args.self.now.log c.self-2.inside.log same _ is c.put.new.self.disk
    (c.put.ensures.any_moment keeps takes (parts_of h.journal) (subst (λ l. HasLog l.name l.head (parts_of h.journal) (m.seen l.disk)) (sym same) logged))

pub returns-clause-any_moment : goal.returns-clause-any_moment
returns-clause-any_moment g c keeps =
    let m = g.D.Disk.meaning in
    let h = c.args.self.now.history in
    let next = c.self-2.inside.catalogue in
    let first : c.journal-performed.result.now ≡ h.journal = search rules in
    let second : c.journal.result.now ≡ next.journal = search rules in
    let is = rest_is c.journal-performed.result.now c.journal.result.now h next first second in
    let same : c.self-2.inside.log ≡ c.args.self.now.log = search rules in
    let takes : c.self-2.inside.log.takes ≡ true = search rules in
    let logged : HasLog c.args.self.now.log.name c.args.self.now.log.head (parts_of h.journal) (m.seen c.args.self.now.log.disk) = search rules in
    put_moment m h next c.args.self.now.log c.self-2.inside.log same _ is c.put.new.self.disk
    (c.put.ensures.any_moment keeps takes (parts_of h.journal) (subst (λ l. HasLog l.name l.head (parts_of h.journal) (m.seen l.disk)) (sym same) logged))

pub returns-clause-logged : goal.returns-clause-logged
returns-clause-logged g c keeps =
    let m = g.D.Disk.meaning in
    let h = c.args.self.now.history in
    let next = c.self-2.inside.catalogue in
    let first : c.journal-performed.result.now ≡ h.journal = search rules in
    let second : c.journal.result.now ≡ next.journal = search rules in
    let is = rest_is c.journal-performed.result.now c.journal.result.now h next first second in
    let same : c.self-2.inside.log ≡ c.args.self.now.log = search rules in
    let logged : HasLog c.args.self.now.log.name c.args.self.now.log.head (parts_of h.journal) (m.seen c.args.self.now.log.disk) = search rules in
    let on : HasGoneOn h next = search rules in
    put_logged_on m h next on c.args.self.now.log c.self-2.inside.log same _ is c.put.new.self c.put.ensures.name c.put.ensures.head (c.in_ok-put.ensures.put keeps) logged

pub invariant_of-self-2 : goal.invariant_of-self-2
invariant_of-self-2 g c on_takes = (
  c.in_ok-put.ensures.takes,
  λ keeps.
      let m = g.D.Disk.meaning in
      let h = c.args.self.now.history in
      let next = c.self-2.inside.catalogue in
      let first : c.journal-performed.result.now ≡ h.journal = search rules in
      let second : c.journal.result.now ≡ next.journal = search rules in
      let is = rest_is c.journal-performed.result.now c.journal.result.now h next first second in
      let same : c.self-2.inside.log ≡ c.args.self.now.log = search rules in
      let logged : HasLog c.args.self.now.log.name c.args.self.now.log.head (parts_of h.journal) (m.seen c.args.self.now.log.disk) = search rules in
      let on : HasGoneOn h next = search rules in
      put_logged_on m h next on c.args.self.now.log c.self-2.inside.log same _ is c.put.new.self c.put.ensures.name c.put.ensures.head (c.in_ok-put.ensures.put keeps) logged,
)

pub returns-in_err-front-clause-fault : goal.returns-in_err-front-clause-fault
returns-in_err-front-clause-fault g c =
    told_err _ c.from_residual.result _ c.from_residual.ensures.1 (subst (IsGroupFault g.D.Disk.meaning c.perform_front.new.day.history) (sym c.in_err-front.ensures.fault) tt)

pub returns-in_err-put-clause-fault : goal.returns-in_err-put-clause-fault
returns-in_err-put-clause-fault g c =
    let m = g.D.Disk.meaning in
    let h = c.args.self.now.history in
    let next = c.self-2.inside.catalogue in
    let takes : c.self-2.inside.log.takes ≡ true = search rules in
    told_err _ c.from_residual-in_err-put.result _ c.from_residual-in_err-put.ensures.1
    (group_fault m next c.put.result _ c.in_err-put.was (λ is. c.put.ensures.open takes is) (λ was keeps.
    let first : c.journal-performed.result.now ≡ h.journal = search rules in
    let second : c.journal.result.now ≡ next.journal = search rules in
    let is = rest_is c.journal-performed.result.now c.journal.result.now h next first second in
    let same : c.self-2.inside.log ≡ c.args.self.now.log = search rules in
    let logged : HasLog c.args.self.now.log.name c.args.self.now.log.head (parts_of h.journal) (m.seen c.args.self.now.log.disk) = search rules in
    let on : HasGoneOn h next = search rules in
    put_too_long m h next on c.args.self.now.log c.self-2.inside.log same _ is c.put.ensures.short (c.put.ensures.too_long keeps was) logged))

pub returns-in_err-front-clause-first : goal.returns-in_err-front-clause-first
returns-in_err-front-clause-first g c = on_err c.from_residual.result c.in_err-front.ensures.first

pub returns-in_err-put-clause-first : goal.returns-in_err-put-clause-first
returns-in_err-put-clause-first g c =
    let obeyed : IsFrontObeyed c.args.station c.args.lines.now c.args.self.now.history c.in_ok-front.front c.self-2.inside.catalogue = search rules in
    on_err c.from_residual-in_err-put.result (first_of_front c.args.station c.args.lines.now c.args.self.now.history c.in_ok-front.front c.self-2.inside.catalogue obeyed)
