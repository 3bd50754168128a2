use Rattle.std.proofs.Common.{◌≡◌, List, None, Some, length, Err, ap, subst, zero-le, rules}
use Rattle.std.specs.Prelude.{All}
use Rattle.catalogue_core.specs.Replay.{Opened, IsHistoryOf, history}
use Rattle.shared_catalogue.specs.Seats.{Seated, IsLowestMissing, IsOwn, AgreesWith}
use Rattle.shared_catalogue.specs.StatusRows.{status_rows}
use Rattle.office_run.specs.Reports.{first_stop}
use Rattle.office_run.proofs.EndLaws.{ends_report, stopped_run, all_seated, none_unsettled, start_exit, start_counted}
use Rattle.office_run.proofs.stations.run_stations.Goals as goal

pub returns-in-None-clause-reports : goal.returns-in-None-clause-reports
returns-in-None-clause-reports g c =
    let p = c.in_ok-seats.ensures in
    let es = c.in_ok-ends.ends.items in
    let many : length es ≡ length c.args.seats.items = search rules in
    let none : first_stop es ≡ None = search rules in
    let opened = g.J.Naming.opened in
    let journal = c.in_ok-closed.closed.journal in
    let rows : All (AgreesWith (status_rows (history opened journal))) c.in_ok-seats.seats.items = subst (λ (o : Opened). All (AgreesWith (status_rows (history o journal))) c.in_ok-seats.seats.items) c.in_ok-closed.ensures.opened c.in_ok-closed.ensures.agrees in
    let agree = subst (All (AgreesWith (status_rows (history opened journal)))) p.seats rows in
    let own = subst (All (IsOwn journal)) p.seats c.in_ok-closed.ensures.own in
    ends_report opened journal c.args.scripts.now c.args.seats.items es c.in_ok-seats.answers.items c.requires.seats c.in_ok-ends.ensures.each none many p.answers own agree

pub returns-in-Some-clause-fault : goal.returns-in-Some-clause-fault
returns-in-Some-clause-fault g c =
    let p = c.in_ok-seats.ensures in
    let es = c.in_ok-ends.ends.items in
    let opened = g.J.Naming.opened in
    let closed = c.in_ok-closed.closed in
    let many : length es ≡ length c.args.seats.items = search rules in
    let stop : first_stop es ≡ Some (c.in-Some.station, c.in-Some.stop) = search rules in
    let own = subst (All (IsOwn closed.journal)) p.seats c.in_ok-closed.ensures.own in
    let history : IsHistoryOf opened 0 closed = record { named = c.in_ok-closed.ensures.opened; legal = c.told_stop.ensures.legal; of_stations = c.told_stop.ensures.of_stations; long = zero-le } in
    stopped_run opened c.args.scripts.now c.args.seats.items es c.in-Some.station c.in-Some.stop c.told_stop.result closed c.requires.seats c.in_ok-ends.ensures.each many stop own history c.told_stop.ensures.full

pub returns-in_err-ends-clause-fault : goal.returns-in_err-ends-clause-fault
returns-in_err-ends-clause-fault g c = start_exit _ g.J.Naming.opened c.args.scripts.now _ c.from_residual.ensures.1 c.in_err-ends.ensures.fault

pub returns-in_err-ends-clause-count : goal.returns-in_err-ends-clause-count
returns-in_err-ends-clause-count g c = start_counted _ g.J.Naming.opened c.args.scripts.now _ c.from_residual.ensures.1 c.in_err-ends.ensures.fault (search rules)

pub returns-in_err-closed-clause-fault : goal.returns-in_err-closed-clause-fault
returns-in_err-closed-clause-fault g c =
    let opened = g.J.Naming.opened in
    let p = c.in_ok-seats.ensures in
    let es = c.in_ok-ends.ends.items in
    none_unsettled _ opened c.args.scripts.now c.in_ok-seats.seats.items c.in_err-closed.field-0.0
    (λ station e. (c.in_err-closed.ensures.missing station).0 (ap Err e))
    (λ station e. c.in_err-closed.ensures.no_mismatch station (ap Err e))
    (λ station missing. all_seated opened c.args.scripts.now c.args.seats.items es c.requires.seats c.in_ok-ends.ensures.each station (subst (λ (l : List Seated). IsLowestMissing l opened.stations station) p.seats missing))
