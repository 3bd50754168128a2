use Rattle.std.proofs.Common.{rules, ◌≡◌, ◌∷◌, length}
use Rattle.std.specs.Vec.Iter.{into_iter_items}
use Rattle.live_stations.specs.Tellings.{IsThreadFault}
use Rattle.live_stations.proofs.MeetingLaws.{station_of}
use Rattle.live_stations.proofs.TellingLaws.{fault_of_station}
use Rattle.live_stations.proofs.threads.start_threads.Goals as goal

pub returns-in_err-start_typist-clause-fault : goal.returns-in_err-start_typist-clause-fault
returns-in_err-start_typist-clause-fault g c =
    let items : into_iter_items c.loop-end.end-iterator ≡ c.in-Some.end ∷ into_iter_items c.next.new.self = search rules in
    let one = station_of (length c.args.ends.items) c.loop-end.yielded c.in-Some.end (into_iter_items c.next.new.self) (into_iter_items c.loop-end.end-iterator) c.args.ends.items items
    c.loop-end.invariant.all c.requires.stations in
    let named : IsThreadFault (length c.args.ends.items) c.in_err-start_typist.field-0.0 =
    fault_of_station (length c.args.ends.items) c.in-Some.end.station c.in_err-start_typist.field-0.0 c.in_err-start_typist.ensures.fault one in
    search rules

pub returns-in_err-start_printer-clause-fault : goal.returns-in_err-start_printer-clause-fault
returns-in_err-start_printer-clause-fault g c =
    let items : into_iter_items c.loop-end.end-iterator ≡ c.in-Some.end ∷ into_iter_items c.next.new.self = search rules in
    let one = station_of (length c.args.ends.items) c.loop-end.yielded c.in-Some.end (into_iter_items c.next.new.self) (into_iter_items c.loop-end.end-iterator) c.args.ends.items items
    c.loop-end.invariant.all c.requires.stations in
    let named : IsThreadFault (length c.args.ends.items) c.in_err-start_printer.field-0.0 =
    fault_of_station (length c.args.ends.items) c.in-Some.end.station c.in_err-start_printer.field-0.0 c.in_err-start_printer.ensures.fault one in
    search rules
