use Rattle.std.proofs.Common.{List, sym, subst}
use Rattle.shared_catalogue.specs.Seats.{Seated}
use Rattle.office_run.specs.Reports.{AreSeatsInOrder}
use Rattle.office_run.proofs.EndLaws.{in_order}
use Rattle.office_run.proofs.catalogue.run_as.Goals as goal

pub run_stations-requires-clause-seats : goal.run_stations-requires-clause-seats
run_stations-requires-clause-seats g c = λ κs h. subst (λ (l : List Seated). AreSeatsInOrder g.J.Naming.opened.stations l) (sym c.in_ok-shared.ensures.seats) (in_order g.J.Naming.opened.stations)
