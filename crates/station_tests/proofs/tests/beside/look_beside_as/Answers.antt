use denote.Param.Send.{param_send, arg_send, shr_send, sendable}
use Rattle.std.proofs.Crossing.{crosses}
use Rattle.shared_catalogue.proofs.seat.Seat.TheSendSync as seat
use Rattle.shared_catalogue.proofs.Crossing.{shared_sync, closure_send}
use Rattle.station_tests.proofs.tests.beside.look_beside_as.Goals as goal

pub join-ends-requires-send-F : goal.join-ends-requires-send-F
join-ends-requires-send-F g c κs within = search (param_send, arg_send, closure_send, shr_send, shared_sync, seat.the_send, sendable, crosses) depth 20
