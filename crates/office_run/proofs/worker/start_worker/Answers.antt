use denote.Param.Send.{param_send, arg_send, shr_send}
use Rattle.std.proofs.alloc.Global.TheSendSync as alloc
use Rattle.byte_io.proofs.bytes.Bytes.TheSendSync as bytes
use Rattle.shared_catalogue.proofs.seat.Seat.TheSendSync as seat
use Rattle.shared_catalogue.proofs.Crossing.{shared_sync}
use Rattle.office_run.proofs.Crossing.{closure_send}
use Rattle.office_run.proofs.worker.start_worker.Goals as goal

pub spawn_with-requires-send-F : goal.spawn_with-requires-send-F
spawn_with-requires-send-F g c κs within = search (param_send, arg_send, closure_send, shr_send, alloc.the_send, shared_sync, seat.the_send, bytes.the_sync)
