use Rattle.std.proofs.Common.{arith}
use Rattle.byte_io.specs.Laws.Sinks.{front_by, front_from, front_then, on_err, sinks}
use Rattle.byte_io.specs.Laws.OfBytes.{slice_is_bytes}
use Rattle.byte_io.proofs.sink.write_all.Goals as goal

pub loop-rest-preserved : goal.loop-rest-preserved
loop-rest-preserved g c = record {
  left = grind (arith, sinks);
  kept = front_then _ _ _ c.loop-rest.invariant.kept (front_by _ _ _ c.in_ok-n.ensures.wrote);
  no_failure = grind (arith, sinks);
}

pub returns-in_err-n-clause-front : goal.returns-in_err-n-clause-front
returns-in_err-n-clause-front g c = on_err _ (front_from _ _ _ _ c.in_err-n.ensures.unwritten c.loop-rest.invariant.left)

pub returns-in_err-n-clause-bytes : goal.returns-in_err-n-clause-bytes
returns-in_err-n-clause-bytes g c = slice_is_bytes c.args.bytes.now c.type_inv.bytes

pub returns-clause-bytes : goal.returns-clause-bytes
returns-clause-bytes g c = slice_is_bytes c.args.bytes.now c.type_inv.bytes
