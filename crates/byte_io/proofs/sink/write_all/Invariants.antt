use Rattle.std.proofs.Common.{◌≡◌, length}
use Rattle.byte_io.specs.Sink.{grown, IsFront}
use Rattle.byte_io.proofs.sink.write_all.Given as goal

abbrev pub invariant-loop-rest : goal.invariant-loop-rest
invariant-loop-rest g l =
    let written = g.S.ByteSink.written in
    record {
      left : grown (written l.sink) l.rest ≡ grown (written l.fn.sink) l.bytes;
      kept : IsFront (written l.fn.sink) (written l.sink);
      no_failure : g.S.ByteSink.failures l.sink ≡ g.S.ByteSink.failures l.fn.sink;
    }

abbrev pub decreases-loop-rest : goal.decreases-loop-rest
decreases-loop-rest g l = length l.rest
