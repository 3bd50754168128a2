use Rattle.std.proofs.Common.{sym}
use Rattle.byte_io.specs.Laws.Sinks.{grown_then, front_more, front_then}
use Rattle.byte_io.proofs.Standing.{stands_put}
use Rattle.byte_io.proofs.sink.writer.SinkWriter.put.Goals as goal

-- a sink that has failed has a front part of more, too
pub invariant_of-self : goal.invariant_of-self
invariant_of-self g c =
    let h = rw c.if-self.true at c.args.self.now.stands in
    record { stands = rw (c.if-self.true, c.append.ensures.value, sym (grown_then c.args.self.now.wanted.begun c.args.self.now.wanted.put c.args.bytes.now)) (h.0, (front_more _ _ _ h.1.0, h.1.1)) }

pub invariant_of-self-2 : goal.invariant_of-self-2
invariant_of-self-2 g c =
    let h = rw c.if-self.false at c.args.self.now.stands in
    let kept = front_then _ _ _ h.0 c.gather.ensures.kept in
    record { stands = rw c.append.ensures.value (stands_put _ _ _ _ _ _ _ c.is_err-self.ensures.value kept (rw h.1.0 at c.gather.ensures.put) (rw h.1.1 at c.gather.ensures.no_failure) (rw h.1.0 at c.gather.ensures.front) (rw h.1.1 at c.gather.ensures.failed)) }
