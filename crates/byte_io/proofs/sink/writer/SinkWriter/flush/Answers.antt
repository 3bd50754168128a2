use Rattle.byte_io.specs.Laws.Sinks.{front_then}
use Rattle.byte_io.proofs.Standing.{stands_after, sent_all}
use Rattle.byte_io.proofs.sink.writer.SinkWriter.flush.Goals as goal

pub invariant_of-self : goal.invariant_of-self
invariant_of-self g c =
    let h = rw c.if-self.false at c.args.self.now.stands in
    let kept = front_then _ _ _ h.0 c.send-sent.ensures.kept in
    record { stands = stands_after _ _ _ _ _ _ c.is_err-self.ensures.value kept (sent_all _ _ _ _ _ _ c.send-sent.ensures.wrote c.send-sent.ensures.none h.1.0) (rw h.1.1 at c.send-sent.ensures.no_failure) (rw h.1.0 at c.send-sent.ensures.front) (rw h.1.1 at c.send-sent.ensures.failed) }
