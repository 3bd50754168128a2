use Rattle.byte_io.specs.Laws.Sinks.{front_more, front_then, on_err, on_failure}
use Rattle.byte_io.proofs.sink.buffer.gather.Goals as goal

pub returns-in_err-send-clause-front : goal.returns-in_err-send-clause-front
returns-in_err-send-clause-front g c =
    let same = on_failure c.try_extend_from_slice.result c.is_ok.result c.is_ok.ensures.value c.if-is_ok.false c.try_extend_from_slice.ensures.err in
    on_err _ (front_more _ _ _ (rw same at c.in_err-send.ensures.front))

pub returns-in_err-write_all-clause-kept : goal.returns-in_err-write_all-clause-kept
returns-in_err-write_all-clause-kept g c = front_then _ _ _ c.in_ok-send.ensures.kept c.in_err-write_all.ensures.kept

pub returns-in_ok-write_all-clause-kept : goal.returns-in_ok-write_all-clause-kept
returns-in_ok-write_all-clause-kept g c = front_then _ _ _ c.in_ok-send.ensures.kept c.in_ok-write_all.ensures.kept
