use Rattle.byte_io.specs.Laws.OfBytes.{slice_is_bytes, both_bytes}
use Rattle.byte_io.proofs.sink.wanted.Wanted.append.Goals as goal

pub invariant_of-self : goal.invariant_of-self
invariant_of-self g c = rw c.of-put.ensures (both_bytes c.self.inside.put.numbers c.args.bytes.now c.self.invariant (slice_is_bytes c.args.bytes.now c.type_inv.bytes))
