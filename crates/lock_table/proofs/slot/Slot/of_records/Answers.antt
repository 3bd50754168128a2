use Rattle.std.proofs.Common.{ℕ, List, length, drop, arith, length-drop, ap}
use Rattle.lock_table.specs.NumberLaws.{length_different}
use Rattle.lock_table.proofs.slot.Slot.of_records.Goals as goal

pub insert-requires : goal.insert-requires
insert-requires c =
    let rest = drop c.loop-i.i c.args.numbers.now in
    record { room = omega (arith, ap (λ (ns : List ℕ). length ns) c.loop-i.invariant, length_different rest, length-drop c.loop-i.i c.args.numbers.now) }
