use Rattle.std.proofs.Common.{◌≡◌, ◌++◌, map, take, true}
use Rattle.key_expr.specs.Windows.{upper_if}
use Rattle.key_expr.proofs.evaluate.put_in_capitals.Given as goal

abbrev pub invariant-loop-byte : goal.invariant-loop-byte
invariant-loop-byte l = l.out ≡ l.initial.out ++ map (upper_if true) (take l.byte-index l.bytes)
