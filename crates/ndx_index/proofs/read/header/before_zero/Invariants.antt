use Rattle.std.proofs.Common.{◌≡◌, ◌++◌, take, drop}
use Rattle.ndx_index.specs.Header.{before_zero}
use Rattle.ndx_index.proofs.read.header.before_zero.Given as goal

abbrev pub invariant-loop-i : goal.invariant-loop-i
invariant-loop-i l = take l.i l.text ++ before_zero (drop l.i l.text) ≡ before_zero l.text
