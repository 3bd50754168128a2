use Rattle.std.proofs.Common.{◌≡◌, ◌++◌, replicate, vec_capacity}
use Rattle.ndx_index.proofs.pages.runs.push_copies.Given as goal

abbrev pub invariant-loop-i : goal.invariant-loop-i
invariant-loop-i g l = record {
  items : l.run.items ≡ l.fn.run.items ++ replicate l.i l.value;
  capacity : vec_capacity l.run ≡ vec_capacity l.fn.run;
}
