use Rattle.std.proofs.Common.{◌<◌, ◌^◌, take}
use Rattle.std.specs.Prelude.{flat_map}
use Rattle.std.specs.List.{AllByRecursion}
use Rattle.byte_io.specs.Output.{Puts}
use Rattle.ndx_index.specs.Image.{leaf_record}
use Rattle.ndx_index.specs.ListParts.{listed}
use Rattle.ndx_index.proofs.write.leaf.put_pairs.Given as goal

abbrev pub invariant-loop-at : goal.invariant-loop-at
invariant-loop-at g l = record {
  put : Puts l.fn.out (flat_map (leaf_record l.shape.size) (take l.at (listed l.group))) l.out;
  numbers : AllByRecursion (λ p. p.number < 2 ^ 32) (take l.at (listed l.group));
}
