use Rattle.std.proofs.Common.{◌≡◌, ◌+◌, ◌≤◌, ◌<◌, ◌^◌, length}
use Rattle.std.specs.Prelude.{flat_map}
use Rattle.std.specs.List.{AllByRecursion}
use Rattle.byte_io.specs.Writer.{more}
use Rattle.ndx_index.specs.ListParts.{listed}
use Rattle.ndx_index.specs.Image.{groups, leaf_group_size, leaf_page}
use Rattle.ndx_index.proofs.write.leaf.put_leaves.Given as goal

-- what was put and what is left make the whole
abbrev pub invariant-loop-rest : goal.invariant-loop-rest
invariant-loop-rest g l = record {
  same : l.out.sink.ghost_name ≡ l.fn.out.sink.ghost_name;
  left : more l.out.wanted (flat_map (leaf_page l.shape.size) (groups (leaf_group_size l.shape.keys) (length (listed l.rest)) (listed l.rest))) ≡ more l.fn.out.wanted (flat_map (leaf_page l.shape.size) (groups (leaf_group_size l.shape.keys) (length (listed l.pairs)) (listed l.pairs)));
  keys : AllByRecursion (λ p. length p.key + 8 ≤ l.shape.size) (listed l.rest);
  numbers : AllByRecursion (λ p. p.number < 2 ^ 32) (listed l.rest) → AllByRecursion (λ p. p.number < 2 ^ 32) (listed l.pairs);
}

abbrev pub decreases-loop-rest : goal.decreases-loop-rest
decreases-loop-rest g l = length (listed l.rest)
