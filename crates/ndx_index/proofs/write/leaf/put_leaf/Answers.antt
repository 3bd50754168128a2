use Rattle.std.proofs.Common.{◌∙◌}
use Rattle.byte_io.specs.Laws.Puts.{more_all_three}
use Rattle.ndx_index.specs.ListParts.{listed}
use Rattle.ndx_index.proofs.Writing.{leaf_parts}
use Rattle.ndx_index.proofs.write.leaf.put_leaf.Goals as goal

pub returns-clause-put : goal.returns-clause-put
returns-clause-put g c = (
  c.put_zeros.ensures.put.0 ∙ (c.put_pairs.ensures.put.0 ∙ c.put_u32.ensures.put.0),
  rw (c.put_zeros.ensures.put.1, c.put_pairs.ensures.put.1, c.put_u32.ensures.put.1, c.len-count.ensures.count) (more_all_three _ _ _ _ _ (leaf_parts c.args.shape.size (listed c.args.group) c.requires.keys)),
)
