use Rattle.std.proofs.Common.{◌≡◌, ◌-◌, drop}
use Rattle.byteorder.specs.Endian.{little_bytes}
use Rattle.byte_io.specs.Writer.{more}
use Rattle.ndx_index.specs.Image.{inner_records}
use Rattle.ndx_index.specs.Levels.{children_from}
use Rattle.ndx_index.specs.ListParts.{listed}
use Rattle.ndx_index.proofs.write.inner.put_inner.Given as goal

-- what was put and what is left make the whole
abbrev pub invariant-loop-i : goal.invariant-loop-i
invariant-loop-i g l =
    let group = children_from l.plan.shape.keys (listed l.plan.pairs) l.level.height l.at l.count in
    record {
      same : l.out.sink.ghost_name ≡ l.fn.out.sink.ghost_name;
      left : more l.out.wanted (inner_records l.plan.shape.size (drop l.i group)) ≡ more (more l.fn.out.wanted (little_bytes 4 (l.count - 1))) (inner_records l.plan.shape.size group);
    }
