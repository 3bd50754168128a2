use Rattle.std.proofs.Common.{◌≡◌, ◌≢◌, ◌-◌, ◌≤◌, drop, length}
use Rattle.std.specs.Prelude.{flat_map}
use Rattle.byte_io.specs.Writer.{more}
use Rattle.ndx_index.specs.Image.{inner_page, groups, inner_group_size, next_level}
use Rattle.ndx_index.specs.Levels.{level}
use Rattle.ndx_index.specs.ListParts.{listed}
use Rattle.ndx_index.proofs.write.inner.put_level.Given as goal

-- what was put and what is left make the whole
abbrev pub invariant-loop-at : goal.invariant-loop-at
invariant-loop-at g l =
    let k = l.plan.shape.keys in
    let page = inner_page l.plan.shape.size in
    let ts = (level k (listed l.plan.pairs) l.level.height).pages in
    record {
      same : l.out.sink.ghost_name ≡ l.fn.out.sink.ghost_name;
      rest : more l.out.wanted (flat_map page (groups (inner_group_size k) (length (drop l.at ts)) (drop l.at ts))) ≡ more l.fn.out.wanted (flat_map page (next_level k ts));
      within : l.at ≤ l.level.count;
      left : l.level.count - l.at ≢ 1;
    }

abbrev pub decreases-loop-at : goal.decreases-loop-at
decreases-loop-at g l = l.level.count - l.at
