use Rattle.std.proofs.Common.{◌≡◌}
use Rattle.std.specs.Prelude.{flat_map}
use Rattle.byte_io.specs.Writer.{more}
use Rattle.ndx_index.specs.Image.{inner_page, inner_pages}
use Rattle.ndx_index.specs.Levels.{level}
use Rattle.ndx_index.proofs.TreeBytes.{pages_above}
use Rattle.ndx_index.specs.ListParts.{listed}
use Rattle.ndx_index.proofs.write.inner.put_inner_pages.Given as goal

-- what was put and what is left make the whole
abbrev pub invariant-loop-height : goal.invariant-loop-height
invariant-loop-height g l =
    let k = l.plan.shape.keys in
    let page = inner_page l.plan.shape.size in
    record {
      same : l.out.sink.ghost_name ≡ l.fn.out.sink.ghost_name;
      left : more l.out.wanted (flat_map page (pages_above k (listed l.plan.pairs) l.height)) ≡ more l.fn.out.wanted (flat_map page (inner_pages k (listed l.plan.pairs)));
      first : l.first ≡ (level k (listed l.plan.pairs) l.height).first;
    }
