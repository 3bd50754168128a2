use Rattle.std.proofs.Common.{◌≡◌, ℕ, ◌≤◌, ◌++◌, reverse}
use Rattle.ndx_index.specs.Pages.{children}
use Rattle.ndx_index.specs.Shallow.{AreShallow}
use Rattle.ndx_index.specs.Walks.{at_depth}
use Rattle.ndx_index.proofs.read.walk.push_children.Given as goal

abbrev pub invariant-loop-i : goal.invariant-loop-i
invariant-loop-i l = record {
  all : l.pending.items ++ reverse (at_depth l.depth (children l.inner.layout l.inner.bytes.now l.i))
      ≡ l.fn.pending.items ++ reverse (at_depth l.depth (children l.inner.layout l.inner.bytes.now l.inner.count));
  shallow : (most : ℕ) → l.depth ≤ most → AreShallow most l.fn.pending.items → AreShallow most l.pending.items;
}
