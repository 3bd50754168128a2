use Rattle.std.proofs.Common.{find}
use Rattle.ndx_index.specs.Bounds.{passes}
use Rattle.ndx_index.proofs.Searching.{GoesDown, first_of}
use Rattle.ndx_index.proofs.pages.search.first_place.Given as goal

abbrev pub decreases-levels : goal.decreases-levels
decreases-levels l = l.here.level

abbrev pub invariant-levels : goal.invariant-levels
invariant-levels l = GoesDown (find (passes l.bound)) first_of l.store.pages l.level l.page l.here l.next
