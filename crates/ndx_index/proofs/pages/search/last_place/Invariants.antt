use Rattle.ndx_index.specs.Bounds.{passes}
use Rattle.ndx_index.specs.LeafPlaces.{last_in}
use Rattle.ndx_index.proofs.Searching.{GoesDown, last_failing_of}
use Rattle.ndx_index.proofs.pages.search.last_place.Given as goal

abbrev pub decreases-levels : goal.decreases-levels
decreases-levels l = l.here.level

abbrev pub invariant-levels : goal.invariant-levels
invariant-levels l = GoesDown (last_failing_of (passes l.bound)) last_in l.store.pages l.level l.page l.here l.previous
