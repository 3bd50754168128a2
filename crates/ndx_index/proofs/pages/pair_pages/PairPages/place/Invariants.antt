use Rattle.std.proofs.Common.{◌≡◌, ℕ, ◌-◌, ◌<◌, ◌≤◌, true, false, length}
use Rattle.ndx_index.specs.Bounds.{passes}
use Rattle.ndx_index.specs.Slots.{slot_at}
use Rattle.ndx_index.specs.PairPages.{page_at}
use Rattle.ndx_index.proofs.pages.pair_pages.PairPages.place.Given as goal

abbrev pub decreases-halves : goal.decreases-halves
decreases-halves l = l.high - l.low

abbrev pub invariant-halves : goal.invariant-halves
invariant-halves l =
    let here = page_at l.self.pages l.page in
    record {
      order : l.low ≤ l.high;
      within : l.high ≤ length here;
      below : (k : ℕ) → k < l.low → passes l.bound (slot_at here k) ≡ false;
      above : (k : ℕ) → l.high ≤ k → k < length here → passes l.bound (slot_at here k) ≡ true;
    }
