use Rattle.std.proofs.Common.{◌≡◌, ◌-◌}
use Rattle.ndx_index.specs.TreeSteps.{MakesFree}
use Rattle.ndx_index.proofs.pages.free.make_free.Given as goal

abbrev pub invariant-more : goal.invariant-more
invariant-more l = MakesFree l.fn.store.pages l.store.pages l.fn.free l.free × (l.store.key_len ≡ l.fn.store.key_len)

abbrev pub decreases-more : goal.decreases-more
decreases-more l = l.wanted - l.free.count
