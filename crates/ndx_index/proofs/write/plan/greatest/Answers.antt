use Rattle.std.proofs.Common.{◌≡◌, ◌+◌, ◌*◌, ◌-◌, ◌≤◌, ℕ, List, length, min, ◌∙◌, arith}
use Rattle.std.proofs.lemmas.List.{get_or_default}
use Rattle.ndx_index.specs.declared.pair.Pair.{Pair}
use Rattle.ndx_index.specs.Slots.{slot_at, no_pair}
use Rattle.ndx_index.proofs.GreatestKeys.{step_down, step_same, last_pair}
use Rattle.ndx_index.proofs.Planning.{leaf_low, some_pairs}
use Rattle.ndx_index.specs.ListParts.{listed}
use Rattle.ndx_index.proofs.write.plan.greatest.Goals as goal

pub last_child-at-requires : goal.last_child-at-requires
last_child-at-requires c =
    let plan = c.args.plan.now in
    record { child = step_down plan.shape.keys (listed plan.pairs) plan.height c.loop-below.below c.loop-below.at plan.sizes plan.shape.fits.some plan.below (omega arith) (omega arith) c.loop-below.invariant.inside }

pub loop-below-preserved : goal.loop-below-preserved
loop-below-preserved c =
    let plan = c.args.plan.now in
    let step = step_same plan.shape.keys (listed plan.pairs) plan.height c.loop-below.below c.loop-below.at c.last_child-at.result plan.sizes plan.shape.fits.some plan.below (omega arith) (omega arith) c.loop-below.invariant.inside c.last_child-at.ensures.last in
    record { same = step.0 ∙ c.loop-below.invariant.same; inside = step.1 }

pub returns-then-rest-keys : goal.returns-then-rest-keys
returns-then-rest-keys c =
    let plan = c.args.plan.now in
    let k : ℕ = plan.shape.keys in
    let ps : List Pair = listed plan.pairs in
    let at : ℕ = c.loop-below.at in
    let i : ℕ = c.len-then-rest-keys.result - 1 in
    let count : c.len.result ≡ length ps = c.len.ensures.count in
    let all : c.len-then-rest-keys.result ≡ length ps = c.len-then-rest-keys.ensures.count in
    let some : 1 ≤ length ps = some_pairs k ps plan.height plan.sizes (omega arith) plan.below in
    let low = leaf_low k ps plan.height plan.sizes c.loop-below.below at (omega arith) plan.shape.fits.some (omega arith) plan.below c.loop-below.invariant.inside in
    let last : i + 1 ≡ min (at * k + k) (length ps) = omega (arith, c.if-rest-keys.true, count, all, some, low) in
    record {
      key = c.key.ensures.key
          ∙ last_pair k ps c.loop-below.below at i (slot_at ps i) (omega (arith, plan.shape.fits.some)) some (omega arith) c.loop-below.invariant.inside last (get_or_default ps i no_pair (slot_at ps i) (omega (arith, all, some)))
          ∙ c.loop-below.invariant.same;
      short = c.key.ensures.short;
    }

pub returns-else-rest-keys : goal.returns-else-rest-keys
returns-else-rest-keys c =
    let plan = c.args.plan.now in
    let k : ℕ = plan.shape.keys in
    let ps : List Pair = listed plan.pairs in
    let at : ℕ = c.loop-below.at in
    let i : ℕ = at * k + k - 1 in
    let count : c.len.result ≡ length ps = c.len.ensures.count in
    let one : 1 ≤ k = omega (arith, plan.shape.fits.some) in
    let some : 1 ≤ length ps = some_pairs k ps plan.height plan.sizes (omega arith) plan.below in
    let last : i + 1 ≡ min (at * k + k) (length ps) = omega (arith, one, c.if-rest-keys.false, count) in
    record {
      key = c.key-else-rest-keys.ensures.key
          ∙ last_pair k ps c.loop-below.below at i (slot_at ps i) one some (omega arith) c.loop-below.invariant.inside last (get_or_default ps i no_pair (slot_at ps i) (omega (arith, one, c.if-rest-keys.false, count)))
          ∙ c.loop-below.invariant.same;
      short = c.key-else-rest-keys.ensures.short;
    }
