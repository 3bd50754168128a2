use Rattle.std.proofs.Common.{◌≡◌, ◌+◌, ◌-◌, ◌≤◌, ◌++◌, drop, length}
use Rattle.std.specs.Prelude.{flat_map}
use Rattle.table_diff.specs.Matching.{all_matches, keys_once, matches_with}
use Rattle.table_diff.proofs.keys.matched.Given as goal

-- those that were found, and those of the pairs that are left, make all
abbrev pub invariant-loop-next : goal.invariant-loop-next
invariant-loop-next l =
    let left = flat_map (matches_with (drop l.old_place l.olds.pairs) (drop l.new_place l.news.pairs)) (keys_once (l.olds.pairs ++ l.news.pairs)) in
    record {
      found : l.found.items ++ left ≡ all_matches l.olds.pairs l.news.pairs;
      old_inside : l.old_place ≤ length l.olds.pairs;
      new_inside : l.new_place ≤ length l.news.pairs;
    }

abbrev pub decreases-loop-next : goal.decreases-loop-next
decreases-loop-next l = (length l.olds.pairs - l.old_place) + (length l.news.pairs - l.new_place)
