use Rattle.std.proofs.Common.{◌≡◌, map, take}
use Rattle.catalogue_core.proofs.state.opening.collect_names.Given as goal

abbrev pub invariant-loop-i : goal.invariant-loop-i
invariant-loop-i l = l.names ≡ take l.i (map (λ t. t.name) l.opened)
