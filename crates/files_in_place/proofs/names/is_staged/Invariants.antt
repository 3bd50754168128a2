use Rattle.std.proofs.Common.{◌≡◌, drop}
use Rattle.files_in_place.specs.Staged.{is_staged}
use Rattle.files_in_place.proofs.names.is_staged.Given as goal

-- it depends on the names that are left
abbrev pub invariant-loop-staged : goal.invariant-loop-staged
invariant-loop-staged l = is_staged (drop l.staged-index l.names) l.name ≡ is_staged l.names l.name
