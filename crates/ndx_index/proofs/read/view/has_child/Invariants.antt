use Rattle.std.proofs.Common.{◌≡◌, not, false}
use Rattle.ndx_index.specs.Pages.{some_child, is_null}
use Rattle.ndx_index.proofs.read.view.has_child.Given as goal

abbrev pub invariant-loop-i : goal.invariant-loop-i
invariant-loop-i l = some_child (λ p. not (is_null p)) l.layout l.page l.i ≡ false
