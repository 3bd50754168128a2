use Rattle.std.proofs.Common.{◌≡◌, false}
use Rattle.ndx_index.specs.Pages.{some_child, is_null}
use Rattle.ndx_index.proofs.read.view.lacks_child.Given as goal

abbrev pub invariant-loop-i : goal.invariant-loop-i
invariant-loop-i l = some_child is_null l.layout l.page l.i ≡ false
