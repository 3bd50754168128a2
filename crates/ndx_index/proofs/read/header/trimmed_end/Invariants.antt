use Rattle.std.proofs.Common.{◌≡◌, ◌≤◌, length, take}
use Rattle.ndx_index.specs.Header.{trimmed_end}
use Rattle.ndx_index.proofs.read.header.trimmed_end.Given as goal

abbrev pub invariant-loop-end : goal.invariant-loop-end
invariant-loop-end l = record { within : l.end ≤ length l.text; same : trimmed_end (take l.end l.text) ≡ trimmed_end l.text }

abbrev pub decreases-loop-end : goal.decreases-loop-end
decreases-loop-end l = l.end
