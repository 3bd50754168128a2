use Rattle.std.proofs.Common.{◌∷◌, ◌≤◌, length}
use Rattle.live_log.specs.declared.gates.TheConstants.{OPEN_GATE}
use Rattle.live_log.specs.Gates.{HasReadTo}
use Rattle.live_log.proofs.lines.read_lines.Given as goal

abbrev pub invariant-reading : goal.invariant-reading
invariant-reading l = record {
  counted : l.read.count ≤ length l.read.whole.items;
  read : HasReadTo l.fn.read l.read (OPEN_GATE ∷ l.text) l.rest;
}

abbrev pub decreases-reading : goal.decreases-reading
decreases-reading l = length l.rest
