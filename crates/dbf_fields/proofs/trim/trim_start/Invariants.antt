use Rattle.std.proofs.Common.{◌≡◌, ◌≤◌, length}
use Rattle.dbf_fields.specs.Number.{without_leading}
use Rattle.dbf_fields.proofs.trim.trim_start.Given as goal

abbrev pub invariant-loop-text : goal.invariant-loop-text
invariant-loop-text l = record {
  same : without_leading l.text ≡ without_leading l.cell;
  short : length l.text ≤ length l.cell;
}

abbrev pub decreases-loop-text : goal.decreases-loop-text
decreases-loop-text l = length l.text
