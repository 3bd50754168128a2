use Rattle.std.proofs.Common.{◌≡◌, length}
use Rattle.std.specs.Prelude.{reverse}
use Rattle.dbf_fields.specs.Number.{without_leading}
use Rattle.table_diff.proofs.told.trimmed_end.Given as goal

abbrev pub invariant-loop-text : goal.invariant-loop-text
invariant-loop-text l = without_leading (reverse l.text) ≡ without_leading (reverse l.bytes)

abbrev pub decreases-loop-text : goal.decreases-loop-text
decreases-loop-text l = length l.text
