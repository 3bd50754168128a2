use Rattle.std.proofs.Common.{◌≡◌, drop}
use Rattle.table_diff.specs.Fields.{are_same_fields}
use Rattle.table_diff.proofs.fields.are_same_fields.Given as goal

-- the fields are the same where those that are left are
abbrev pub invariant-loop-index : goal.invariant-loop-index
invariant-loop-index l = are_same_fields (drop l.index l.old) (drop l.index l.new) ≡ are_same_fields l.old l.new
