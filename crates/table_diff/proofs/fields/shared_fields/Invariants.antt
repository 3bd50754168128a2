use Rattle.std.proofs.Common.{◌≡◌, ◌++◌, drop}
use Rattle.table_diff.specs.Fields.{shared_fields, shared_from}
use Rattle.table_diff.proofs.fields.shared_fields.Given as goal

-- the fields so far and those of the old ones that are left make all
abbrev pub invariant-loop-index : goal.invariant-loop-index
invariant-loop-index l = l.shared.items ++ shared_from l.index (drop l.index l.old_fields) l.new_fields ≡ shared_fields l.old_fields l.new_fields
