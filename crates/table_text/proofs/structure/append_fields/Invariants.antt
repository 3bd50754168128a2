use Rattle.std.proofs.Common.{◌≡◌, ◌+◌, ◌++◌, drop}
use Rattle.table_text.specs.Structure.{field_lines}
use Rattle.table_text.proofs.structure.append_fields.Given as goal

-- the lines that the text has and those that are left make the whole
abbrev pub invariant-loop-index : goal.invariant-loop-index
invariant-loop-index l = l.text.items ++ field_lines (l.index + 1) (drop l.index l.fields) ≡ l.fn.text.items ++ field_lines 1 l.fields
