use Rattle.std.proofs.Common.{◌≡◌, ◌++◌, drop}
use Rattle.table_text.specs.Columns.{columns_text}
use Rattle.table_text.proofs.columns.append_names.Given as goal

-- the columns that the line has and those that are left make the whole
abbrev pub invariant-loop-index : goal.invariant-loop-index
invariant-loop-index l = l.line.items ++ columns_text l.widths (λ _ f. f.name) l.index (drop l.index l.fields) ≡ l.fn.line.items ++ columns_text l.widths (λ _ f. f.name) 0 l.fields
