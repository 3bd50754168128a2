use Rattle.std.proofs.Common.{◌≡◌, ◌++◌, drop}
use Rattle.table_text.specs.Csv.{csv_fields}
use Rattle.table_text.proofs.csv.append_names.Given as goal

-- the names that the line has and those that are left make the whole
abbrev pub invariant-loop-index : goal.invariant-loop-index
invariant-loop-index l = l.line.items ++ csv_fields (λ _ f. f.name) l.index (drop l.index l.fields) ≡ l.fn.line.items ++ csv_fields (λ _ f. f.name) 0 l.table.schema
