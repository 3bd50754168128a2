use Rattle.std.proofs.Common.{◌≡◌, ℕ, List, [], ◌∷◌, ◌++◌, vec_len}
use Rattle.table_text.specs.Columns.{column_widths}
use Rattle.table_text.proofs.WidthLaws.{widths_at}
use Rattle.table_text.proofs.widths.widen.Given as goal

-- the columns before this one are as wide as with the record, and the others as before
abbrev pub invariant-loop-index : goal.invariant-loop-index
invariant-loop-index l = record {
  whole : (shown : List ℕ) → l.fn.widths.items ≡ column_widths l.table shown l.memos → l.widths.items ≡ widths_at l.table (shown ++ l.number ∷ []) shown l.memos l.index l.table.schema;
  many : vec_len l.widths ≡ vec_len l.fn.widths;
}
