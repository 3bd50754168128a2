use Rattle.std.proofs.Common.{◌≡◌, ◌++◌, drop}
use Rattle.table_text.specs.Columns.{cell_shown, columns_text}
use Rattle.table_text.proofs.columns.append_cells.Given as goal

-- the columns that the line has and those that are left make the whole
abbrev pub invariant-loop-index : goal.invariant-loop-index
invariant-loop-index l =
    let shown = cell_shown l.table l.memos l.number in
    l.line.items ++ columns_text l.widths shown l.index (drop l.index l.fields) ≡ l.fn.line.items ++ columns_text l.widths shown 0 l.fields
