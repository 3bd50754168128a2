use Rattle.std.proofs.Common.{ℕ, List, ◌-◌, option_copied}
use Rattle.table_text.specs.Lines.{lines_in}
use Rattle.table_text.specs.Output.{PutsAllBut}
use Rattle.table_text.specs.Selection.{selected_from}
use Rattle.table_text.proofs.lines.put_lines.Given as goal

-- all is put but the lines of the records that are left
abbrev pub invariant-loop-first : goal.invariant-loop-first
invariant-loop-first g l =
    let lines = λ (place : ℕ). lines_in l.format l.table (selected_from l.table (option_copied l.order) l.selection place) in
    PutsAllBut l.fn.out (lines 0) (lines l.first) l.out

abbrev pub decreases-loop-first : goal.decreases-loop-first
decreases-loop-first g l = l.count - l.first
