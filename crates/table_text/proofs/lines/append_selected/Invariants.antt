use Rattle.std.proofs.Common.{◌≡◌, ◌++◌, option_copied}
use Rattle.table_text.specs.Selection.{selected_from, AreNumbersOf}
use Rattle.table_text.proofs.lines.append_selected.Given as goal

-- those that are shown of the places so far were added
abbrev pub invariant-loop-place : goal.invariant-loop-place
invariant-loop-place l =
    let left = selected_from l.table (option_copied l.order) l.selection in
    record {
      selected : l.numbers.items ++ left l.place ≡ l.fn.numbers.items ++ left l.first;
      records : AreNumbersOf l.table l.fn.numbers.items → AreNumbersOf l.table l.numbers.items;
    }
