use Rattle.std.proofs.Common.{◌≡◌, ◌≤◌, ◌++◌, length, take}
use Rattle.std.specs.Prelude.{flat_map}
use Rattle.table_diff.specs.Changes.{cell_changes}
use Rattle.table_diff.specs.DiffText.{change_lines}
use Rattle.table_diff.proofs.records.append_values_changed.Given as goal

-- the changes of the values so far
abbrev pub invariant-loop-field : goal.invariant-loop-field
invariant-loop-field l =
    let told = flat_map (cell_changes l.old_table.table l.new_table.table l.numbers) (take l.field-index l.shared) in
    record {
      lines : l.line.items ≡ l.fn.line.items ++ change_lines told;
      count : l.count ≡ length told;
      bounded : l.count ≤ l.field-index;
    }
