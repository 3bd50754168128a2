use Rattle.std.proofs.Common.{◌<◌, List, length, take, get_or, ap, false, length-append, arith}
use Rattle.std.specs.Prelude.{flat_map}
use Rattle.table_diff.specs.declared.fields.SharedField.{SharedField}
use Rattle.table_diff.specs.Changes.{Change, cell_changes}
use Rattle.table_diff.specs.DiffText.{change_lines}
use Rattle.table_diff.specs.Fields.{shared_at}
use Rattle.table_diff.proofs.Steps.{one_more, changed_next, changed_lines_next}
use Rattle.table_diff.proofs.records.append_values_changed.Goals as goal

pub loop-field-preserved : goal.loop-field-preserved
loop-field-preserved c =
    let old = c.args.old_table.now.table in
    let new = c.args.new_table.now.table in
    let xs = c.args.shared.now in
    let i = c.loop-field.field-index in
    let lt : i < length xs = omega (arith, c.loop-field-test.true) in
    let of : SharedField → List Change = cell_changes old new c.args.numbers in
    let own : List Change = of (get_or xs i (shared_at 0 0 false)) in
    let before : List Change = flat_map of (take i xs) in record {
      lines = one_more c.args.line.now.items (change_lines before) (change_lines own) _ _ _ c.loop-field.invariant.lines c.in_ok-told.ensures.lines (changed_lines_next of xs i (shared_at 0 0 false) lt);
      count = omega (arith, c.loop-field.invariant.count, c.in_ok-told.ensures.count, ap (length {A = Change}) (changed_next of xs i (shared_at 0 0 false) lt), length-append before own);
      bounded = omega (arith, c.loop-field.invariant.bounded, c.in_ok-told.ensures.bounded);
    }
