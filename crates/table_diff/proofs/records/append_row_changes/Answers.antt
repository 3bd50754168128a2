use Rattle.std.proofs.Common.{◌<◌, List, length, sym, subst, ap, arith}
use Rattle.std.specs.List.{All}
use Rattle.dbf_fields.specs.declared.field.Field.{Field}
use Rattle.table_diff.specs.declared.fields.SharedField.{SharedField}
use Rattle.table_diff.proofs.FieldLaws.{few_shared, old_inside, new_inside}
use Rattle.table_diff.proofs.records.append_row_changes.Goals as goal

pub append_values_changed-requires-clause-old_indexes : goal.append_values_changed-requires-clause-old_indexes
append_values_changed-requires-clause-old_indexes c =
    let old = c.args.old_table.now.table.schema in
    let new = c.args.new_table.now.table.schema in
    subst (λ (xs : List SharedField). All (λ (s : SharedField). s.old_index < length old) xs) (sym c.requires.shared) (old_inside old new)

pub append_values_changed-requires-clause-new_indexes : goal.append_values_changed-requires-clause-new_indexes
append_values_changed-requires-clause-new_indexes c =
    let old = c.args.old_table.now.table.schema in
    let new = c.args.new_table.now.table.schema in
    subst (λ (xs : List SharedField). All (λ (s : SharedField). s.new_index < length new) xs) (sym c.requires.shared) (new_inside old new)

pub returns-clause-bounded : goal.returns-clause-bounded
returns-clause-bounded c =
    let old = c.args.old_table.now.table.schema in
    let new = c.args.new_table.now.table.schema in
    omega (
      arith,
      c.in_ok-marks.ensures.bounded,
      c.in_ok-values.ensures.bounded,
      ap (length {A = SharedField}) c.requires.shared,
      few_shared old new,
      ap (length {A = Field}) c.schema.ensures.value,
      c.fields-fields.ensures.count_bounded,
    )
