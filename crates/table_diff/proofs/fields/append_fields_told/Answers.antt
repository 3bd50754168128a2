use Rattle.std.proofs.Common.{codes}
use Rattle.std.specs.Prelude.{flat_map}
use Rattle.table_diff.specs.DiffText.{field_told}
use Rattle.table_diff.specs.Fields.{fields_without}
use Rattle.table_diff.proofs.Steps.{one_more}
use Rattle.table_diff.proofs.TextLaws.{fields_lines}
use Rattle.table_diff.proofs.fields.append_fields_told.Goals as goal

pub returns-clause-lines : goal.returns-clause-lines
returns-clause-lines c =
    let gone = fields_without c.args.new_fields.now c.args.old_fields.now in
    let new = fields_without c.args.old_fields.now c.args.new_fields.now in
    one_more c.args.text.now.items (flat_map (field_told (codes "old field ")) gone) (flat_map (field_told (codes "new field ")) new) _ _ _
    c.in_ok-gone.ensures.lines c.in_ok-added.ensures.lines (fields_lines gone new)
