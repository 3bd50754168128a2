use Rattle.std.proofs.Common.{◌≡◌, ◌+◌, ◌∙◌, true, sym, ap, subst, length}
use Rattle.std.specs.Prelude.{Ok}
use Rattle.csv.specs.Records.{fields_of}
use Rattle.dbf_fields.specs.declared.field.Field.{Field}
use Rattle.dbf_fields.specs.Field.{has_width}
use Rattle.dbf_image.specs.Table.{Table, blank_row, row_with_cell, with_cell, with_row}
use Rattle.table_loader.specs.Headings.{text_for}
use Rattle.table_loader.specs.Values.{value_of}
use Rattle.table_loader.proofs.RowLaws.{cell_of_last, field_filled, rows_of_last, wide_field}
use Rattle.table_loader.proofs.record.add_filled.Goals as goal

pub put_value-requires-clause-width : goal.put_value-requires-clause-width
put_value-requires-clause-width c =
    let fields = c.fields-fields.result.now in
    let field = c.index-fields-index.result in
    let schema = rw (← c.fields-fields.ensures.fields) at c.fields-fields.ensures.each in
    subst (λ (f : Field). has_width f ≡ true) (sym c.index-fields-index.is) (wide_field fields c.loop-index.index field schema c.loop-index-test.true)

pub loop-index-preserved : goal.loop-index-preserved
loop-index-preserved c =
    let table = c.args.table.now.table in
    let cells = fields_of c.args.cells.now in
    let index = c.loop-index.index in
    let field = c.index-fields-index.result in
    let number = c.record_count-number.result in
    let (row, is, rest) = c.loop-index.invariant in
    let (cell, put, new) = c.in-Ok.ensures.ok in
    let added : c.append_blank.new.self.table ≡ with_row table (blank_row table.schema) =
    c.append_blank.ensures.value ∙ ap (λ (t : Table). with_row t (blank_row t.schema)) c.in_ok-reserve_record.ensures.table in
    let last : number ≡ length table.rows + 1 =
    c.record_count-number.ensures.count ∙ ap (λ (t : Table). length t.rows) added ∙ rows_of_last table (blank_row table.schema) in
    let said : value_of c.args.plan.now.form field (text_for c.args.plan.now.heading cells index) ≡ Ok cell =
    ap (value_of c.args.plan.now.form field) (sym c.text_for-text.ensures.value) ∙ put in (
      row_with_cell row index cell,
      new ∙ ap (λ (t : Table). with_cell t number index cell) is ∙ cell_of_last table row number index cell last,
      field_filled c.args.plan.now.form c.args.plan.now.heading c.args.line index cells c.fields-fields.result.now field row cell c.loop-index-test.true (sym c.index-fields-index.is) said ∙ rest,
    )
