use Rattle.std.proofs.Common.{◌≡◌, ◌+◌, ◌<◌, ◌∙◌, List, sym, ap, arith, length}
use Rattle.std.specs.Prelude.{Ok}
use Rattle.csv.specs.Records.{fields_of}
use Rattle.dbf_fields.specs.declared.field.Field.{Field}
use Rattle.dbf_image.specs.declared.format.TheConstants.{MAX_RECORDS}
use Rattle.dbf_image.specs.Table.{Table, blank_row, with_mark}
use Rattle.table_loader.specs.Headings.{text_in_column}
use Rattle.table_loader.specs.Loading.{filled, mark_said}
use Rattle.table_loader.proofs.RowLaws.{line_added, mark_of_last, rows_of_last}
use Rattle.table_loader.proofs.record.add_line.Goals as goal

pub returns-clause-ok : goal.returns-clause-ok
returns-clause-ok c =
    let table = c.args.table.now.table in
    let plan = c.args.plan.now in
    let cells = fields_of c.args.cells.now in
    let line = c.args.line in
    let number = c.record_count-number.result in
    let deleted = c.in_ok-deleted.deleted in
    let (row, filled_so, added) = c.in_ok-add_filled.ensures.ok in
    let many : length cells ≡ plan.heading.count = sym c.len.ensures ∙ (c.if-len-count.false ∙ c.count.ensures.value) in
    let room : length table.rows < MAX_RECORDS = omega (arith, c.if-record_count-ge-MAX_RECORDS.false, c.record_count.ensures.count) in
    let said : filled plan.form plan.heading line cells 0 table.schema (blank_row table.schema) ≡ Ok row =
    ap (λ (fields : List Field). filled plan.form plan.heading line cells 0 fields (blank_row fields)) (sym c.requires.schema) ∙ filled_so in
    let mark : mark_said line (text_in_column cells plan.heading.of_marks) ≡ Ok deleted =
    ap (mark_said line) (sym c.mark_in.ensures.value) ∙ sym c.in_ok-deleted.ensures.value in
    let last : number ≡ length table.rows + 1 =
    c.record_count-number.ensures.count ∙ ap (λ (t : Table). length t.rows) added ∙ rows_of_last table row in
    let new = c.set_deleted.ensures.value ∙ ap (λ (t : Table). with_mark t number deleted) added ∙ mark_of_last table row number deleted last in
    line_added plan.form plan.heading line table _ cells row deleted many room said mark new
