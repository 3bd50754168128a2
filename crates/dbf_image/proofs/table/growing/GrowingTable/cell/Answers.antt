use Rattle.std.proofs.Common.{◌≡◌, ◌-◌, ◌+◌, List, [], ℕ, length, get_or, ap, ◌∙◌, sym, arith}
use Rattle.dbf_fields.specs.Layout.{width_of}
use Rattle.dbf_image.specs.Table.{Row, blank_row}
use Rattle.dbf_image.specs.Growing.{Growing}
use Rattle.dbf_image.specs.Store.{texts_of}
use Rattle.dbf_image.proofs.CellOffsets.{cell-inside, cell_read}
use Rattle.dbf_image.proofs.table.growing.GrowingTable.cell.Goals as goal

pub slice_bounds-result-end : goal.slice_bounds-result-end
slice_bounds-result-end c =
    let table = c.args.self.now.table in
    let fields : c.self.inside.schema ≡ table.schema = ap (λ (g : Growing). g.table.schema) c.self.view_is in
    let start = rw fields at c.cell_start-start.ensures.value in
    let width = rw fields at c.width.ensures.value in
    let inside = cell-inside table.schema (length table.rows) (c.args.number - 1) c.args.field _ c.store-store.result.records.now c.store-store.ensures.kept.records (omega arith) c.requires.field start in
    omega arith

pub returns-clause-value : goal.returns-clause-value
returns-clause-value c =
    let table = c.args.self.now.table in
    let store = c.store-store.result in
    let fields : c.self.inside.schema ≡ table.schema = ap (λ (g : Growing). g.table.schema) c.self.view_is in
    let start = rw fields at c.cell_start-start.ensures.value in
    let width = rw fields at c.width.ensures.value in
    let k : c.cell_start-start.result + c.width.result - c.cell_start-start.result ≡ width_of table.schema c.args.field = omega (arith, width) in
    let blank = blank_row table.schema in
    let nothing : List ℕ = [] in
    let given = cell_read table.schema (length table.rows) (c.args.number - 1) c.args.field store.records.now (texts_of store.texts.now.texts store.memos.now) blank (omega arith) c.requires.field c.requires.kind in
    let rows = ap (λ (rows : List Row). get_or (get_or rows (c.args.number - 1) blank).cells c.args.field nothing) c.store-store.ensures.rows in
    rw (k, start) (sym (rows ∙ given))
