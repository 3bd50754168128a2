use Rattle.std.proofs.Common.{◌≡◌, ◌-◌, ◌+◌, List, ℕ, length, get_or, eqb, ap, ◌∙◌, sym, arith}
use Rattle.dbf_fields.specs.Field.{widths}
use Rattle.dbf_image.specs.Table.{Row, blank_row}
use Rattle.dbf_image.specs.Growing.{Growing}
use Rattle.dbf_image.specs.Store.{texts_of}
use Rattle.dbf_image.proofs.CellOffsets.{chunk-inside, flag_read}
use Rattle.dbf_image.proofs.table.growing.GrowingTable.is_deleted.Goals as goal
use Rattle.dbf_image.specs.declared.format.TheConstants.{DELETED}

pub bounds-store-start : goal.bounds-store-start
bounds-store-start c =
    let table = c.args.self.now.table in
    let fields : c.self.inside.schema ≡ table.schema = ap (λ (g : Growing). g.table.schema) c.self.view_is in
    let start = rw fields at c.record_start-start.ensures.value in
    omega (arith, start, chunk-inside (1 + widths table.schema) (length table.rows) (c.args.number - 1) (length c.store.result.records.now) (omega arith) c.store.ensures.kept.records.whole)

pub returns : goal.returns
returns c =
    let table = c.args.self.now.table in
    let fields : c.self.inside.schema ≡ table.schema = ap (λ (g : Growing). g.table.schema) c.self.view_is in
    let start = rw fields at c.record_start-start.ensures.value in
    let blank = blank_row table.schema in
    let store = c.store.result in
    record {
      value = ap (λ (m : ℕ). eqb (get_or store.records.now m 0) DELETED) start
          ∙ sym (ap (λ (rows : List Row). (get_or rows (c.args.number - 1) blank).deleted) c.store.ensures.rows
          ∙ flag_read table.schema (length table.rows) (c.args.number - 1) store.records.now (texts_of store.texts.now.texts store.memos.now) blank (omega arith));
    }
