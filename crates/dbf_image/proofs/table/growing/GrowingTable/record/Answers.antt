use Rattle.std.proofs.Common.{◌≡◌, ◌-◌, ◌+◌, ◌*◌, List, ℕ, length, take, drop, get_or, ap, ◌∙◌, arith}
use Rattle.std.proofs.lemmas.List.{length-take-le, length-drop}
use Rattle.dbf_fields.specs.Field.{widths}
use Rattle.dbf_image.specs.Table.{Row, blank_row, row_at}
use Rattle.dbf_image.specs.Growing.{Growing, IsRecord}
use Rattle.dbf_image.specs.Store.{texts_of, memo_count}
use Rattle.dbf_image.proofs.CellOffsets.{chunk-inside, row_here}
use Rattle.dbf_image.proofs.table.growing.GrowingTable.record.Goals as goal

pub slice_bounds-result-end : goal.slice_bounds-result-end
slice_bounds-result-end c =
    let table = c.args.self.now.table in
    let fields : c.self.inside.schema ≡ table.schema = ap (λ (g : Growing). g.table.schema) c.self.view_is in
    let start = rw fields at c.record_start-start.ensures.value in
    let size = rw fields at c.record_length.ensures.value in
    omega (arith, start, size, chunk-inside (1 + widths table.schema) (length table.rows) (c.args.number - 1) (length c.store.result.records.now) (omega arith) c.store.ensures.kept.records.whole)

pub returns : goal.returns
returns c =
    let table = c.args.self.now.table in
    let store = c.store.result in
    let i = c.args.number - 1 in
    let size = 1 + widths table.schema in
    let fields : c.self.inside.schema ≡ table.schema = ap (λ (g : Growing). g.table.schema) c.self.view_is in
    let start = rw fields at c.record_start-start.ensures.value in
    let wide = rw fields at c.record_length.ensures.value in
    let inside = chunk-inside size (length table.rows) i (length store.records.now) (omega arith) c.store.ensures.kept.records.whole in
    let k : c.record_start-start.result + c.record_length.result - c.record_start-start.result ≡ size = omega (arith, wide) in
    let memos = texts_of store.texts.now.texts store.memos.now in
    let blank = blank_row table.schema in
    let bytes : List ℕ = take size (drop (i * size) store.records.now) in
    let given : IsRecord table.schema bytes (row_at table c.args.number) = record {
      long = length-take-le size (drop (i * size) store.records.now) (omega (arith, inside, length-drop (i * size) store.records.now));
      memos = drop (i * memo_count table.schema) memos;
      is = ap (λ (rows : List Row). get_or rows i blank) c.store.ensures.rows ∙ row_here table.schema (length table.rows) i store.records.now memos blank (omega arith);
    } in
    record { value = rw (k, start) given }
