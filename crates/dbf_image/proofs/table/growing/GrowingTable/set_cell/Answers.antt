use Rattle.std.proofs.Common.{◌≡◌, ◌≢◌, ◌-◌, ◌<◌, List, ℕ, length, ap, ◌∙◌, arith}
use borrow.Rule.Slice.PartMut.{put_mid}
use Rattle.dbf_image.specs.Store.{texts_of, rows_of}
use Rattle.dbf_fields.specs.Layout.{width_of}
use Rattle.dbf_image.specs.Table.{Row, blank_row, kind_at}
use Rattle.dbf_image.proofs.BytesBehind.{splice_put}
use Rattle.dbf_image.proofs.Rows.{length-rows_of}
use Rattle.dbf_image.proofs.CellOffsets.{cell-inside}
use Rattle.dbf_image.proofs.Edits.{rows_put, records_put}
use Rattle.dbf_image.proofs.table.growing.GrowingTable.set_cell.Goals as goal
use Rattle.dbf_fields.specs.declared.format.TheConstants.{MEMO}

pub put-requires : goal.put-requires
put-requires c =
    let inside = c.self.inside in
    let n : length c.args.self.now.table.rows ≡ inside.count = rw (← c.self.view_is) (length-rows_of inside.schema inside.count inside.records.items (texts_of inside.texts.texts inside.memos.items)) in
    let field : c.args.field < length inside.schema = rw (← c.self.view_is) at c.requires.field in
    let wide : length c.args.cell.now ≡ width_of inside.schema c.args.field = rw (← c.self.view_is) at c.requires.wide in
    let room = cell-inside inside.schema inside.count (c.args.number - 1) c.args.field _ inside.records.items c.self.invariant.records (omega arith) field c.cell_start-start.ensures.value in
    record { inside = omega (arith, room, wide) }

pub invariant_of-self : goal.invariant_of-self
invariant_of-self c =
    let inside = c.self.inside in
    let cell = c.args.cell.now in
    let start = c.cell_start-start.result in
    let n : length c.args.self.now.table.rows ≡ inside.count = rw (← c.self.view_is) (length-rows_of inside.schema inside.count inside.records.items (texts_of inside.texts.texts inside.memos.items)) in
    let field : c.args.field < length inside.schema = rw (← c.self.view_is) at c.requires.field in
    let wide : length cell ≡ width_of inside.schema c.args.field = rw (← c.self.view_is) at c.requires.wide in
    let room = cell-inside inside.schema inside.count (c.args.number - 1) c.args.field _ inside.records.items c.self.invariant.records (omega arith) field c.cell_start-start.ensures.value in
    record {
      records = rw (c.put.ensures.items, splice_put start inside.records.items cell) (records_put inside.schema inside.count start inside.records.items cell c.self.invariant.records (omega (arith, room, wide)));
      many = c.self.invariant.many;
      each = c.self.invariant.each;
    }

pub returns : goal.returns
returns c =
    let inside = c.self.inside in
    let items = inside.records.items in
    let memos = texts_of inside.texts.texts inside.memos.items in
    let other : kind_at inside.schema c.args.field ≢ MEMO = rw (← c.self.view_is) at c.requires.kind in
    let cell = c.args.cell.now in
    let start = c.cell_start-start.result in
    let i = c.args.number - 1 in
    let n : length c.args.self.now.table.rows ≡ inside.count = rw (← c.self.view_is) (length-rows_of inside.schema inside.count items memos) in
    let field : c.args.field < length inside.schema = rw (← c.self.view_is) at c.requires.field in
    let wide : length cell ≡ width_of inside.schema c.args.field = rw (← c.self.view_is) at c.requires.wide in
    let rows = ap (λ (bs : List ℕ). rows_of inside.schema inside.count bs memos) (c.put.ensures.items ∙ splice_put start items cell)
    ∙ ap (λ (s : ℕ). rows_of inside.schema inside.count (put_mid s (length cell) items cell) memos) c.cell_start-start.ensures.value
    ∙ rows_put inside.schema inside.count i c.args.field items cell memos (blank_row inside.schema) c.self.invariant.records (omega arith) field other wide in
    record { value = rw (← c.self.view_is) (ap (λ (rows : List Row). record { schema = inside.schema; rows = rows }) rows) }
