use Rattle.std.proofs.Common.{◌≡◌, ◌-◌, ◌+◌, ◌*◌, List, ℕ, length, set, ap, ◌∙◌, arith}
use Rattle.dbf_fields.specs.Field.{widths}
use Rattle.dbf_image.specs.Table.{Row, blank_row}
use Rattle.dbf_image.specs.Store.{texts_of, rows_of}
use Rattle.dbf_image.proofs.Rows.{length-rows_of}
use Rattle.dbf_image.proofs.CellOffsets.{chunk-inside}
use Rattle.dbf_image.proofs.Edits.{rows_flag, records_set}
use Rattle.dbf_image.proofs.table.growing.GrowingTable.set_deleted.Goals as goal

pub set-requires : goal.set-requires
set-requires c =
    let inside = c.self.inside in
    let n : length c.args.self.now.table.rows ≡ inside.count = rw (← c.self.view_is) (length-rows_of inside.schema inside.count inside.records.items (texts_of inside.texts.texts inside.memos.items)) in
    let room = chunk-inside (1 + widths inside.schema) inside.count (c.args.number - 1) (length inside.records.items) (omega arith) c.self.invariant.records.whole in
    record { inside = omega (arith, room, c.record_start-start.ensures.value) }

pub invariant_of-self : goal.invariant_of-self
invariant_of-self c =
    let store = c.self.invariant in
    record {
      records = rw c.set.ensures.items (records_set c.self.inside.schema c.self.inside.count c.record_start-start.result c.flag_of.result c.self.inside.records.items store.records);
      many = store.many;
      each = store.each;
    }

pub returns : goal.returns
returns c =
    let inside = c.self.inside in
    let items = inside.records.items in
    let memos = texts_of inside.texts.texts inside.memos.items in
    let i = c.args.number - 1 in
    let n : length c.args.self.now.table.rows ≡ inside.count = rw (← c.self.view_is) (length-rows_of inside.schema inside.count items memos) in
    let rows = ap (λ (bytes : List ℕ). rows_of inside.schema inside.count bytes memos) c.set.ensures.items
    ∙ ap (λ (k : ℕ). rows_of inside.schema inside.count (set items k c.flag_of.result) memos) c.record_start-start.ensures.value
    ∙ ap (λ (flag : ℕ). rows_of inside.schema inside.count (set items (i * (1 + widths inside.schema)) flag) memos) c.flag_of.ensures.value
    ∙ rows_flag inside.schema inside.count i items memos c.args.deleted (blank_row inside.schema) c.self.invariant.records (omega arith) in
    record { value = rw (← c.self.view_is) (ap (λ (rows : List Row). record { schema = inside.schema; rows = rows }) rows) }
