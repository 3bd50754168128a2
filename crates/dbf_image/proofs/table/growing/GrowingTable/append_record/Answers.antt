use Rattle.std.proofs.Common.{◌≡◌, ◌+◌, ◌++◌, List, length, ap, ◌∙◌, arith}
use Rattle.std.proofs.lemmas.List.{length-map}
use Rattle.dbf_fields.specs.Field.{widths}
use Rattle.dbf_image.specs.Table.{Row}
use Rattle.dbf_image.specs.Store.{text_of, texts_of, memo_count, rows_of}
use Rattle.dbf_image.proofs.Rows.{length-rows_of}
use Rattle.dbf_image.proofs.Edits.{rows_push}
use Rattle.dbf_image.proofs.MemoLists.{texts_push, store_push}
use Rattle.dbf_image.proofs.table.growing.GrowingTable.append_record.Goals as goal

pub invariant_of-self : goal.invariant_of-self
invariant_of-self c =
    let inside = c.self.inside in
    let texts = inside.texts.texts in
    let numbers = inside.memos.items in
    let n : length c.args.self.now.table.rows ≡ inside.count = rw (← c.self.view_is) (length-rows_of inside.schema inside.count inside.records.items (texts_of texts numbers)) in
    let long : length c.args.bytes.now ≡ 1 + widths inside.schema = rw (← c.self.view_is) at c.requires.whole in
    let counted : c.memo_count_of.result ≡ memo_count inside.schema = c.memo_count_of.ensures.value ∙ ap memo_count c.fields.ensures.fields in
    rw (c.push_no_memos.ensures.items, counted, c.extend.ensures.items) (store_push inside.schema inside.count inside.records.items c.args.bytes.now texts numbers c.self.invariant long (omega arith))

pub returns : goal.returns
returns c =
    let inside = c.self.inside in
    let texts = inside.texts.texts in
    let numbers = inside.memos.items in
    let long : length c.args.bytes.now ≡ 1 + widths inside.schema = rw (← c.self.view_is) at c.requires.whole in
    let counted : c.memo_count_of.result ≡ memo_count inside.schema = c.memo_count_of.ensures.value ∙ ap memo_count c.fields.ensures.fields in
    let many = length-map numbers (text_of texts) ∙ c.self.invariant.many in
    let rows = ap (rows_of inside.schema (inside.count + 1) (inside.records.items ++ c.args.bytes.now)) (texts_push texts numbers (memo_count inside.schema))
    ∙ rows_push inside.schema inside.count inside.records.items c.args.bytes.now (texts_of texts numbers) c.self.invariant.records long many in
    record { value = rw (← c.self.view_is, c.push_no_memos.ensures.items, counted, c.extend.ensures.items) (ap (λ (rows : List Row). record { schema = inside.schema; rows = rows }) rows) }
