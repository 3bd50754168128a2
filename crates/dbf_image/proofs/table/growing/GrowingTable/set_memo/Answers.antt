use Rattle.std.proofs.Common.{◌≡◌, ◌-◌, ◌<◌, List, ℕ, length, set, ap, ◌∙◌, arith}
use Rattle.dbf_image.specs.Table.{Row, blank_row, kind_at}
use Rattle.dbf_image.specs.Store.{text_of, texts_of, rows_of}
use Rattle.dbf_image.proofs.Rows.{length-rows_of}
use Rattle.dbf_image.proofs.CellOffsets.{memo-inside}
use Rattle.dbf_image.proofs.Edits.{rows_memo}
use Rattle.dbf_image.proofs.MemoLists.{texts_put, store_put}
use Rattle.std.proofs.lemmas.List.{length-map}
use Rattle.dbf_image.proofs.table.growing.GrowingTable.set_memo.Goals as goal
use Rattle.dbf_fields.specs.declared.format.TheConstants.{MEMO}

pub index_mut-requires : goal.index_mut-requires
index_mut-requires c =
    let inside = c.self.inside in
    let n : length c.args.self.now.table.rows ≡ inside.count = rw (← c.self.view_is) (length-rows_of inside.schema inside.count inside.records.items (texts_of inside.texts.texts inside.memos.items)) in
    let field : c.args.field < length inside.schema = rw (← c.self.view_is) at c.requires.field in
    let kind : kind_at inside.schema c.args.field ≡ MEMO = rw (← c.self.view_is) at c.requires.kind in
    let index_is = memo-inside inside.schema inside.count (c.args.number - 1) c.args.field c.memo_index-index.result (length inside.memos.items) c.self.invariant.many (omega arith) field kind c.memo_index-index.ensures.value in
    omega (arith, index_is, inside.memos.ok.0)

pub invariant_of-self : goal.invariant_of-self
invariant_of-self c =
    let inside = c.self.inside in
    store_put inside.schema inside.count inside.records.items inside.texts.texts c.put_memo.new.texts.texts inside.memos.items c.memo_index-index.result c.put_memo.result c.self.invariant c.put_memo.ensures.others c.put_memo.ensures.memo

pub returns-clause-value : goal.returns-clause-value
returns-clause-value c =
    let inside = c.self.inside in
    let texts = inside.texts.texts in
    let numbers = inside.memos.items in
    let text = c.args.text.now in
    let i = c.args.number - 1 in
    let n : length c.args.self.now.table.rows ≡ inside.count = rw (← c.self.view_is) (length-rows_of inside.schema inside.count inside.records.items (texts_of texts numbers)) in
    let field : c.args.field < length inside.schema = rw (← c.self.view_is) at c.requires.field in
    let kind : kind_at inside.schema c.args.field ≡ MEMO = rw (← c.self.view_is) at c.requires.kind in
    let many = length-map numbers (text_of texts) ∙ c.self.invariant.many in
    let rows = ap (rows_of inside.schema inside.count inside.records.items) (texts_put texts c.put_memo.new.texts.texts text numbers c.memo_index-index.result c.put_memo.result c.put_memo.ensures.others c.self.invariant.each c.put_memo.ensures.value)
    ∙ ap (λ (k : ℕ). rows_of inside.schema inside.count inside.records.items (set (texts_of texts numbers) k text)) c.memo_index-index.ensures.value
    ∙ rows_memo inside.schema inside.count i c.args.field inside.records.items text (texts_of texts numbers) (blank_row inside.schema) many (omega arith) field kind in
    rw (← c.self.view_is) (ap (λ (rows : List Row). record { schema = inside.schema; rows = rows }) rows)
