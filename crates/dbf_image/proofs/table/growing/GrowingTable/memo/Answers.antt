use Rattle.std.proofs.Common.{◌≡◌, ◌-◌, List, [], ℕ, length, get_or, ap, ◌∙◌, sym, arith}
use Rattle.dbf_image.specs.Table.{Row, blank_row, cell_at}
use Rattle.dbf_image.specs.Growing.{Growing}
use Rattle.dbf_image.specs.Store.{text_of, texts_of}
use Rattle.dbf_image.proofs.CellOffsets.{memo-inside, memo_read}
use Rattle.dbf_image.proofs.MemoLists.{text_at, memo_fits}
use Rattle.dbf_image.proofs.table.growing.GrowingTable.memo.Goals as goal

pub bounds-store-index : goal.bounds-store-index
bounds-store-index c =
    let table = c.args.self.now.table in
    let fields : c.self.inside.schema ≡ table.schema = ap (λ (g : Growing). g.table.schema) c.self.view_is in
    let index_is = rw fields at c.memo_index-index.ensures.value in
    memo-inside table.schema (length table.rows) (c.args.number - 1) c.args.field _ _ c.store-store.ensures.kept.many (omega arith) c.requires.field c.requires.kind index_is

pub memo_text-requires : goal.memo_text-requires
memo_text-requires c =
    let store = c.store-store.result in
    record { memo = memo_fits store.texts.now.texts store.memos.now c.memo_index-index.result c.store-store.ensures.kept.each }

pub returns : goal.returns
returns c =
    let table = c.args.self.now.table in
    let store = c.store-store.result in
    let index = c.memo_index-index.result in
    let i = c.args.number - 1 in
    let fields : c.self.inside.schema ≡ table.schema = ap (λ (g : Growing). g.table.schema) c.self.view_is in
    let index_is = rw fields at c.memo_index-index.ensures.value in
    let blank = blank_row table.schema in
    let nothing : List ℕ = [] in
    let memos = texts_of store.texts.now.texts store.memos.now in
    let rows = ap (λ (rows : List Row). get_or (get_or rows i blank).cells c.args.field nothing) c.store-store.ensures.rows in
    let given = memo_read table.schema (length table.rows) i c.args.field store.records.now memos blank (omega arith) c.requires.field c.requires.kind in
    let here : cell_at table c.args.number c.args.field ≡ text_of store.texts.now.texts (get_or store.memos.now index 0) =
    rows ∙ given ∙ ap (λ (k : ℕ). get_or memos k nothing) (sym index_is) ∙ text_at store.texts.now.texts store.memos.now index in
    record { value = rw here c.memo_text.ensures.value; text = c.memo_text.ensures.may }
