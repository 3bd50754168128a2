use Rattle.std.proofs.Common.{◌≤◌, List, ap, sym, ◌∙◌, arith}
use Rattle.dbf_image.specs.Table.{Row, packed}
use Rattle.dbf_image.specs.Growing.{Growing, memo_blocks}
use Rattle.dbf_image.specs.MemoStore.{used_blocks, blocks_of_all}
use Rattle.dbf_image.specs.Store.{texts_of, rows_of}
use Rattle.dbf_image.proofs.MemoLists.{store_drop}
use Rattle.dbf_image.proofs.MemoNumbers.{dropped_keeps}
use Rattle.dbf_image.proofs.MemoUse.{store_blocks}
use Rattle.dbf_image.proofs.table.growing.GrowingTable.pack.Goals as goal

pub invariant_of-self : goal.invariant_of-self
invariant_of-self c =
    let inside = c.self.inside in
    let call = c.keep_records-self-inside in
    let texts = inside.texts.texts in
    let dropped = rw c.deref.ensures.value at c.drop_unused.ensures.texts in
    store_drop inside.schema call.result call.new.records.items texts c.drop_unused.new.self.texts call.new.memos.items dropped (record {
      records = call.ensures.whole;
      many = call.ensures.many;
      each = call.ensures.each texts c.self.invariant.each;
    })

pub returns-clause-value : goal.returns-clause-value
returns-clause-value c =
    let inside = c.self.inside in
    let call = c.keep_records-self-inside in
    let texts = inside.texts.texts in
    let dropped = rw c.deref.ensures.value at c.drop_unused.ensures.texts in
    let same = (dropped_keeps texts c.drop_unused.new.self.texts call.new.memos.items dropped (call.ensures.each texts c.self.invariant.each)).texts in
    let rows = ap (rows_of inside.schema call.result call.new.records.items) same ∙ call.ensures.rows texts in
    rw (← c.self.view_is) (ap (λ (rows : List Row). record { schema = inside.schema; rows = rows }) rows)

pub returns-clause-used : goal.returns-clause-used
returns-clause-used c =
    let inside = c.self.inside in
    let call = c.keep_records-self-inside in
    let texts = inside.texts.texts in
    let most : used_blocks c.drop_unused.new.self.texts ≤ blocks_of_all (texts_of texts call.new.memos.items) = rw c.deref.ensures.value at c.drop_unused.ensures.used in
    let kept = ap (λ (rows : List Row). memo_blocks (record { schema = inside.schema; rows = rows })) (call.ensures.rows texts) in
    let all = store_blocks inside.schema call.result call.new.records.items texts call.new.memos.items call.ensures.many in
    let view = ap (λ (v : Growing). memo_blocks (packed v.table)) c.self.view_is in
    omega (arith, most, sym kept, all, view)
