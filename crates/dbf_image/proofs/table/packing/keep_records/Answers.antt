use Rattle.std.proofs.Common.{◌≡◌, ◌+◌, ◌*◌, get_or, slice_index, refl, sym, ap, ◌∙◌, arith}
use Rattle.dbf_fields.specs.Field.{widths}
use Rattle.dbf_image.specs.Packing.{Moved}
use Rattle.dbf_image.specs.Store.{memo_count}
use Rattle.dbf_image.proofs.Packing.{packs_none, packs_marked, packs_moved, all_packed}
use Rattle.dbf_image.proofs.table.packing.keep_records.Goals as goal
use Rattle.dbf_image.proofs.table.packing.keep_records.Goals.{then-as_slice-index-ne-DELETED, else-as_slice-index-ne-DELETED}

pub loop-index-init : goal.loop-index-init
loop-index-init c = packs_none c.args.schema.now c.args.count c.args.records.now.items c.args.memos.now.items

pub loop-index-preserved : goal.loop-index-preserved
loop-index-preserved c =
    let fields = c.args.schema.now in
    let n = c.args.count in
    let i = c.loop-index.index in
    let kept = c.loop-index.kept in
    let old = c.args.records.now.items in
    let now = c.loop-index.records.items in
    let olds = c.args.memos.now.items in
    let nows = c.loop-index.memos.items in
    let size_is = c.record_length-size.ensures.value in
    let k_is : c.memo_count_of-memos_each.result ≡ memo_count fields = c.memo_count_of-memos_each.ensures.value ∙ ap memo_count c.fields.ensures.fields in
    let flag : slice_index c.as_slice.result.now (i * c.record_length-size.result) ≡ get_or now (i * (1 + widths fields)) 0 = rw (size_is, c.as_slice.ensures.value) refl in
    elim c.if-as_slice-index-ne-DELETED.branch [
      | then-as_slice-index-ne-DELETED w ↦
          let new = w.move_part.new.self in
          let moved : Moved (1 + widths fields) i kept now new.items = rw size_is at w.move_part.ensures.moved in
          let news = w.move_part-then-as_slice-index-ne-DELETED.new.list in
          let memos : Moved (memo_count fields) i kept nows news.items = rw k_is at w.move_part-then-as_slice-index-ne-DELETED.ensures.moved in
          rw (w.records-is, w.memos-is, w.kept-is) (packs_moved fields n i kept old now new.items olds nows news.items c.loop-index-test.true c.requires.whole c.requires.many (λ e. w.if-as_slice-index-ne-DELETED.true (flag ∙ e)) moved memos c.loop-index.invariant)
      | else-as_slice-index-ne-DELETED w ↦
          rw (w.records-is, w.memos-is, w.kept-is) (packs_marked fields n i kept old now olds nows c.loop-index-test.true (sym flag ∙ w.if-as_slice-index-ne-DELETED.false) c.loop-index.invariant)
    ]

pub returns-clause-each : goal.returns-clause-each
returns-clause-each c =
    let fields = c.args.schema.now in
    let k_is : c.memo_count_of-memos_each.result ≡ memo_count fields = c.memo_count_of-memos_each.ensures.value ∙ ap memo_count c.fields.ensures.fields in
    λ texts h. rw (c.truncate-2.ensures.items, k_is) (c.loop-index.invariant.each texts h)

pub returns-clause-rows : goal.returns-clause-rows
returns-clause-rows c =
    let fields = c.args.schema.now in
    let size_is = c.record_length-size.ensures.value in
    let k_is : c.memo_count_of-memos_each.result ≡ memo_count fields = c.memo_count_of-memos_each.ensures.value ∙ ap memo_count c.fields.ensures.fields in
    λ texts. rw (c.truncate.ensures.items, c.truncate-2.ensures.items, size_is, k_is) (all_packed fields c.args.count c.loop-index.index c.loop-index.kept c.args.records.now.items c.loop-index.records.items c.args.memos.now.items c.loop-index.memos.items texts (omega arith) c.loop-index.invariant)
