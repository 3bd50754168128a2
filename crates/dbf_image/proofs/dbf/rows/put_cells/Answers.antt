use Rattle.dbf_image.proofs.Rows.{all_drop}
use Rattle.std.proofs.Common.{◌≡◌, ◌∙◌, ℕ, [], ◌∷◌, length, take, ap, refl, sym, arith}
use Rattle.dbf_image.specs.Store.{IsMemo, texts_of, memo_count, first_memo}
use Rattle.byte_io.specs.Laws.Puts.{more_left}
use Rattle.dbf_image.proofs.Steps.{first_cell, first_is_memo, widths-next, count-next, bytes-next, blocks-next}
use Rattle.dbf_fields.specs.declared.format.TheConstants.{MEMO}
use Rattle.dbf_image.proofs.dbf.rows.put_cells.Goals as goal

pub loop-field-preserved : goal.loop-field-preserved
loop-field-preserved g c =
    let fields = c.args.fields.now in
    let f = c.field-item.result in
    let i = c.loop-field.field-index in
    let lt = c.loop-field-test.true in
    let rest = c.loop-field.rest.now in
    let texts = c.args.cells.texts.now.texts in
    let memos = c.loop-field.memos.now in
    let next = c.loop-field.next in
    let wide = widths-next fields i f lt c.field-item.is in
    let count = count-next fields i f lt c.field-item.is in
    let mine = take (memo_count (f ∷ [])) memos in
    let cell = first_cell f (take f.width rest) texts mine in
    let long = λ (kind : f.kind ≡ MEMO). rw (c.split_at-in-loop-field.ensures.front, c.memos_of.ensures.value) at (sym (c.memo_length_of-text_length.ensures.value kind)) in
    let put = c.put_cell.ensures.put (first_memo (texts_of texts mine)) long in
    let blocks = c.blocks_at-next.ensures.value cell (λ kind. ap (length {A = ℕ}) (first_is_memo f (take f.width rest) texts mine kind) ∙ long kind) in
    let bytes = bytes-next fields i f lt c.field-item.is rest texts memos next cell refl in
    let ahead = blocks-next fields i f lt c.field-item.is rest texts memos next cell refl in
    record {
      room = omega (arith, wide, c.split_at.ensures.back_len, c.from.ensures, c.loop-field.invariant.room);
      many = omega (arith, count, c.split_at-in-loop-field.ensures.back_len, c.memos_of.ensures.value, c.loop-field.invariant.many);
      each = rw c.split_at-in-loop-field.ensures.back (all_drop (IsMemo texts) memos _ c.loop-field.invariant.each);
      count_bounded = omega (arith, count, c.blocks_at-next.ensures.bounded, c.loop-field.invariant.count_bounded);
      same = put.0 ∙ c.loop-field.invariant.same;
      left = rw (put.1, c.split_at.ensures.front, c.split_at.ensures.back, c.split_at-in-loop-field.ensures.back, c.memos_of.ensures.value, c.from.ensures, blocks)
          (more_left _ _ _ _ _ bytes c.loop-field.invariant.left);
      ahead = rw (c.split_at.ensures.back, c.split_at-in-loop-field.ensures.back, c.memos_of.ensures.value, c.from.ensures, blocks) (sym ahead ∙ c.loop-field.invariant.ahead);
    }
