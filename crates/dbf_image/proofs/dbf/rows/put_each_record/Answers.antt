use Rattle.dbf_image.proofs.Rows.{all_drop}
use Rattle.std.proofs.Common.{◌∙◌, arith}
use Rattle.dbf_image.specs.Store.{IsMemo}
use Rattle.dbf_image.proofs.Chunks.{room-next}
use Rattle.byte_io.specs.Laws.Puts.{more_left}
use Rattle.dbf_image.proofs.Steps.{rows-next, less-next}
use Rattle.dbf_image.proofs.dbf.rows.put_each_record.Goals as goal

pub loop-preserved : goal.loop-preserved
loop-preserved g c =
    let fields = c.args.fields.now in
    let count = c.args.header.record_count in
    let i = c.loop.counter in
    let lt = c.loop-test.true in
    let rest = c.loop.rest.now in
    let texts = c.args.store.texts.now.texts in
    let memos = c.loop.memos.now in
    let next = c.loop.next in
    let size = c.from-size.result in
    let each = c.memo_count_of-memos_each.result in
    let less = less-next count i each lt in
    let step = rows-next fields size count i rest texts memos next lt in
    record {
      room = room-next size count i _ _ lt c.loop.invariant.room c.split_at.ensures.back_len;
      many = room-next each count i _ _ lt c.loop.invariant.many c.split_at-in-loop.ensures.back_len;
      each = rw c.split_at-in-loop.ensures.back (all_drop (IsMemo texts) memos _ c.loop.invariant.each);
      count_bounded = omega (arith, less, c.loop.invariant.count_bounded, c.put_record-next.ensures.bounded, c.memo_count_of-memos_each.ensures.value);
      same = c.put_record-next.ensures.put.0 ∙ c.loop.invariant.same;
      left = rw (c.put_record-next.ensures.next, c.put_record-next.ensures.put.1, c.split_at.ensures.front, c.split_at-in-loop.ensures.front, c.split_at.ensures.back, c.split_at-in-loop.ensures.back, c.memo_count_of-memos_each.ensures.value)
          (more_left _ _ _ _ _ step c.loop.invariant.left);
    }
