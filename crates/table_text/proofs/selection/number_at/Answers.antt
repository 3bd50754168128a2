use Rattle.std.proofs.Common.{◌≡◌, ◌+◌, ◌<◌, length, sym, ◌∙◌, arith}
use Rattle.std.proofs.lemmas.List.FromFn.{get_or-range_with_len, length-range_with_len}
use Rattle.table_text.proofs.selection.number_at.Goals as goal

pub overflow_cast-result : goal.overflow_cast-result
overflow_cast-result c =
    let rows = c.args.table.now.rows in
    let lt : c.args.place < length rows = omega (arith, rw c.in-None.is at c.requires.inside, length-range_with_len 1 (length rows)) in
    omega (arith, c.record_count-count.ensures.each.count_bounded)

pub overflow_add-result : goal.overflow_add-result
overflow_add-result c =
    let rows = c.args.table.now.rows in
    let lt : c.args.place < length rows = omega (arith, rw c.in-None.is at c.requires.inside, length-range_with_len 1 (length rows)) in
    omega (arith, c.record_count-count.ensures.each.count_bounded)

pub returns-in-None : goal.returns-in-None
returns-in-None c =
    let rows = c.args.table.now.rows in
    let lt : c.args.place < length rows = omega (arith, rw c.in-None.is at c.requires.inside, length-range_with_len 1 (length rows)) in
    let one : c.args.place + 1 ≡ 1 + c.args.place = omega arith in
    rw c.in-None.is (record { value = one ∙ sym (get_or-range_with_len 1 (length rows) c.args.place 0 lt) })
