use Rattle.std.proofs.Common.{◌≡◌, ℕ, true, false, ◌+◌, ◌-◌, ◌<◌, List, length, get_or, sym, ap, ◌∙◌, arith}
use Rattle.std.proofs.lemmas.List.{take_all}
use Rattle.dbf_image.specs.Table.{Row, blank_row}
use Rattle.table_order.specs.Packing.{packed_numbers}
use Rattle.table_core.proofs.KeptPairs.{kept_marked, count_more, number_more}
use Rattle.table_core.proofs.indexes.sort.new_numbers.Goals.{then-is_deleted+in_ok-push, else-is_deleted+in_ok-push-2}
use Rattle.table_core.proofs.indexes.sort.new_numbers.Goals as goal

pub loop-index-preserved : goal.loop-index-preserved
loop-index-preserved c =
    let rows = c.args.records.now.table.rows in
    let blank : Row = blank_row c.args.records.now.table.schema in
    let i = c.loop-index.index in
    let kept = c.loop-index.invariant in
    let lt : i < length rows = omega (arith, c.record_count-index-end.ensures.count) in
    let back : i + 1 - 1 ≡ i = omega arith in
    let mark : (get_or rows i blank).deleted ≡ c.is_deleted.result = sym (c.is_deleted.ensures.value ∙ ap (λ (x : ℕ). (get_or rows x blank).deleted) back) in
    elim c.if-is_deleted.branch [
      | then-is_deleted+in_ok-push w ↦
          let marked : (get_or rows i blank).deleted ≡ true = mark ∙ w.if-is_deleted.true in
          record {
            numbers = rw w.numbers-is (w.in_ok-push.ensures.items ∙ number_more rows i c.loop-index.next blank true c.loop-index.numbers.items lt marked kept.next kept.numbers);
            next = rw w.next-is (kept.next ∙ ap (λ (rs : List Row). 1 + length rs) (sym (kept_marked rows i blank lt marked)));
            count_bounded = omega (arith, w.next-is, kept.count_bounded);
          }
      | else-is_deleted+in_ok-push-2 w ↦
          let stays : (get_or rows i blank).deleted ≡ false = mark ∙ w.if-is_deleted.false in
          record {
            numbers = rw w.numbers-is (w.in_ok-push-2.ensures.items ∙ number_more rows i c.loop-index.next blank false c.loop-index.numbers.items lt stays kept.next kept.numbers);
            next = omega (arith, w.next-is, kept.next, count_more rows i blank lt stays);
            count_bounded = omega (arith, w.next-is, kept.count_bounded);
          }
    ]

pub returns : goal.returns
returns c =
    let rows = c.args.records.now.table.rows in
    record { numbers = c.loop-index.invariant.numbers ∙ ap (λ (rs : List Row). packed_numbers 1 rs) (take_all c.loop-index.index rows (omega (arith, c.record_count-index-end.ensures.count))) }
