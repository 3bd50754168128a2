use Rattle.std.proofs.Common.{◌≡◌, ℕ, ◌+◌, ◌<◌, List, [], ◌∷◌, ◌++◌, drop, length, append_assoc, sym, ap, ◌∙◌, arith}
use Rattle.table_text.specs.Columns.{filled_width, widths_from}
use Rattle.table_text.proofs.WidthLaws.{rest-next}
use Rattle.table_text.proofs.widths.heading_widths.Goals as goal

pub loop-index-preserved : goal.loop-index-preserved
loop-index-preserved c = record {
  whole = λ memos.
      let table = c.args.table.now in
      let fields = c.fields-fields.result.now in
      let i = c.loop-index.index in
      let f = c.index-fields-index.result in
      let ws = c.loop-index.widths.items in
      let width = c.heading_width.result in
      let lt : i < length fields = omega (arith, c.loop-index-test.true) in
      let rest = widths_from table [] memos (i + 1) (drop (i + 1) fields) in
      ap (λ (l : List ℕ). l ++ rest) c.in_ok-push.ensures.items
      ∙ append_assoc ws (width ∷ []) rest
      ∙ ap (λ (w : ℕ). ws ++ w ∷ rest) (c.heading_width.ensures.value memos)
      ∙ ap (λ (l : List ℕ). ws ++ l) (sym (rest-next table [] memos i f fields lt c.index-fields-index.is))
      ∙ c.loop-index.invariant.whole memos;
  many = omega (arith, c.in_ok-push.ensures.len, c.loop-index.invariant.many);
}
