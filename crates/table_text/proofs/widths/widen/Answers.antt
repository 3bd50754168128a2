use Rattle.std.proofs.Common.{◌≡◌, ℕ, ◌+◌, ◌<◌, List, [], ◌∷◌, ◌++◌, get_or, length, sym, ap, ◌∙◌, arith}
use Rattle.dbf_fields.specs.declared.field.Field.{Field}
use Rattle.table_text.specs.Columns.{filled_width}
use Rattle.table_text.proofs.WidthLaws.{width-before, width-set}
use Rattle.table_text.proofs.widths.widen.Goals as goal

pub loop-index-preserved : goal.loop-index-preserved
loop-index-preserved c = record {
  whole = λ shown start.
      let table = c.args.table.now in
      let memos = c.args.memos in
      let more = shown ++ c.args.number ∷ [] in
      let i = c.loop-index.index in
      let f = c.index-fields-index.result in
      let ws = c.loop-index.widths.items in
      let same : c.fields-fields.result.now ≡ table.schema = c.fields-fields.ensures.fields ∙ c.schema.ensures.value in
      let lt : i < length table.schema = omega (arith, c.loop-index-test.true, ap (length {A = Field}) same) in
      let is : f ≡ get_or table.schema i f = c.index-fields-index.is ∙ ap (λ (fs : List Field). get_or fs i f) same in
      let whole = c.loop-index.invariant.whole shown start in
      let was : c.index-width.result.now ≡ filled_width table shown memos i f =
      c.index-width.ensures ∙ width-before table more shown memos i f table.schema ws c.index-width.result.now lt is whole in
      width-set table more shown memos i f table.schema ws c.in_ok-wide.wide lt is whole (c.in_ok-wide.ensures.wider shown was);
  many = c.loop-index.invariant.many;
}
