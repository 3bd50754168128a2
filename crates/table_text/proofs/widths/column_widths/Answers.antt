use Rattle.std.proofs.Common.{◌≡◌, ◌≤◌, inl, inr, ℕ, ◌+◌, ◌<◌, Bool, true, false, ◌&&◌, List, length, get_or, take, option_copied, sym, ap, ◌∙◌, arith}
use Rattle.std.proofs.lemmas.List.{take_all}
use Rattle.std.proofs.lemmas.List.FromFn.{get_or-range_with_len, length-range_with_len}
use Rattle.std.specs.List.{filter, range_with_len}
use Rattle.table_text.specs.Columns.{column_widths}
use Rattle.table_text.specs.Selection.{is_among, is_selected, numbers_in, selected}
use Rattle.table_text.proofs.Among.{decided, is_listed, listed, filter-taken, filter-passed, listed-selected, selected-listed}
use Rattle.table_text.proofs.WidthLaws.{widths-alike}
use Rattle.table_text.proofs.widths.column_widths.Goals as goal

pub loop-place-preserved : goal.loop-place-preserved
loop-place-preserved c =
    let table = c.args.table.now in
    let order = option_copied c.args.order in
    let selection = c.args.selection in
    let memos = c.args.memos in
    let n = length table.rows in
    let numbers = range_with_len 1 n in
    let i = c.loop-place.place in
    let p = is_listed table order selection in
    let lt : i < n = omega (arith, c.loop-place-test.true, c.record_count-place-end.ensures.count) in
    let inside : i < length numbers = omega (arith, lt, length-range_with_len 1 n) in
    let at : i + 1 ≡ get_or numbers i 0 = omega (arith, get_or-range_with_len 1 n i 0 lt) in
    let among : get_or c.as_slice.result.now i false ≡ is_among (numbers_in table order) (i + 1) =
    ap (λ (l : List Bool). get_or l i false) c.as_slice.ensures.value ∙ c.in_ok-answers.ensures.each i lt in
    let both : (get_or c.as_slice.result.now i false && is_selected table selection (i + 1)) ≡ p (i + 1) = ap (λ (b : Bool). b && is_selected table selection (i + 1)) among in
    let widths-of = λ (ns : List ℕ). column_widths table ns memos in
    record {
      whole = elim (decided (p (i + 1))) [
        | inl is ↦
            c.in_ok-widen_shown.ensures.wider (both ∙ is) (filter p (take i numbers)) c.loop-place.invariant.whole
            ∙ ap widths-of (sym (filter-taken p numbers i (i + 1) inside at is))
        | inr is ↦
            c.in_ok-widen_shown.ensures.same (both ∙ is) ∙ c.loop-place.invariant.whole
            ∙ ap widths-of (sym (filter-passed p numbers i (i + 1) inside at is))
      ];
      many = c.in_ok-widen_shown.ensures.many ∙ c.loop-place.invariant.many;
    }

pub returns-clause-value : goal.returns-clause-value
returns-clause-value c =
    let table = c.args.table.now in
    let order = option_copied c.args.order in
    let selection = c.args.selection in
    let memos = c.args.memos in
    let numbers = range_with_len 1 (length table.rows) in
    let all : length numbers ≤ c.loop-place.place = omega (arith, length-range_with_len 1 (length table.rows), c.record_count-place-end.ensures.count, c.loop-place-test.false) in
    c.loop-place.invariant.whole
    ∙ ap (λ (ns : List ℕ). column_widths table (filter (is_listed table order selection) ns) memos) (take_all c.loop-place.place numbers all)
    ∙ widths-alike table (listed table order selection) (selected table order selection) memos 0 table.schema (listed-selected table order selection) (selected-listed table order selection)
