use Rattle.std.proofs.Common.{ℕ, List, ◌≡◌, ◌+◌, ◌++◌, option_copied, sym, ap, ◌∙◌}
use Rattle.std.proofs.lemmas.Grind.{flat_map-append}
use Rattle.table_text.specs.Lines.{line_in, lines_in}
use Rattle.table_text.specs.Selection.{selected_from}
use Rattle.table_text.proofs.Fronts.{put_further}
use Rattle.table_text.proofs.lines.put_lines.Goals as goal

pub returns-in_err-put_records-clause-front : goal.returns-in_err-put_records-clause-front
returns-in_err-put_records-clause-front g c =
    let line = line_in c.args.format.now c.args.table.now in
    let lines = lines_in c.args.format.now c.args.table.now in
    let left = selected_from c.args.table.now (option_copied c.args.order) c.args.selection in
    let chosen = c.as_slice.result.now in
    let rest = left (c.loop-first.first + c.min.result) in
    let parts : chosen ++ rest ≡ left c.loop-first.first =
    ap (λ (l : List ℕ). l ++ rest) c.as_slice.ensures.value
    ∙ c.in_ok-append_selected.ensures.selected
    ∙ ap (λ (l : List ℕ). l ++ left c.loop-first.first) c.clear.ensures.items in
    (_, put_further _ _ _ _ _ (lines chosen) (lines rest) _ (ap lines (sym parts) ∙ flat_map-append line chosen rest) c.loop-first.invariant c.in_err-put_records.ensures.front.1)
