use Rattle.std.proofs.Common.{◌∙◌, rules}
use Rattle.std.specs.Int.{w128}
use Rattle.std.specs.Int.RustNames.{FitsSigned}
use Rattle.std.proofs.lemmas.Int.{to_z-of_z}
use Rattle.dbf_fields.proofs.ReadBack.{length-number_cell, same_number_again}
use Rattle.dbf_fields.proofs.DateLaws.{same_day_again, text_fills}
use Rattle.dbf_fields.proofs.cell.encode_cell.Goals as goal

pub returns-in_ok-number_cell-in-Number-clause-wide : goal.returns-in_ok-number_cell-in-Number-clause-wide
returns-in_ok-number_cell-in-Number-clause-wide c = length-number_cell _ _ _ _ c.in_ok-number_cell-in-Number.field-0 c.in_ok-number_cell-in-Number.ensures.value

pub returns-in_ok-number_cell-in-Number-clause-number_again : goal.returns-in_ok-number_cell-in-Number-clause-number_again
returns-in_ok-number_cell-in-Number-clause-number_again c =
    let fits : FitsSigned w128 c.get.result = search rules in
    let cell = rw (to_z-of_z w128 c.get.result fits, c.get.ensures.value) at c.in_ok-number_cell-in-Number.ensures.value in
    rw c.in-Number.is (same_number_again c.args.field.now.width c.args.field.now.decimals c.in-Number.digits c.in-Number.scale c.in_ok-number_cell-in-Number.field-0 cell)

pub returns-in_ok-padded-in-Date-clause-date_again : goal.returns-in_ok-padded-in-Date-clause-date_again
returns-in_ok-padded-in-Date-clause-date_again c =
    let day = c.in-Date.day in
    let padding = rw (c.from-width.ensures, c.date_text.ensures.value) at c.in_ok-padded-in-Date.ensures.value in
    λ wide. rw (c.in-Date.is, padding ∙ text_fills c.args.field.now day.year day.month day.day c.if-field-eq-DATE.true wide) (same_day_again day day.real)
