use Rattle.std.proofs.Common.{sym, ◌∙◌}
use Rattle.dbf_fields.specs.Date.{year_in, month_in, day_in}
use Rattle.dbf_fields.proofs.DateLaws.{date_tests, day_tests}
use Rattle.dbf_fields.proofs.date.date_in.Goals as goal

pub returns-clause-some : goal.returns-clause-some
returns-clause-some c =
    let cell = c.args.cell.now in
    let some = rw (c.small_number-year.ensures.value, c.small_number-month.ensures.value, c.small_number-day.ensures.value) at c.day_of.ensures.some in
    let same = date_tests cell c.if-cell-ne8.false (sym c.if-not-are_digits.ensures.value) in
    let tests = day_tests (year_in cell) (month_in cell) (day_in cell) in
    (λ is. same ∙ tests.1 (some.0 is), λ date. some.1 (tests.0 (sym same ∙ date)))
