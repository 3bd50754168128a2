use Rattle.std.proofs.Common.{List, ℕ, ap, sym, ◌∙◌}
use Rattle.std.specs.Prelude.{bytes_eq}
use Rattle.station_lines.proofs.ScriptLaws.Dates.{shown_cell}
use Rattle.station_lines.proofs.script.literal.date_literal.Goals as goal

pub returns : goal.returns
returns c =
    let text = c.args.text.now in
    let differs = sym (c.if-eq.ensures ∙ ap (λ (xs : List ℕ). bytes_eq text xs) c.as_slice.ensures) in
    record { value = rw (c.date_of_cell.ensures.value, c.year_first.ensures.value) (shown_cell text differs (sym c.if-not-has_slashes.ensures.value)) }
