-- What a number prints.
use Rattle.std.specs.Prelude.{ℕ, nat_le, List, length, replicate, Some, None, if◌then◌else◌}
use Rattle.dbf_fields.specs.declared.format.TheConstants.{ASTERISK}
use Rattle.dbf_fields.specs.Number.{number}
use Rattle.dbf_fields.specs.NumberText.{number_text, right_justified}

-- a text after as many blanks as fill the width, or asterisks where it is too long
abbrev pub text_in_width : ℕ → List ℕ → List ℕ
text_in_width width text = if nat_le (length text) width then right_justified width text else replicate width ASTERISK

-- what STR prints of the number of a cell: asterisks if the cell can't be read. DTOC prints `date_shown` of dbf_fields.
abbrev pub str_text : ℕ → ℕ → List ℕ → List ℕ
str_text width decimals cell = elim (number cell decimals) [
  | None ↦ replicate width ASTERISK
  | Some n ↦ text_in_width width (number_text n decimals decimals)
]
