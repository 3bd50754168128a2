-- How a value is told.
use Rattle.std.specs.Prelude.{ℕ, Bool, false, not, ◌&&◌, ◌||◌, ◌==◌, if◌then◌else◌, List, length}
use Rattle.std.specs.List.{list_all}
use Rattle.dbf_fields.specs.declared.format.TheConstants.{BLANK}
use Rattle.table_text.specs.Csv.{wants_quotes}
use Rattle.table_text.specs.Quoted.{between_quotes}
use Rattle.table_text.specs.Shown.{is_plain}

-- a byte that may stand in a text without quotes around it: no blank, and none that wants quotes in CSV
abbrev pub is_bare_byte : ℕ → Bool
is_bare_byte byte = is_plain byte && not (byte == BLANK || wants_quotes byte)

-- some bytes, and such ones alone
abbrev pub is_bare : List ℕ → Bool
is_bare text = if length text == 0 then false else list_all is_bare_byte text

-- a text as it is, where it is one word, and else between quotes
unfoldable pub text_told : List ℕ → List ℕ
text_told text = if is_bare text then text else between_quotes text
