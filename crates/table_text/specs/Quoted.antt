-- Bytes between quotes.
use Rattle.std.specs.Prelude.{ℕ, List, [], ◌∷◌, ◌++◌, ◌==◌, if◌then◌else◌}
use Rattle.std.specs.List.{flat_map}
use Rattle.table_text.specs.declared.format.TheConstants.{BACKSLASH, QUOTE}
use Rattle.table_text.specs.Shown.{shown_byte}

-- a byte between quotes: a quote after a backslash, and every other byte as it is shown
abbrev pub byte_between_quotes : ℕ → List ℕ
byte_between_quotes byte = if byte == QUOTE then BACKSLASH ∷ QUOTE ∷ [] else shown_byte byte

-- bytes between quotes
abbrev pub between_quotes : List ℕ → List ℕ
between_quotes bytes = QUOTE ∷ (flat_map byte_between_quotes bytes ++ QUOTE ∷ [])
