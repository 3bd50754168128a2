-- Texts in cells of a fixed width.
use Rattle.std.specs.Prelude.{ℕ, List, ◌++◌, take, replicate}
use Rattle.dbf_fields.specs.declared.format.TheConstants.{BLANK}

-- a text cut to the width, or filled up with blanks to it
abbrev pub padded : ℕ → List ℕ → List ℕ
padded width text = take width (text ++ replicate width BLANK)
