-- The bytes that are shown of a byte.
use Rattle.std.specs.Prelude.{ℕ, List}
use Rattle.table_text.specs.declared.shown_byte.ShownByte.{ShownByte}
use Rattle.table_text.specs.declared.shown_byte.ShownByte.TheVariants.{Plain, Marked, Digits}

-- the one, two or four bytes that are shown of a byte
abbrev pub bytes_shown : ShownByte → List ℕ
bytes_shown (Plain bytes) = bytes
bytes_shown (Marked bytes) = bytes
bytes_shown (Digits bytes) = bytes
