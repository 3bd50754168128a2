-- Which bytes of a key are asked for.
use Rattle.std.specs.Prelude.{ℕ, Bool, true, false, List, map, take, drop}
use Rattle.std.specs.Char.{to_ascii_uppercase}
use Rattle.key_expr.specs.declared.evaluate.Window.{Window}

-- a byte, in capitals if so asked
abbrev pub upper_if : Bool → ℕ → ℕ
upper_if true b = to_ascii_uppercase b
upper_if false b = b

-- the bytes that are asked for
abbrev pub bytes_in : Window → List ℕ → List ℕ
bytes_in w bytes = map (upper_if w.upper) (take w.count (drop w.from bytes))
