-- A number of 128 bits in two words.
use Rattle.std.specs.Prelude.{ℕ, ◌+◌, ◌*◌, ◌^◌, ℤ}
use Rattle.std.specs.Int.{cast_signed, w128}

-- the number of 128 bits, with its sign, whose bits are these two words: what a `WholeNumber` is seen as
abbrev pub number_of_words : ℕ → ℕ → ℤ
number_of_words high low = cast_signed w128 (high * 2 ^ 64 + low)
