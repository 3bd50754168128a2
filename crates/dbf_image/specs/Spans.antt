-- Where the texts of memos stand in their file, as the reader finds them.
use Rattle.std.specs.Prelude.{◌≡◌, ℕ, ◌+◌, ◌*◌, ◌/◌, ◌<◌, ◌==◌, List, length, drop, slice_index}
use Rattle.std.specs.List.{position_or_len}
use Rattle.dbf_image.specs.declared.dbt.span.Span.{Span}
use Rattle.dbf_image.specs.declared.format.TheConstants.{BLOCK, MEMO_END}

-- where the first 0x1A stands at or after an offset, or the file's end
abbrev pub end_at : List ℕ → ℕ → ℕ
end_at dbt offset = offset + position_or_len (λ b. b == MEMO_END) (drop offset dbt)

-- the same for the heads of all blocks
pub record AreEnds (dbt ends : List ℕ) : Type 0 where
  pub many : length ends ≡ length dbt / BLOCK + 1
  pub each : (block : ℕ) → block < length ends → slice_index ends block ≡ end_at dbt (BLOCK * block)

-- where the text of a block stands
abbrev pub span_of : List ℕ → ℕ → Span
span_of dbt block = record { start = BLOCK * block; length = position_or_len (λ b. b == MEMO_END) (drop (BLOCK * block) dbt) }
