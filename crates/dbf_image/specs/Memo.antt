-- The texts of memos, in a file of blocks of 512 bytes.
use Rattle.std.specs.Prelude.{◌≡◌, ◌≢◌, ℕ, ◌*◌, ◌<◌, ◌≤◌, ◌⊎◌, ◌==◌, List, [], ◌∷◌, length, take, drop, Option, Some, None, if◌then◌else◌}
use Rattle.std.specs.List.{list_all, before_first}
use Rattle.std.specs.Char.{is_ascii_digit}
use Rattle.dbf_fields.specs.declared.field.Field.{Field}
use Rattle.dbf_fields.specs.declared.format.TheConstants.{MEMO}
use Rattle.dbf_fields.specs.Digits.{digits_after}
use Rattle.dbf_fields.specs.Number.{trimmed}
use Rattle.dbf_image.specs.declared.format.TheConstants.{BLOCK, MAX_MEMO_BYTES, MEMO_END}

-- the block number of a memo's cell: digits between blanks and nothing else. No digits, or 0, is no memo
unfoldable pub memo_number : List ℕ → Option ℕ
memo_number cell = if list_all is_ascii_digit (trimmed cell) then Some (digits_after 0 (trimmed cell)) else None

-- the text from the head of a block to the first 0x1A or the end
abbrev pub memo_at : List ℕ → ℕ → List ℕ
memo_at dbt block = before_first (λ b. b == MEMO_END) (drop (BLOCK * block) dbt)

-- the block, which is not the header's, has the text
pub record HasText (dbt : List ℕ) (block : ℕ) (text : List ℕ) : Type 0 where
  pub some : 0 < block
  pub inside : BLOCK * block < length dbt
  pub short : length text ≤ MAX_MEMO_BYTES
  pub text_is : memo_at dbt block ≡ text

-- a memo's cell tells no memo, or the number of a block with the text
abbrev pub EncodesMemo : List ℕ → List ℕ → List ℕ → Type 0
EncodesMemo dbt bytes text = ((memo_number bytes ≡ Some 0) × (text ≡ [])) ⊎ ((block : ℕ) × (memo_number bytes ≡ Some block) × HasText dbt block text)

-- what the bytes of a cell tell: a memo, or the cell as it is
abbrev pub EncodesCell : List ℕ → Field → List ℕ → List ℕ → Type 0
EncodesCell dbt f bytes cell = (f.kind ≡ MEMO → EncodesMemo dbt bytes cell) × (f.kind ≢ MEMO → cell ≡ bytes)

-- the same of all cells of a record, which stand without separators
abbrev pub EncodesCells : List ℕ → List Field → List ℕ → List (List ℕ) → Type 0
EncodesCells dbt [] bytes [] = Unit {0}
EncodesCells dbt [] bytes (c ∷ cs) = ⊥
EncodesCells dbt (f ∷ fs) bytes [] = ⊥
EncodesCells dbt (f ∷ fs) bytes (c ∷ cs) = EncodesCell dbt f (take f.width bytes) c × EncodesCells dbt fs (drop f.width bytes) cs
