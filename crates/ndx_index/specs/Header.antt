-- The header of an index file, and the whole file.
use Rattle.std.specs.Prelude.{◌≡◌, ◌+◌, ℕ, List, [], ◌∷◌, length, drop, reverse, slice_index, slice_range, nat_le, Bool, ◌==◌, ◌⊎◌, Option, Some, None, if◌then◌else◌}
use Rattle.std.specs.Int.{is_in_range}
use Rattle.dbf_fields.specs.declared.format.TheConstants.{BLANK}
use Rattle.byteorder.specs.Endian.{little_number}
use Rattle.dbf_fields.specs.Faults.{first_fault}
use Rattle.ndx_index.specs.declared.pair.Pair.{Pair}
use Rattle.ndx_index.specs.declared.read.header.Header.{Header}
use Rattle.ndx_index.specs.declared.read.header.HeaderNumbers.{HeaderNumbers}
use Rattle.ndx_index.specs.declared.read.page.PageLayout.{PageLayout}
use Rattle.ndx_index.specs.declared.fault.NdxFault.{NdxFault}
use Rattle.key_expr.specs.declared.format.TheConstants.{MAX_KEY_BYTES}
use Rattle.ndx_index.specs.declared.format.TheConstants.{PAGE, PAGE_COUNT_OFFSET, KEY_LENGTH_OFFSET, KEY_TYPE_OFFSET, RECORD_SIZE_OFFSET, UNIQUE_FLAG_OFFSET, EXPRESSION_OFFSET, MAX_RECORDS_BYTES}
use Rattle.ndx_index.specs.declared.fault.NdxFault.TheVariants.{Truncated, NumericIndex, UniqueIndex, BadKeyLength, BadRecordSize}
use Rattle.ndx_index.specs.Pages.{u32_at}
use Rattle.ndx_index.specs.NdxTree.{BadPage, IsFileTree, Visits}

-- the number in the two bytes at an offset
unfoldable pub u16_at : List ℕ → ℕ → ℕ
u16_at bytes at = little_number 2 (drop at bytes)

-- the numbers of the header page, as they stand there
abbrev pub header_numbers : List ℕ → HeaderNumbers
header_numbers bytes = record {
  root = u32_at bytes 0;
  page_count = u32_at bytes PAGE_COUNT_OFFSET;
  key_len = u16_at bytes KEY_LENGTH_OFFSET;
  key_type = u16_at bytes KEY_TYPE_OFFSET;
  record_size = u16_at bytes RECORD_SIZE_OFFSET;
  unique_flag = slice_index bytes UNIQUE_FLAG_OFFSET;
}

-- how pages are laid out by these numbers, where no test fails
abbrev pub layout_of : HeaderNumbers → PageLayout
layout_of numbers = record { key_len = numbers.key_len; size = numbers.record_size }

-- each test of the layout, a key's length and a key record's size, without which no page can be read, beside the fault that it is
-- for
abbrev pub layout_tests : ℕ → ℕ → List (Bool × NdxFault)
layout_tests key_len size =
    (is_in_range 1 MAX_KEY_BYTES key_len, BadKeyLength)
    ∷ (is_in_range (key_len + 8) MAX_RECORDS_BYTES size, BadRecordSize)
    ∷ []

-- each test of the header page beside the fault that it is for
unfoldable pub header_page_tests : List ℕ → List (Bool × NdxFault)
header_page_tests bytes =
    (nat_le PAGE (length bytes), Truncated)
    ∷ (u16_at bytes KEY_TYPE_OFFSET == 0, NumericIndex)
    ∷ (slice_index bytes UNIQUE_FLAG_OFFSET == 0, UniqueIndex)
    ∷ layout_tests (u16_at bytes KEY_LENGTH_OFFSET) (u16_at bytes RECORD_SIZE_OFFSET)

-- the first rule that the header page breaks
abbrev pub header_refusal : List ℕ → Option NdxFault
header_refusal bytes = first_fault (header_page_tests bytes)

-- what the header page says, where no test fails
unfoldable pub ndx_header : List ℕ → Header
ndx_header bytes = record { layout = record { key_len = u16_at bytes KEY_LENGTH_OFFSET; size = u16_at bytes RECORD_SIZE_OFFSET }; root = u32_at bytes 0 }

-- the bytes up to the first zero
unfoldable pub before_zero : List ℕ → List ℕ
before_zero [] = []
before_zero (b ∷ bs) = if b == 0 then [] else b ∷ before_zero bs

-- without the blanks at the front
abbrev pub after_blanks : List ℕ → List ℕ
after_blanks [] = []
after_blanks (b ∷ bs) = if b == BLANK then after_blanks bs else b ∷ bs

-- without the blanks at the end
unfoldable pub trimmed_end : List ℕ → List ℕ
trimmed_end bs = reverse (after_blanks (reverse bs))

-- the text of the key expression with the blanks after it: up to its first zero, or to the header page's end
abbrev pub padded_expression : List ℕ → List ℕ
padded_expression bytes = before_zero (slice_range bytes EXPRESSION_OFFSET PAGE)

-- the text of the key expression
abbrev pub expression : List ℕ → List ℕ
expression bytes = trimmed_end (padded_expression bytes)

-- the bytes are an index file with this key expression, keys of this length, and these pairs
pub record IsIndex (bytes text : List ℕ) (key_len : ℕ) (pairs : List Pair) : Type 0 where
  pub header_is : header_refusal bytes ≡ None
  pub text_is : text ≡ expression bytes
  pub length_is : key_len ≡ (ndx_header bytes).layout.key_len
  pub pages : List ℕ
  pub tree : IsFileTree (ndx_header bytes).layout bytes (ndx_header bytes).root pages pairs

-- this is the page at which the walk breaks a rule first, and the rule
abbrev pub IsBadPage : List ℕ → BadPage → Type 0
IsBadPage bytes bad =
    (header_refusal bytes ≡ None) × (pages : List ℕ) × (pairs : List Pair) × Visits (ndx_header bytes).layout bytes [] ((ndx_header bytes).root ∷ []) pages pairs (Some bad)

-- The page of a file that is refused: the one at which the walk breaks this rule, and none before it; where there is none, the
-- header page breaks it.
abbrev pub IsRefusedPage : List ℕ → NdxFault → Option ℕ → Type 0
IsRefusedPage bytes why None = header_refusal bytes ≡ Some why
IsRefusedPage bytes why (Some page) = IsBadPage bytes (record { page = page; why = why })

-- this is the first rule that the bytes break
abbrev pub HasNdxFault : List ℕ → NdxFault → Type 0
HasNdxFault bytes e = (header_refusal bytes ≡ Some e) ⊎ ((page : ℕ) × IsBadPage bytes (record { page = page; why = e }))
