-- The numbers of memos in a store of texts, and how they are read from a file.
use Rattle.std.specs.Prelude.{◌≡◌, ◌≢◌, ℕ, ◌+◌, ◌/◌, ◌≤◌, List, [], ◌∷◌, ◌++◌, length, map, drop, take, Option, unwrap_or, ◌==◌, slice_index, if◌then◌else◌}
use Rattle.std.specs.List.{AllByRecursion}
use Rattle.dbf_fields.specs.declared.field.Field.{Field}
use Rattle.dbf_fields.specs.declared.format.TheConstants.{MEMO}
use Rattle.dbf_image.specs.declared.dbt.memos.ReadMemos.{ReadMemos}
use Rattle.dbf_image.specs.declared.format.TheConstants.{BLOCK}
use Rattle.dbf_image.specs.Memo.{memo_at}
use Rattle.dbf_image.specs.declared.memo_store.file_text.TheConstants.{FILE_TEXTS}
use Rattle.dbf_image.specs.FileTexts.{file_texts, IsInFile}
use Rattle.dbf_image.specs.MemoStore.{Texts}
use Rattle.dbf_image.specs.DbfText.{row_chunks}
use Rattle.dbf_image.specs.Reading.{memo_text, row_read}
use Rattle.dbf_image.specs.Store.{text_of, texts_of, rows_of, IsMemo}

-- a number that has a text keeps it
abbrev pub KeepsMemos : Texts → Texts → Type 0
KeepsMemos old new = (number : ℕ) → IsMemo old number → IsMemo new number × (text_of new number ≡ text_of old number)

-- the texts of the memos among the cells of a record,
unfoldable pub cell_texts : List ℕ → Field → List ℕ → List (List ℕ)
cell_texts dbt f cell = if f.kind == MEMO then memo_text dbt cell ∷ [] else []

abbrev pub cells_texts : List ℕ → List Field → List ℕ → List (List ℕ)
cells_texts dbt [] bytes = []
cells_texts dbt (f ∷ fs) bytes = cell_texts dbt f (take f.width bytes) ++ cells_texts dbt fs (drop f.width bytes)

-- the texts that a record's memo cells tell
abbrev pub row_texts : List ℕ → List Field → List ℕ → List (List ℕ)
row_texts dbt fields bytes = cells_texts dbt fields (drop 1 bytes)

-- the texts that were read of a memo file, by their numbers
abbrev pub read_texts : List ℕ → ReadMemos → Texts
read_texts dbt memos = file_texts dbt memos.texts.items

-- the texts of all memos that were read
abbrev pub all_texts : List ℕ → ReadMemos → List (List ℕ)
all_texts dbt memos = texts_of (read_texts dbt memos) memos.numbers.items

-- the store has the texts that the file of memos has: with either, the records are the same rows
abbrev pub HasTextsOf : Option (List ℕ) → List Field → ℕ → List ℕ → Texts → List ℕ → Type 0
HasTextsOf dbt fields count bytes texts numbers =
    rows_of fields count bytes (texts_of texts numbers) ≡ map (row_read (unwrap_or dbt []) fields) (row_chunks fields count bytes)

-- a block whose number is known has that text, and all memos that were read have theirs, which stand in the file
pub record IsReading (dbt : List ℕ) (memos : ReadMemos) : Type 0 where
  pub many : length memos.of_block.items ≡ length dbt / BLOCK + 1
  pub known : (block : ℕ) → slice_index memos.of_block.items block ≢ 0
      → IsMemo (read_texts dbt memos) (slice_index memos.of_block.items block)
      × (text_of (read_texts dbt memos) (slice_index memos.of_block.items block) ≡ memo_at dbt block)
  pub each : AllByRecursion (IsMemo (read_texts dbt memos)) memos.numbers.items
  pub few : length memos.texts.items ≤ FILE_TEXTS
  pub inside : AllByRecursion (IsInFile dbt) memos.texts.items
