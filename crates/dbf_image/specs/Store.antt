-- The rows of a table whose records stand in one list of bytes and its memos' texts in a store.
use Rattle.std.specs.Prelude.{◌≡◌, ◌≢◌, ℕ, suc, ◌*◌, true, ◌==◌, List, [], ◌∷◌, length, map, take, drop, slice_index, IsSome, unwrap_or, if◌then◌else◌}
use Rattle.std.specs.List.{AllByRecursion}
use Rattle.dbf_fields.specs.declared.field.Field.{Field}
use Rattle.dbf_fields.specs.declared.format.TheConstants.{MEMO}
use Rattle.dbf_image.specs.MemoStore.{Texts, get_text}
use Rattle.dbf_image.specs.Table.{Row, is_memo_text}
use Rattle.dbf_image.specs.declared.dbf.header.Header.{Header}
use Rattle.dbf_image.specs.declared.table.store.Store.{Store}
use Rattle.dbf_image.specs.DbfText.{chunks, row_chunks, AreRecords}
use Rattle.dbf_image.specs.declared.format.TheConstants.{DELETED, KEPT}

-- the text of a memo's number, 0 for none
abbrev pub text_of : Texts → ℕ → List ℕ
text_of texts number = if number == 0 then [] else unwrap_or (get_text texts number) []

abbrev pub texts_of : Texts → List ℕ → List (List ℕ)
texts_of texts numbers = map (text_of texts) numbers

-- the number is 0 or has a text, and a memo may have it
pub record IsMemo (texts : Texts) (number : ℕ) : Type 0 where
  pub held : number ≢ 0 → IsSome (get_text texts number)
  pub text : is_memo_text (text_of texts number) ≡ true

-- how many memos a record has
abbrev pub memo_count : List Field → ℕ
memo_count [] = 0
memo_count (f ∷ fs) = if f.kind == MEMO then suc (memo_count fs) else memo_count fs

-- the first of the memos, or no memo where there is none
abbrev pub first_memo : List (List ℕ) → List ℕ
first_memo [] = []
first_memo (t ∷ ts) = t

-- the cells of a record: its bytes, but for the memos, which come in the order of the fields
abbrev pub cells_with : List Field → List ℕ → List (List ℕ) → List (List ℕ)
cells_with [] bytes memos = []
cells_with (f ∷ fs) bytes memos =
    if f.kind == MEMO
    then first_memo memos ∷ cells_with fs (drop f.width bytes) (drop 1 memos)
    else take f.width bytes ∷ cells_with fs (drop f.width bytes) memos

-- a record: a flag and the cells. A flag other than 0x2A means kept
abbrev pub row_with : List Field → List ℕ → List (List ℕ) → Row
row_with fields bytes memos = record { deleted = slice_index bytes 0 == DELETED; cells = cells_with fields (drop 1 bytes) memos }

-- the flag of a record is the one that is written of it
abbrev pub HasWrittenFlag : List ℕ → Type 0
HasWrittenFlag bytes = (if slice_index bytes 0 == DELETED then DELETED else KEPT) ≡ slice_index bytes 0

-- one record after the other, each with its memos
abbrev pub rows_with : List Field → List (List ℕ) → List (List ℕ) → List Row
rows_with fields [] memos = []
rows_with fields (p ∷ ps) memos = row_with fields p memos ∷ rows_with fields ps (drop (memo_count fields) memos)

-- the rows of the first `count` records in a list of bytes
abbrev pub rows_of : List Field → ℕ → List ℕ → List (List ℕ) → List Row
rows_of fields count bytes memos = rows_with fields (row_chunks fields count bytes) memos

-- what a store that is lent has: the texts of its memos
abbrev pub memos_in : Store → List (List ℕ)
memos_in store = texts_of store.texts.now.texts store.memos.now

-- the rows of the first `count` records of a store that is lent
abbrev pub rows_in : List Field → ℕ → Store → List Row
rows_in fields count store = rows_of fields count store.records.now (memos_in store)

-- the rows of those records of a store that a header counts
abbrev pub rows_by_header : List Field → Header → Store → List Row
rows_by_header fields header store = rows_with fields (chunks header.record_length header.record_count store.records.now) (memos_in store)

-- the row of the only record of a store
abbrev pub row_in : List Field → Store → Row
row_in fields store = row_with fields store.records.now (memos_in store)

-- the cells of the only record of a store, whose flag is left out
abbrev pub cells_in : List Field → Store → List (List ℕ)
cells_in fields store = cells_with fields store.records.now (memos_in store)

-- the lists have `count` records, and a text for each memo
pub record IsStore (fields : List Field) (count : ℕ) (bytes : List ℕ) (texts : Texts) (numbers : List ℕ) : Type 0 where
  pub records : AreRecords fields count bytes
  pub many : length numbers ≡ count * memo_count fields
  pub each : AllByRecursion (IsMemo texts) numbers
