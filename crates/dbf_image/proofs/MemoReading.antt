-- What is known while memos are read from their file.
use Rattle.std.proofs.Common.{◌≡◌, ℕ, ◌+◌, ◌-◌, ◌*◌, ◌/◌, ◌<◌, ◌≤◌, true, eqb, leb, List, [], ◌∷◌, ◌++◌, length, drop, take, replicate, get_or, set, None, refl, ap, ◌∙◌, arith, inl, inr}
use Rattle.std.specs.Prelude.{not}
use Rattle.std.specs.List.{list_all, position_or_len, AllByRecursion}
use Rattle.std.proofs.lemmas.Bool.{le-leb, and_from, cases_eq, cases_lt}
use Rattle.std.proofs.lemmas.List.{get_or-set_same, get_or-set_other, get_or-replicate, get_or_past, take_all, length-set, length-replicate, length-drop, length-take-le, map-append}
use Rattle.dbf_fields.specs.declared.field.Field.{Field}
use Rattle.dbf_fields.specs.declared.format.TheConstants.{MEMO}
use Rattle.dbf_fields.specs.Faults.{first_fault}
use Rattle.dbf_image.specs.declared.dbt.memos.ReadMemos.{ReadMemos}
use Rattle.dbf_image.specs.declared.dbt.span.Span.{Span}
use Rattle.dbf_image.specs.declared.format.TheConstants.{BLOCK, MAX_MEMO_BYTES, MEMO_END}
use Rattle.dbf_image.specs.Table.{is_memo_text}
use Rattle.dbf_image.specs.Memo.{memo_at}
use Rattle.dbf_image.specs.MemoNumbers.{KeepsMemos, read_texts, cell_texts, IsReading}
use Rattle.dbf_image.specs.declared.memo_store.file_text.TheConstants.{FILE_TEXTS}
use Rattle.dbf_image.specs.FileTexts.{IsInFile}
use Rattle.dbf_image.specs.MemoStore.{Texts}
use Rattle.dbf_image.specs.Reading.{text_tests, memo_text}
use Rattle.dbf_image.specs.Spans.{span_of}
use Rattle.dbf_image.specs.Store.{text_of, texts_of, IsMemo}
use Rattle.dbf_image.proofs.Ends.{end_inside, prefix_all}
use Rattle.dbf_image.proofs.MemoNumbers.{texts_kept, memos_kept}
use Rattle.dbf_image.proofs.MemoTests.{text_ok}

-- ---- no number is known yet

abbrev zeros : ℕ → List ℕ
zeros n = replicate n 0

none_known : (n i : ℕ) → get_or (zeros n) i 0 ≡ 0
none_known n i = elim (cases_lt i n) [
  | inl lt ↦ get_or-replicate n i 0 0 lt
  | inr le ↦ get_or_past (zeros n) i 0 (omega (arith, length-replicate {A = ℕ} n 0))
]

-- a list that was empty and is filled up
pub filled : (before : List ℕ) (n len : ℕ) → before ≡ [] → len ≡ 0 → take n before ++ replicate (n - len) 0 ≡ zeros n
filled before n len none short =
    let long : n - len ≡ n = omega arith in
    rw (none, long, take_all {A = ℕ} n [] (omega arith)) refl

-- ---- a block's text

pub span_text : (dbt : List ℕ) (n : ℕ) (span : Span) → span ≡ span_of dbt n → take span.length (drop span.start dbt) ≡ memo_at dbt n
span_text dbt n span is = rw is refl

-- which stands in the file,
pub span_inside : (dbt : List ℕ) (n : ℕ) (span : Span) → span ≡ span_of dbt n → first_fault (text_tests dbt n) ≡ None → span.start + span.length ≤ length dbt
span_inside dbt n span is h =
    let start : span.start ≡ BLOCK * n = ap (λ (s : Span). s.start) is in
    let long : span.length ≡ position_or_len (λ b. eqb b MEMO_END) (drop (BLOCK * n) dbt) = ap (λ (s : Span). s.length) is in
    omega (arith, start, long, (text_ok dbt n h).inside, end_inside (drop (BLOCK * n) dbt), length-drop (BLOCK * n) dbt)

-- and isn't too long
pub span_short : (dbt : List ℕ) (n : ℕ) (span : Span) → span ≡ span_of dbt n → first_fault (text_tests dbt n) ≡ None → span.length ≤ MAX_MEMO_BYTES
span_short dbt n span is h =
    let text : length (take span.length (drop span.start dbt)) ≡ length (memo_at dbt n) = ap (λ (t : List ℕ). length t) (span_text dbt n span is) in
    omega (arith, text, (text_ok dbt n h).short, span_inside dbt n span is h, length-take-le span.length (drop span.start dbt), length-drop span.start dbt)

-- a memo may have it,
pub block_may : (dbt : List ℕ) (n : ℕ) → first_fault (text_tests dbt n) ≡ None → is_memo_text (memo_at dbt n) ≡ true
block_may dbt n h =
    and_from (leb (length (memo_at dbt n)) MAX_MEMO_BYTES) (list_all (λ b. not (eqb b MEMO_END)) (memo_at dbt n)) (le-leb _ _ (text_ok dbt n h).short) (prefix_all (λ b. not (eqb b MEMO_END)) (drop (BLOCK * n) dbt))

-- and the block is one of those whose numbers are noted
pub block_inside : (dbt : List ℕ) (n : ℕ) → first_fault (text_tests dbt n) ≡ None → n < length dbt / BLOCK + 1
block_inside dbt n h = omega (arith, (text_ok dbt n h).inside)

-- ---- what is known at first, and with one more block's number

pub starts : (dbt : List ℕ) (memos : ReadMemos) → memos.of_block.items ≡ zeros (length dbt / BLOCK + 1) → memos.numbers.items ≡ [] → memos.texts.items ≡ [] → IsReading dbt memos
starts dbt memos blocks numbers texts =
    let n : ℕ = length dbt / BLOCK + 1 in
    record {
      many = rw blocks (length-replicate {A = ℕ} n 0);
      known = λ block. rw blocks (λ some. absurd (some (none_known n block)));
      each = rw numbers tt;
      few = rw texts (omega arith);
      inside = rw texts tt;
    }

pub noted : (dbt : List ℕ) (old new : ReadMemos) (block number : ℕ) → IsReading dbt old → KeepsMemos (read_texts dbt old) (read_texts dbt new)
    → block < length old.of_block.items → new.of_block.items ≡ set old.of_block.items block number → new.numbers ≡ old.numbers
    → IsMemo (read_texts dbt new) number → text_of (read_texts dbt new) number ≡ memo_at dbt block
    → length new.texts.items ≤ FILE_TEXTS → AllByRecursion (IsInFile dbt) new.texts.items → IsReading dbt new
noted dbt old new block number reading keeps inside blocks numbers fits text few there =
    let xs : List ℕ = old.of_block.items in
    record {
      many = rw blocks (length-set xs block number ∙ reading.many);
      known = λ b. rw blocks (elim (cases_eq b block) [
        | inl e ↦ rw (e, get_or-set_same xs block number 0 inside) (λ some. (fits, text))
        | inr ne ↦ rw (get_or-set_other xs block b number 0 ne) (λ some.
            let k = reading.known b some in
            ((keeps _ k.0).0, (keeps _ k.0).1 ∙ k.1))
      ]);
      each = rw numbers (memos_kept (read_texts dbt old) (read_texts dbt new) old.numbers.items keeps reading.each);
      few = few;
      inside = there;
    }

-- ---- one more memo

texts_pushed : (old new : Texts) (numbers : List ℕ) (number : ℕ) (text : List ℕ) → KeepsMemos old new → AllByRecursion (IsMemo old) numbers → text_of new number ≡ text
    → texts_of new (numbers ++ number ∷ []) ≡ texts_of old numbers ++ text ∷ []
texts_pushed old new numbers number text keeps each is = rw (map-append (text_of new) numbers (number ∷ []), texts_kept old new numbers keeps each, is) refl

pub texts_cell : (dbt : List ℕ) (f : Field) (cell : List ℕ) (old new : Texts) (numbers more : List ℕ) (number : ℕ) → f.kind ≡ MEMO → KeepsMemos old new → AllByRecursion (IsMemo old) numbers
    → text_of new number ≡ memo_text dbt cell → more ≡ numbers ++ number ∷ [] → texts_of new more ≡ texts_of old numbers ++ cell_texts dbt f cell
unfolding cell_texts
texts_cell dbt f cell old new numbers more number kind keeps each is added = rw (added, kind) (texts_pushed old new numbers number (memo_text dbt cell) keeps each is)
