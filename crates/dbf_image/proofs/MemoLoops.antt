-- One more cell of a record, and one more record.
use Rattle.dbf_image.proofs.Steps.{here}
use Rattle.dbf_image.proofs.FileLaws.{memos_wide}
use Rattle.std.proofs.Common.{◌≡◌, ℕ, suc, ◌+◌, ◌-◌, ◌<◌, Bool, List, ◌++◌, length, take, drop, get_or, None, refl, sym, append_assoc, inl, inr, All, arith}
use Rattle.std.proofs.lemmas.List.Elements.{All-from_recursion}
use Rattle.dbf_fields.specs.declared.field.Field.{Field}
use Rattle.dbf_fields.specs.Faults.{first_fault}
use Rattle.dbf_fields.specs.Schema.{IsSchema}
use Rattle.dbf_fields.proofs.SchemaLaws.{schema_wide}
use Rattle.dbf_image.specs.declared.bad_table.BadTable.{BadTable}
use Rattle.dbf_image.specs.BadTable.{part_of_memo, tests_of, record_memos_tests, records_memos_tests, IsBad}
use Rattle.dbf_image.specs.DbfText.{chunks}
use Rattle.dbf_image.specs.Reading.{cell_tests}
use Rattle.dbf_image.specs.MemoNumbers.{cell_texts, cells_texts}
use Rattle.dbf_fields.proofs.FaultLaws.{first_then, first_before}
use Rattle.dbf_fields.specs.declared.format.TheConstants.{MEMO}

-- the tests from a field on are those of its cell, and then those from the next field on
tests_more : (dbt bytes : List ℕ) (number n : ℕ) (fields : List Field) (i : ℕ) (f : Field) → i < length fields → f ≡ get_or fields i f
    → record_memos_tests dbt number n (drop i fields) bytes ≡ tests_of (part_of_memo number n (take f.width bytes)) (cell_tests dbt f (take f.width bytes)) ++ record_memos_tests dbt number (n + 1) (drop (i + 1) fields) (drop f.width bytes)
tests_more dbt bytes number n fields i f lt is = rw (here fields i f lt is) refl

pub tests-next : (dbt bytes : List ℕ) (number n : ℕ) (fields : List Field) (i : ℕ) (f : Field) → i < length fields → f ≡ get_or fields i f
    → first_fault (tests_of (part_of_memo number n (take f.width bytes)) (cell_tests dbt f (take f.width bytes))) ≡ None
    → first_fault (record_memos_tests dbt number (n + 1) (drop (i + 1) fields) (drop f.width bytes)) ≡ first_fault (record_memos_tests dbt number n (drop i fields) bytes)
tests-next dbt bytes number n fields i f lt is none =
    rw (tests_more dbt bytes number n fields i f lt is) (sym (first_then (tests_of (part_of_memo number n (take f.width bytes)) (cell_tests dbt f (take f.width bytes))) (record_memos_tests dbt number (n + 1) (drop (i + 1) fields) (drop f.width bytes)) none))

pub group_stop : (xs ys : List (Bool × BadTable)) (bad : BadTable) → IsBad bad xs → IsBad bad (xs ++ ys)
group_stop xs ys bad (inl h) = inl h
group_stop xs ys bad (inr h) = inr (first_before xs ys bad h)

pub tests-stop : (dbt bytes : List ℕ) (number n : ℕ) (fields : List Field) (i : ℕ) (f : Field) (bad : BadTable) → i < length fields → f ≡ get_or fields i f
    → IsBad bad (tests_of (part_of_memo number n (take f.width bytes)) (cell_tests dbt f (take f.width bytes))) → IsBad bad (record_memos_tests dbt number n (drop i fields) bytes)
tests-stop dbt bytes number n fields i f bad lt is h =
    rw (tests_more dbt bytes number n fields i f lt is) (group_stop (tests_of (part_of_memo number n (take f.width bytes)) (cell_tests dbt f (take f.width bytes))) (record_memos_tests dbt number (n + 1) (drop (i + 1) fields) (drop f.width bytes)) bad h)

-- the tests of the records from one on are its own, and then those from the next record on
pub records-more : (dbt : List ℕ) (fields : List Field) (size n i : ℕ) (bytes : List ℕ) → i < n
    → records_memos_tests dbt (i + 1) fields (chunks size (n - i) bytes) ≡ record_memos_tests dbt (i + 1) 1 fields (drop 1 (take size bytes)) ++ records_memos_tests dbt (i + 1 + 1) fields (chunks size (n - (i + 1)) (drop size bytes))
records-more dbt fields size n i bytes lt =
    let k : n - i ≡ suc (n - (i + 1)) = omega arith in
    rw k refl

pub texts-next : (dbt bytes : List ℕ) (fields : List Field) (i : ℕ) (f : Field) (front : List (List ℕ)) → i < length fields → f ≡ get_or fields i f
    → (front ++ cell_texts dbt f (take f.width bytes)) ++ cells_texts dbt (drop (i + 1) fields) (drop f.width bytes) ≡ front ++ cells_texts dbt (drop i fields) bytes
texts-next dbt bytes fields i f front lt is = rw (here fields i f lt is, append_assoc) refl

-- a memo's cell is ten bytes wide
pub memo_fits : (fs : List Field) → IsSchema fs → All (λ f. f.kind ≡ MEMO → f.width ≡ 10) fs
memo_fits fs s = All-from_recursion (λ f. f.kind ≡ MEMO → f.width ≡ 10) fs (memos_wide fs (schema_wide fs s))
