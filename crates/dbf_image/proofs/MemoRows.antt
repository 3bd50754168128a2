-- The texts that the reader keeps are those that the records' cells tell.
use Rattle.std.proofs.Math.Bool.{or-true}
use Rattle.std.proofs.Common.{◌≡◌, ℕ, suc, ◌+◌, ◌*◌, true, false, eqb, List, [], ◌∷◌, ◌++◌, length, map, drop, Option, Some, None, refl, sym, ap, ◌∙◌, arith, inl, inr}
use Rattle.std.specs.Prelude.{flat_map, not, ◌||◌, unwrap_or}
use Rattle.std.specs.List.{AllByRecursion}
use Rattle.std.proofs.lemmas.Bool.{cond-true, or_parts, cases_Bool}
use Rattle.std.proofs.lemmas.List.{drop_at, length-map, length-append}
use Rattle.dbf_fields.specs.declared.field.Field.{Field}
use Rattle.dbf_fields.specs.declared.format.TheConstants.{MEMO}
use Rattle.dbf_fields.specs.Faults.{first_fault}
use Rattle.dbf_fields.specs.Field.{widths}
use Rattle.dbf_image.specs.declared.fault.ImageFault.TheVariants.{MemoFileMissing}
use Rattle.dbf_image.specs.Table.{has_memos}
use Rattle.dbf_image.specs.DbfText.{chunks, AreRecords}
use Rattle.dbf_image.specs.MemoNumbers.{cell_texts, cells_texts, row_texts}
use Rattle.dbf_image.specs.MemoStore.{Texts}
use Rattle.dbf_image.specs.Store.{text_of, texts_of, IsMemo, memo_count, cells_with, rows_with, IsStore}
use Rattle.dbf_image.specs.Reading.{cell_tests, cell_text, cells_read, row_read}
use Rattle.dbf_image.specs.declared.bad_table.TablePart.TheVariants.{Header}
use Rattle.dbf_image.specs.BadTable.{bad_in, record_memos_tests, records_memos_tests, table_memos_tests}
use Rattle.dbf_image.proofs.Rows.{length-chunks}

-- ---- what they tell

cells_view : (dbt : List ℕ) (fields : List Field) (bytes : List ℕ) (more : List (List ℕ)) → cells_with fields bytes (cells_texts dbt fields bytes ++ more) ≡ cells_read dbt fields bytes
unfolding cell_texts cell_text
cells_view dbt [] bytes more = refl
cells_view dbt (f ∷ fs) bytes more = elim (cases_Bool (eqb f.kind MEMO)) [
  | inl e ↦ rw e (rw (cells_view dbt fs (drop f.width bytes) more) refl)
  | inr e ↦ rw e (rw (cells_view dbt fs (drop f.width bytes) more) refl)
]

length-texts : (dbt : List ℕ) (fields : List Field) (bytes : List ℕ) → length (cells_texts dbt fields bytes) ≡ memo_count fields
unfolding cell_texts
length-texts dbt [] bytes = refl
length-texts dbt (f ∷ fs) bytes =
    let there = length-texts dbt fs (drop f.width bytes) in
    elim (cases_Bool (eqb f.kind MEMO)) [ inl e ↦ rw e (ap suc there) | inr e ↦ rw e there ]

pub rows_view : (dbt : List ℕ) (fields : List Field) (ps : List (List ℕ)) → rows_with fields ps (flat_map (row_texts dbt fields) ps) ≡ map (row_read dbt fields) ps
rows_view dbt fields [] = refl
rows_view dbt fields (p ∷ ps) =
    let own : List (List ℕ) = cells_texts dbt fields (drop 1 p) in
    let more : List (List ℕ) = flat_map (row_texts dbt fields) ps in
    rw (cells_view dbt fields (drop 1 p) more, drop_at own more (memo_count fields) (length-texts dbt fields (drop 1 p)), rows_view dbt fields ps) refl

many_texts : (dbt : List ℕ) (fields : List Field) (ps : List (List ℕ)) → length (flat_map (row_texts dbt fields) ps) ≡ length ps * memo_count fields
many_texts dbt fields [] = omega arith
many_texts dbt fields (p ∷ ps) =
    let e : suc (length ps) * memo_count fields ≡ memo_count fields + length ps * memo_count fields = omega arith in
    omega (arith, e, length-append (row_texts dbt fields p) (flat_map (row_texts dbt fields) ps), length-texts dbt fields (drop 1 p), many_texts dbt fields ps)

-- so the texts are a store of the records
pub store_read : (dbt : List ℕ) (fields : List Field) (count : ℕ) (bytes : List ℕ) (texts : Texts) (numbers : List ℕ) → AreRecords fields count bytes
    → AllByRecursion (IsMemo texts) numbers → texts_of texts numbers ≡ flat_map (row_texts dbt fields) (chunks (1 + widths fields) count bytes)
    → IsStore fields count bytes texts numbers
store_read dbt fields count bytes texts numbers records each read =
    let ps : List (List ℕ) = chunks (1 + widths fields) count bytes in
    record {
      records = records;
      many = sym (length-map numbers (text_of texts)) ∙ ap length read ∙ many_texts dbt fields ps ∙ ap (λ (n : ℕ). n * memo_count fields) (length-chunks (1 + widths fields) count bytes);
      each = each;
    }

-- ---- where no field is a memo

plain_tests : (dbt : List ℕ) (number n : ℕ) (fields : List Field) (bytes : List ℕ) → has_memos fields ≡ false → record_memos_tests dbt number n fields bytes ≡ []
unfolding cell_tests
plain_tests dbt number n [] bytes e = refl
plain_tests dbt number n (f ∷ fs) bytes e =
    let p = or_parts (eqb f.kind MEMO) (has_memos fs) e in
    rw (p.0, plain_tests dbt number (n + 1) fs (drop f.width bytes) p.1) refl

plain_cells : (dbt : List ℕ) (fields : List Field) (bytes : List ℕ) (memos : List (List ℕ)) → has_memos fields ≡ false → cells_with fields bytes memos ≡ cells_read dbt fields bytes
unfolding cell_text
plain_cells dbt [] bytes memos e = refl
plain_cells dbt (f ∷ fs) bytes memos e =
    let p = or_parts (eqb f.kind MEMO) (has_memos fs) e in
    rw (p.0, plain_cells dbt fs (drop f.width bytes) memos p.1) refl

plain_count : (fields : List Field) → has_memos fields ≡ false → memo_count fields ≡ 0
plain_count [] e = refl
plain_count (f ∷ fs) e =
    let p = or_parts (eqb f.kind MEMO) (has_memos fs) e in
    rw p.0 (plain_count fs p.1)

pub plain_rows : (dbt : List ℕ) (fields : List Field) (ps memos : List (List ℕ)) → has_memos fields ≡ false → rows_with fields ps memos ≡ map (row_read dbt fields) ps
plain_rows dbt fields [] memos e = refl
plain_rows dbt fields (p ∷ ps) memos e = rw (plain_cells dbt fields (drop 1 p) memos e, plain_rows dbt fields ps (drop (memo_count fields) memos) e) refl

plain_all : (dbt : List ℕ) (number : ℕ) (fields : List Field) (ps : List (List ℕ)) → has_memos fields ≡ false → records_memos_tests dbt number fields ps ≡ []
plain_all dbt number fields [] e = refl
plain_all dbt number fields (p ∷ ps) e = rw (plain_tests dbt number 1 fields (drop 1 p) e) (plain_all dbt (number + 1) fields ps e)

pub plain_passes : (dbt : Option (List ℕ)) (fields : List Field) (ps : List (List ℕ)) → has_memos fields ≡ false → first_fault (table_memos_tests dbt fields ps) ≡ None
unfolding table_memos_tests
plain_passes dbt fields ps e = rw (e, plain_all (unwrap_or dbt []) 1 fields ps e) refl

pub plain_store : (fields : List Field) (count : ℕ) (bytes : List ℕ) (texts : Texts) (numbers : List ℕ) → AreRecords fields count bytes → has_memos fields ≡ false → numbers ≡ [] → IsStore fields count bytes texts numbers
plain_store fields count bytes texts numbers records e nothing =
    let none : count * memo_count fields ≡ 0 = rw (plain_count fields e) (omega arith) in
    record { records = records; many = rw (nothing, none) refl; each = rw nothing tt }

-- ---- where some field is a memo

pub missing : (fields : List Field) (ps : List (List ℕ)) → has_memos fields ≡ true → first_fault (table_memos_tests None fields ps) ≡ Some (bad_in Header MemoFileMissing)
unfolding table_memos_tests
missing fields ps e = rw e refl

pub tests_in : (dbt : List ℕ) (fields : List Field) (ps : List (List ℕ)) → first_fault (table_memos_tests (Some dbt) fields ps) ≡ first_fault (records_memos_tests dbt 1 fields ps)
unfolding table_memos_tests
tests_in dbt fields ps = cond-true (not (has_memos fields) || true) _ _ (or-true (not (has_memos fields)))
