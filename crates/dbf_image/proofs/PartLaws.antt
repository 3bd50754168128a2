-- The tests with their parts are the tests.
use Rattle.std.proofs.Common.{◌≡◌, ℕ, ◌+◌, Bool, List, [], ◌∷◌, ◌++◌, take, drop, Some, None, refl, sym, ap, ◌∙◌, inl, inr}
use Rattle.std.specs.Prelude.{Option, option_map, ◌⊎◌, not, ◌||◌, is_some, unwrap_or}
use Rattle.dbf_fields.specs.declared.field.Field.{Field}
use Rattle.dbf_fields.specs.declared.format.TheConstants.{MEMO}
use Rattle.dbf_fields.specs.Faults.{first_fault, tests_as}
use Rattle.dbf_fields.proofs.FaultLaws.{first_as, as_joined, as_back}
use Rattle.dbf_image.specs.declared.bad_table.BadTable.{BadTable}
use Rattle.dbf_image.specs.declared.bad_table.TablePart.{TablePart}
use Rattle.dbf_image.specs.declared.bad_table.TablePart.TheVariants.{Header}
use Rattle.dbf_image.specs.declared.fault.ImageFault.{ImageFault}
use Rattle.dbf_image.specs.declared.fault.ImageFault.TheVariants.{MemoFileMissing, NoMemory}
use Rattle.dbf_image.specs.Reading.{header_tests, descriptor_tests, record_tests, memos_tests, memo_tests, cell_tests, cells_tests, rows_tests, schema_of, records_of, image_refusal, IsImageRefusal}
use Rattle.dbf_image.specs.Table.{has_memos}
use Rattle.dbf_image.specs.BadTable.{bad_in, why_of, tests_of, part_of_memo, fields_tests, record_memos_tests, records_memos_tests, table_memos_tests, table_refusal, IsBad, IsTableRefusal}

-- ---- tests of one part

pub part_passes : (at : TablePart) (ts : List (Bool × ImageFault)) → first_fault ts ≡ None → first_fault (tests_of at ts) ≡ None
part_passes at ts h = first_as (bad_in at) ts ∙ ap (option_map (bad_in at)) h

pub part_fails : (at : TablePart) (ts : List (Bool × ImageFault)) (why : ImageFault) → first_fault ts ≡ Some why → first_fault (tests_of at ts) ≡ Some (bad_in at why)
part_fails at ts why h = first_as (bad_in at) ts ∙ ap (option_map (bad_in at)) h

part_refuses : (at : TablePart) (ts : List (Bool × ImageFault)) (why : ImageFault) → (why ≡ NoMemory) ⊎ (first_fault ts ≡ Some why) → IsBad (bad_in at why) (tests_of at ts)
part_refuses at ts why (inl h) = inl h
part_refuses at ts why (inr h) = inr (part_fails at ts why h)

pub memo_refuses : (dbt : List ℕ) (number n : ℕ) (f : Field) (cell : List ℕ) (why : ImageFault) (at : TablePart) → f.kind ≡ MEMO → at ≡ part_of_memo number n cell
    → (why ≡ NoMemory) ⊎ (first_fault (memo_tests dbt cell) ≡ Some why) → IsBad (bad_in at why) (tests_of (part_of_memo number n cell) (cell_tests dbt f cell))
unfolding cell_tests
memo_refuses dbt number n f cell why at kind is h = rw (is, kind) (part_refuses (part_of_memo number n cell) (memo_tests dbt cell) why h)

-- ---- without their parts

without : (at : TablePart) (ts : List (Bool × ImageFault)) → tests_as why_of (tests_of at ts) ≡ ts
without at = as_back (bad_in at) why_of (λ e. refl)

fields_without : (bytes : List ℕ) → tests_as why_of (fields_tests bytes) ≡ descriptor_tests bytes
unfolding fields_tests descriptor_tests
fields_without bytes = refl

record_without : (dbt : List ℕ) (number n : ℕ) (fields : List Field) (bytes : List ℕ) → tests_as why_of (record_memos_tests dbt number n fields bytes) ≡ cells_tests dbt fields bytes
record_without dbt number n [] bytes = refl
record_without dbt number n (f ∷ fs) bytes =
    as_joined why_of (tests_of (part_of_memo number n (take f.width bytes)) (cell_tests dbt f (take f.width bytes))) (record_memos_tests dbt number (n + 1) fs (drop f.width bytes)) _ _
    (without (part_of_memo number n (take f.width bytes)) (cell_tests dbt f (take f.width bytes))) (record_without dbt number (n + 1) fs (drop f.width bytes))

records_without : (dbt : List ℕ) (number : ℕ) (fields : List Field) (records : List (List ℕ)) → tests_as why_of (records_memos_tests dbt number fields records) ≡ rows_tests dbt fields records
records_without dbt number fields [] = refl
records_without dbt number fields (bytes ∷ more) =
    as_joined why_of (record_memos_tests dbt number 1 fields (drop 1 bytes)) (records_memos_tests dbt (number + 1) fields more) _ _
    (record_without dbt number 1 fields (drop 1 bytes)) (records_without dbt (number + 1) fields more)

memos_without : (bytes : List ℕ) (dbt : Option (List ℕ)) → tests_as why_of (table_memos_tests dbt (schema_of bytes) (records_of bytes)) ≡ memos_tests bytes dbt
unfolding table_memos_tests memos_tests
memos_without bytes dbt =
    ap (λ (ts : List (Bool × ImageFault)). (not (has_memos (schema_of bytes)) || is_some dbt, MemoFileMissing) ∷ ts) (records_without (unwrap_or dbt []) 1 (schema_of bytes) (records_of bytes))

-- the refusal is the one with its part, without that
pub refusal_is : (bytes : List ℕ) (dbt : Option (List ℕ)) → option_map why_of (table_refusal bytes dbt) ≡ image_refusal bytes dbt
refusal_is bytes dbt =
    let header = tests_of Header (header_tests bytes) in
    let fields = fields_tests bytes in
    let records = tests_of Header (record_tests bytes) in
    let memos = table_memos_tests dbt (schema_of bytes) (records_of bytes) in
    let last = as_joined why_of records memos _ _ (without Header (record_tests bytes)) (memos_without bytes dbt) in
    let later = as_joined why_of fields (records ++ memos) _ _ (fields_without bytes) last in
    sym (first_as why_of (header ++ (fields ++ (records ++ memos)))) ∙ ap first_fault (as_joined why_of header (fields ++ (records ++ memos)) _ _ (without Header (header_tests bytes)) later)

pub refused_without : (bytes : List ℕ) (dbt : Option (List ℕ)) (bad : BadTable) → IsTableRefusal bad bytes dbt → IsImageRefusal bad.why bytes dbt
refused_without bytes dbt bad (inl h) = inl h
refused_without bytes dbt bad (inr h) = inr (sym (refusal_is bytes dbt) ∙ ap (option_map why_of) h)

pub passes_without : (bytes : List ℕ) (dbt : Option (List ℕ)) → table_refusal bytes dbt ≡ None → image_refusal bytes dbt ≡ None
passes_without bytes dbt h = sym (refusal_is bytes dbt) ∙ ap (option_map why_of) h
