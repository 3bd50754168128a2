-- The reader's tests and the layout say the same of the bytes.
use Rattle.dbf_image.specs.declared.dbf.header.Header.{Header}
use Rattle.std.proofs.lemmas.Option.{same_Some}
use Rattle.std.proofs.Math.Nat.{eq-or-lt_of_le}
use Rattle.std.proofs.Common.{◌≡◌, ℕ, zero, suc, ◌+◌, ◌-◌, ◌*◌, ◌/◌, ◌<◌, ◌≤◌, Bool, true, false, eqb, leb, List, [], ◌++◌, length, map, take, drop, Option, Some, None, refl, sym, ap, ◌∙◌, inl, inr, arith}
use Rattle.std.specs.Prelude.{slice_index, is_some, is_none, unwrap_or, not, ◌||◌, ◌⊎◌}
use Rattle.std.proofs.lemmas.Bool.{eqb-true, eqb-false, eq-eqb, ne_eqb, leb-true, le-leb, or_cases, or_left, or_right, cond-true, cond-false, cases_Bool, cases_eq}
use Rattle.dbf_fields.specs.Faults.{first_fault}
use Rattle.dbf_fields.specs.Field.{folded, widths}
use Rattle.dbf_fields.specs.Schema as schemas
use Rattle.dbf_fields.proofs.SchemaLaws.{passed, passes}
use Rattle.dbf_fields.specs.declared.field.Field.{Field}
use Rattle.dbf_image.specs.Table.{Row, Table, has_memos}
use Rattle.dbf_image.specs.DbfText.{chunks, header_length, record_length, header_record_count, field_of, EncodesRows, IsDbf}
use Rattle.dbf_image.specs.Reading.{first_passing, field_count, fields_of, schema_of, has_version, header_tests, descriptor_tests, record_tests, memos_tests, records_of, row_read, image_refusal, table_read, dbf_header}
use Rattle.dbf_image.specs.BadTable.{table_memos_tests}
use Rattle.dbf_image.proofs.Rows.{chunks_take}
use Rattle.dbf_fields.proofs.FaultLaws.{first_parts}
use Rattle.dbf_image.proofs.MemoTests.{rows_ok, ok_rows, some_is}
use Rattle.dbf_image.specs.declared.format.TheConstants.{DESCRIPTOR, HEADER, HEADER_END, MAX_RECORDS, VERSION, VERSION_WITH_MEMOS}

-- ---- the first number that passes a test

pub record IsFirst (test : ℕ → Bool) (from end k : ℕ) : Type 0 where
  pub not_below : from ≤ k
  pub below : k < end
  pub here : test k ≡ true
  pub before : (j : ℕ) → from ≤ j → j < k → test j ≡ false

pub first_passing-some : (test : ℕ → Bool) (i n k : ℕ) → first_passing test i n ≡ Some k → IsFirst test i (i + n) k
first_passing-some test i zero k e = absurd cc
first_passing-some test i (suc n) k e = elim (cases_Bool (test i)) [
  | inl here ↦
      let same : i ≡ k = same_Some i k (rw here at e) in
      record { not_below = omega arith; below = omega arith; here = rw (← same) here; before = λ j low high. absurd (omega arith) }
  | inr here ↦
      let r = first_passing-some test (i + 1) n k (rw here at e) in
      record {
        not_below = omega (arith, r.not_below);
        below = omega (arith, r.below);
        here = r.here;
        before = λ j low high. elim (cases_eq i j) [ inl same ↦ rw (← same) here | inr other ↦ r.before j (omega arith) high ];
      }
]

pub first_passing-is : (test : ℕ → Bool) (i n k : ℕ) → i ≤ k → k < i + n → test k ≡ true → ((j : ℕ) → i ≤ j → j < k → test j ≡ false) → first_passing test i n ≡ Some k
first_passing-is test i zero k low high here before = absurd (omega arith)
first_passing-is test i (suc n) k low high here before =
    elim (eq-or-lt_of_le low) [
      | inl e ↦ rw (cond-true (test i) (Some i) (first_passing test (i + 1) n) (rw e here)) (ap (λ (x : ℕ). Some x) e)
      | inr lt ↦ rw (cond-false (test i) (Some i) (first_passing test (i + 1) n) (before i (omega arith) lt)) (first_passing-is test (i + 1) n k (omega arith) (omega arith) here (λ j l h. before j (omega arith) h))
    ]

-- ---- what passing the tests says

pub record Passes (bytes : List ℕ) (dbt : Option (List ℕ)) : Type 0 where
  pub long : HEADER ≤ length bytes
  pub version : has_version bytes ≡ true
  pub inside : header_length bytes ≤ length bytes
  pub ended : is_some (field_count bytes) ≡ true
  pub accepted : is_none (schemas.schema_refusal (fields_of bytes)) ≡ true
  pub wide : record_length bytes ≡ 1 + widths (schema_of bytes)
  pub count_bounded : header_record_count bytes ≤ MAX_RECORDS
  pub whole : header_length bytes + header_record_count bytes * record_length bytes ≤ length bytes
  pub memos : first_fault (memos_tests bytes dbt) ≡ None

pub passes_all : (bytes : List ℕ) (dbt : Option (List ℕ)) → image_refusal bytes dbt ≡ None → Passes bytes dbt
unfolding header_tests descriptor_tests record_tests
passes_all bytes dbt h =
    let p = first_parts (header_tests bytes) (descriptor_tests bytes ++ (record_tests bytes ++ memos_tests bytes dbt)) h in
    let q = first_parts (descriptor_tests bytes) (record_tests bytes ++ memos_tests bytes dbt) p.1 in
    let r = first_parts (record_tests bytes) (memos_tests bytes dbt) q.1 in
    let a = passed (leb HEADER (length bytes)) _ _ p.0 in
    let b = passed (has_version bytes) _ _ a.1 in
    let c = passed (leb (header_length bytes) (length bytes)) _ _ b.1 in
    let d = passed (is_some (field_count bytes)) _ _ q.0 in
    let e = passed (is_none (schemas.schema_refusal (fields_of bytes))) _ _ d.1 in
    let f = passed (eqb (record_length bytes) (1 + widths (schema_of bytes))) _ _ r.0 in
    let g = passed (leb (header_record_count bytes) MAX_RECORDS) _ _ f.1 in
    let i = passed (leb (header_length bytes + header_record_count bytes * record_length bytes) (length bytes)) _ _ g.1 in
    record {
      long = leb-true _ _ a.0;
      version = b.0;
      inside = leb-true _ _ c.0;
      ended = d.0;
      accepted = e.0;
      wide = eqb-true _ _ f.0;
      count_bounded = leb-true _ _ g.0;
      whole = leb-true _ _ i.0;
      memos = r.1;
    }

pub from_passes : (bytes : List ℕ) (dbt : Option (List ℕ)) → Passes bytes dbt → image_refusal bytes dbt ≡ None
unfolding header_tests descriptor_tests record_tests
from_passes bytes dbt p =
    let a = le-leb _ _ p.long in
    let c = le-leb _ _ p.inside in
    let f = eq-eqb _ _ p.wide in
    let g = le-leb _ _ p.count_bounded in
    let i = le-leb _ _ p.whole in
    passes _ _ _ a (passes _ _ _ p.version (passes _ _ _ c (passes _ _ _ p.ended (passes _ _ _ p.accepted (passes _ _ _ f (passes _ _ _ g (passes _ _ _ i p.memos)))))))

-- ---- the layout

none_is : {X : Type 0} (o : Option X) → is_none o ≡ true → o ≡ None
none_is (Some k) h = absurd cc
none_is None h = refl

version_is : (bytes : List ℕ) → has_version bytes ≡ true → (slice_index bytes 0 ≡ VERSION) ⊎ (slice_index bytes 0 ≡ VERSION_WITH_MEMOS)
version_is bytes h =
    elim (or_cases (eqb (slice_index bytes 0) VERSION) (eqb (slice_index bytes 0) VERSION_WITH_MEMOS) h) [ inl a ↦ inl (eqb-true _ _ a) | inr b ↦ inr (eqb-true _ _ b) ]

is_version : (bytes : List ℕ) → (slice_index bytes 0 ≡ VERSION) ⊎ (slice_index bytes 0 ≡ VERSION_WITH_MEMOS) → has_version bytes ≡ true
is_version bytes (inl a) = or_left (eqb (slice_index bytes 0) VERSION) (eqb (slice_index bytes 0) VERSION_WITH_MEMOS) (eq-eqb _ _ a)
is_version bytes (inr b) = or_right (eqb (slice_index bytes 0) VERSION) (eqb (slice_index bytes 0) VERSION_WITH_MEMOS) (eq-eqb _ _ b)

abbrev ends_fields : List ℕ → ℕ → Bool
ends_fields bytes i = eqb (slice_index bytes (HEADER + DESCRIPTOR * i)) HEADER_END

abbrev most_fields : List ℕ → ℕ
most_fields bytes = (header_length bytes - 1) / DESCRIPTOR

-- ---- memos

then_true : (a b : Bool) → (not a || b) ≡ true → a ≡ true → b ≡ true
then_true true b h e = h
then_true false b h e = absurd cc

true_then : (a b : Bool) → (a ≡ true → b ≡ true) → (not a || b) ≡ true
true_then true b h = h refl
true_then false b h = refl

memos_pass : (bytes : List ℕ) (dbt : Option (List ℕ)) → first_fault (memos_tests bytes dbt) ≡ None
    → (has_memos (schema_of bytes) ≡ true → is_some dbt ≡ true) × EncodesRows (unwrap_or dbt []) (schema_of bytes) (records_of bytes) (map (row_read (unwrap_or dbt []) (schema_of bytes)) (records_of bytes))
unfolding memos_tests
memos_pass bytes dbt h =
    let p = passed (not (has_memos (schema_of bytes)) || is_some dbt) _ _ h in
    (then_true (has_memos (schema_of bytes)) (is_some dbt) p.0, rows_ok (unwrap_or dbt []) (schema_of bytes) (records_of bytes) p.1)

pass_memos : (bytes : List ℕ) (dbt : Option (List ℕ)) (rows : List Row) → (has_memos (schema_of bytes) ≡ true → is_some dbt ≡ true) → EncodesRows (unwrap_or dbt []) (schema_of bytes) (records_of bytes) rows
    → (first_fault (memos_tests bytes dbt) ≡ None) × (map (row_read (unwrap_or dbt []) (schema_of bytes)) (records_of bytes) ≡ rows)
unfolding memos_tests
pass_memos bytes dbt rows some given =
    let r = ok_rows (unwrap_or dbt []) (schema_of bytes) (records_of bytes) rows given in
    (passes (not (has_memos (schema_of bytes)) || is_some dbt) _ _ (true_then (has_memos (schema_of bytes)) (is_some dbt) some) r.0, r.1)

records_read : (bytes : List ℕ) (schema : List Field) (header : Header) (records : List ℕ) → header ≡ dbf_header bytes → header.record_length ≡ 1 + widths schema
    → records ≡ take (header.record_count * header.record_length) (drop header.header_length bytes) → chunks (1 + widths schema) header.record_count records ≡ records_of bytes
records_read bytes schema header records h w r =
    let same : chunks (1 + widths schema) header.record_count records ≡ chunks header.record_length header.record_count (drop header.header_length bytes) =
    rw (r, ← w) (chunks_take header.record_length header.record_count (drop header.header_length bytes)) in
    same ∙ ap (λ (g : Header). chunks g.record_length g.record_count (drop g.header_length bytes)) h

-- the tests of the records that the reader found, and its rows
pub tests_read : (bytes : List ℕ) (dbt : Option (List ℕ)) (schema : List Field) (header : Header) (records : List ℕ) → header ≡ dbf_header bytes → schema ≡ schema_of bytes → header.record_length ≡ 1 + widths schema
    → records ≡ take (header.record_count * header.record_length) (drop header.header_length bytes)
    → table_memos_tests dbt schema (chunks (1 + widths schema) header.record_count records) ≡ table_memos_tests dbt (schema_of bytes) (records_of bytes)
tests_read bytes dbt schema header records h s w r = rw (records_read bytes schema header records h w r) (rw s refl)

pub rows_read : (bytes : List ℕ) (dbt : Option (List ℕ)) (schema : List Field) (header : Header) (records : List ℕ) (rows : List Row) → header ≡ dbf_header bytes → schema ≡ schema_of bytes → header.record_length ≡ 1 + widths schema
    → records ≡ take (header.record_count * header.record_length) (drop header.header_length bytes)
    → rows ≡ map (row_read (unwrap_or dbt []) schema) (chunks (1 + widths schema) header.record_count records) → record { schema = schema; rows = rows } ≡ table_read bytes dbt
rows_read bytes dbt schema header records rows h s w r given = rw (given, records_read bytes schema header records h w r) (rw s refl)

pub is_dbf : (bytes : List ℕ) (dbt : Option (List ℕ)) → image_refusal bytes dbt ≡ None → IsDbf bytes dbt (table_read bytes dbt)
is_dbf bytes dbt h =
    let p = passes_all bytes dbt h in
    let m = memos_pass bytes dbt p.memos in
    let k : ℕ = unwrap_or (field_count bytes) 0 in
    let first = first_passing-some (ends_fields bytes) 0 (most_fields bytes) k (some_is (field_count bytes) p.ended) in
    record {
      long = p.long;
      version = version_is bytes p.version;
      field_count = k;
      last_field = eqb-true _ _ first.here;
      not_before = λ i lt. eqb-false _ _ (first.before i (omega arith) lt);
      in_header = omega (arith, first.below);
      accepted = none_is _ p.accepted;
      schema = refl;
      wide = p.wide;
      count_bounded = p.count_bounded;
      whole = p.whole;
      memos = m.0;
      rows = m.1;
    }

same_table : (bytes : List ℕ) (dbt : Option (List ℕ)) (table : Table) → schema_of bytes ≡ table.schema → map (row_read (unwrap_or dbt []) (schema_of bytes)) (records_of bytes) ≡ table.rows → table_read bytes dbt ≡ table
same_table bytes dbt table schema rows =
    ap (λ (rs : List Row). record { schema = schema_of bytes; rows = rs }) rows ∙ ap (λ (fs : List Field). record { schema = fs; rows = table.rows }) schema

pub dbf_is : (bytes : List ℕ) (dbt : Option (List ℕ)) (table : Table) → IsDbf bytes dbt table → (image_refusal bytes dbt ≡ None) × (table_read bytes dbt ≡ table)
dbf_is bytes dbt table d =
    let counted : field_count bytes ≡ Some d.field_count = first_passing-is (ends_fields bytes) 0 (most_fields bytes) d.field_count (omega arith) (omega (arith, d.in_header)) (eq-eqb _ _ d.last_field) (λ j low lt. ne_eqb _ _ (d.not_before j lt)) in
    let fields : fields_of bytes ≡ map field_of (chunks DESCRIPTOR d.field_count (drop HEADER bytes)) = rw counted refl in
    let schema : schema_of bytes ≡ table.schema = ap (map folded) fields ∙ sym d.schema in
    let none : is_none (schemas.schema_refusal (fields_of bytes)) ≡ true = rw (fields, d.accepted) refl in
    let given : EncodesRows (unwrap_or dbt []) (schema_of bytes) (records_of bytes) table.rows = rw schema d.rows in
    let some : has_memos (schema_of bytes) ≡ true → is_some dbt ≡ true = λ e. d.memos (ap has_memos (sym schema) ∙ e) in
    let m = pass_memos bytes dbt table.rows some given in
    let same : table_read bytes dbt ≡ table = same_table bytes dbt table schema m.1 in (
      from_passes bytes dbt (record {
        long = d.long;
        version = is_version bytes d.version;
        inside = omega (arith, d.whole);
        ended = rw counted refl;
        accepted = none;
        wide = rw schema d.wide;
        count_bounded = d.count_bounded;
        whole = d.whole;
        memos = m.0;
      }),
      same,
    )

-- two files are those of one table at most
pub one_table : (bytes : List ℕ) (dbt : Option (List ℕ)) (a b : Table) → IsDbf bytes dbt a → IsDbf bytes dbt b → a ≡ b
one_table bytes dbt a b p q = sym (dbf_is bytes dbt a p).1 ∙ (dbf_is bytes dbt b q).1
