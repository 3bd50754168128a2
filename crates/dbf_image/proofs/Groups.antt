-- What the groups of tests say, one after the other.
use Rattle.std.proofs.lemmas.Option.{same_Some}
use Rattle.std.proofs.Common.{◌≡◌, ℕ, ◌-◌, Bool, true, cond, List, [], ◌∷◌, ◌++◌, length, map, take, drop, Option, Some, None, refl, sym, ap, ◌∙◌, inl, inr, Result, Ok, Err}
use Rattle.std.specs.Prelude.{is_none, is_some, ◌⊎◌, IfErr, IsErrAnd, IfOk, MatchResult}
use Rattle.std.proofs.lemmas.List.{take_rest}
use Rattle.dbf_fields.specs.Faults.{first_fault}
use Rattle.dbf_fields.proofs.FaultLaws.{first_then, first_before}
use Rattle.dbf_fields.specs.Schema as schemas
use Rattle.dbf_image.specs.declared.fault.ImageFault.{ImageFault}
use Rattle.dbf_image.specs.declared.fault.ImageFault.TheVariants.{BadHeaderLength, NoMemory}
use Rattle.dbf_image.specs.DbfText.{chunks, field_of}
use Rattle.dbf_image.specs.declared.bad_table.BadTable.{BadTable}
use Rattle.dbf_image.specs.declared.bad_table.TablePart.TheVariants.{Header}
use Rattle.dbf_image.specs.BadTable.{bad_in, tests_of, fields_tests, table_memos_tests, table_refusal, IsBad, IsFieldsRefusal, IsTableRefusal}
use Rattle.dbf_image.specs.Reading.{field_count, fields_of, schema_of, records_of, header_tests, record_tests, early_refusal, image_refusal}
use Rattle.dbf_image.proofs.PartLaws.{part_passes, part_fails, refused_without}
use Rattle.dbf_image.specs.declared.format.TheConstants.{DESCRIPTOR, HEADER}

pub fields_are : (bytes : List ℕ) (count : ℕ) → Some count ≡ field_count bytes → map field_of (chunks DESCRIPTOR count (take (length bytes - HEADER) (drop HEADER bytes))) ≡ fields_of bytes
fields_are bytes count e = rw (take_rest bytes HEADER, ← e) refl

pub fields_pass : (bytes : List ℕ) (count : ℕ) → Some count ≡ field_count bytes → is_none (schemas.schema_refusal (fields_of bytes)) ≡ true → first_fault (fields_tests bytes) ≡ None
unfolding fields_tests
fields_pass bytes count e h = rw (h, ← e) refl

pub fields_fail : (bytes : List ℕ) (count : ℕ) (bad : BadTable) → Some count ≡ field_count bytes → IsFieldsRefusal bad (fields_of bytes) → IsBad bad (fields_tests bytes)
unfolding fields_tests
fields_fail bytes count bad e (inl h) = inl h
fields_fail bytes count bad e (inr h) = inr (rw (h.1, h.0, ← e) refl)

-- ---- what is tested before memory is taken

pub none_some : {F : Type 0} (o : Option F) (x : F) (P : Type 0) → o ≡ None → o ≡ Some x → P
none_some o x P none some = absurd cc

early_count : (o : Option ℕ) (bad : BadTable) (first : ImageFault) → (o ≡ None → bad ≡ bad_in Header BadHeaderLength) → cond (is_some o) None (Some BadHeaderLength) ≡ Some first → bad ≡ bad_in Header first
early_count None bad first answers is = answers refl ∙ ap (bad_in Header) (same_Some _ _ is)
early_count (Some n) bad first answers is = absurd cc

pub early_by_header : (bytes : List ℕ) (fault first : ImageFault) → first_fault (header_tests bytes) ≡ Some fault → early_refusal bytes ≡ Some first → bad_in Header fault ≡ bad_in Header first
unfolding early_refusal
early_by_header bytes fault first h is = ap (bad_in Header) (same_Some _ _ (sym (first_before (header_tests bytes) _ fault h) ∙ is))

pub early_by_fields : (bytes : List ℕ) (bad : BadTable) (first : ImageFault) → first_fault (header_tests bytes) ≡ None → (field_count bytes ≡ None → bad ≡ bad_in Header BadHeaderLength) → early_refusal bytes ≡ Some first → bad ≡ bad_in Header first
unfolding early_refusal
early_by_fields bytes bad first h answers is = early_count (field_count bytes) bad first answers (sym (first_then (header_tests bytes) ((is_some (field_count bytes), BadHeaderLength) ∷ []) h) ∙ is)

count_passed : (o : Option ℕ) (rest : Option BadTable) → cond (is_some o) rest (Some (bad_in Header BadHeaderLength)) ≡ None → cond (is_some o) None (Some BadHeaderLength) ≡ None
count_passed None rest h = absurd cc
count_passed (Some n) rest h = refl

-- a fault after those tests
pub early_passed : (bytes : List ℕ) (bad : BadTable) (first : ImageFault) → first_fault (header_tests bytes) ≡ None → first_fault (fields_tests bytes) ≡ None → early_refusal bytes ≡ Some first → bad ≡ bad_in Header first
unfolding early_refusal fields_tests
early_passed bytes bad first h k is =
    none_some _ first (bad ≡ bad_in Header first) (first_then (header_tests bytes) ((is_some (field_count bytes), BadHeaderLength) ∷ []) h ∙ count_passed (field_count bytes) _ k) is

-- ---- the whole refusal by its groups

abbrev header_group : List ℕ → List (Bool × BadTable)
header_group bytes = tests_of Header (header_tests bytes)

abbrev record_group : List ℕ → List (Bool × BadTable)
record_group bytes = tests_of Header (record_tests bytes)

abbrev memo_group : List ℕ → Option (List ℕ) → List (Bool × BadTable)
memo_group bytes dbt = table_memos_tests dbt (schema_of bytes) (records_of bytes)

abbrev after_fields : List ℕ → Option (List ℕ) → List (Bool × BadTable)
after_fields bytes dbt = record_group bytes ++ memo_group bytes dbt

pub refused_by_header : (bytes : List ℕ) (dbt : Option (List ℕ)) (fault : ImageFault) → first_fault (header_tests bytes) ≡ Some fault → IsTableRefusal (bad_in Header fault) bytes dbt
refused_by_header bytes dbt fault h = inr (first_before (header_group bytes) (fields_tests bytes ++ after_fields bytes dbt) (bad_in Header fault) (part_fails Header (header_tests bytes) fault h))

decided_by_fields : (bytes : List ℕ) (dbt : Option (List ℕ)) → first_fault (header_tests bytes) ≡ None → table_refusal bytes dbt ≡ first_fault (fields_tests bytes ++ after_fields bytes dbt)
decided_by_fields bytes dbt a = first_then (header_group bytes) (fields_tests bytes ++ after_fields bytes dbt) (part_passes Header (header_tests bytes) a)

pub refused_by_fields : (bytes : List ℕ) (dbt : Option (List ℕ)) (bad : BadTable) → first_fault (header_tests bytes) ≡ None → IsBad bad (fields_tests bytes) → IsTableRefusal bad bytes dbt
refused_by_fields bytes dbt bad a (inl h) = inl h
refused_by_fields bytes dbt bad a (inr h) = inr (decided_by_fields bytes dbt a ∙ first_before (fields_tests bytes) (after_fields bytes dbt) bad h)

decided_by_records : (bytes : List ℕ) (dbt : Option (List ℕ)) → first_fault (header_tests bytes) ≡ None → first_fault (fields_tests bytes) ≡ None → table_refusal bytes dbt ≡ first_fault (after_fields bytes dbt)
decided_by_records bytes dbt a b = decided_by_fields bytes dbt a ∙ first_then (fields_tests bytes) (after_fields bytes dbt) b

pub refused_by_records : (bytes : List ℕ) (dbt : Option (List ℕ)) (fault : ImageFault) → first_fault (header_tests bytes) ≡ None → first_fault (fields_tests bytes) ≡ None
    → first_fault (record_tests bytes) ≡ Some fault → IsTableRefusal (bad_in Header fault) bytes dbt
refused_by_records bytes dbt fault a b h = inr (decided_by_records bytes dbt a b ∙ first_before (record_group bytes) (memo_group bytes dbt) (bad_in Header fault) (part_fails Header (record_tests bytes) fault h))

pub decided_by_memos : (bytes : List ℕ) (dbt : Option (List ℕ)) → first_fault (header_tests bytes) ≡ None → first_fault (fields_tests bytes) ≡ None → first_fault (record_tests bytes) ≡ None
    → table_refusal bytes dbt ≡ first_fault (table_memos_tests dbt (schema_of bytes) (records_of bytes))
decided_by_memos bytes dbt a b c = decided_by_records bytes dbt a b ∙ first_then (record_group bytes) (memo_group bytes dbt) (part_passes Header (record_tests bytes) c)

pub refused_by_memos : (bytes : List ℕ) (dbt : Option (List ℕ)) (bad : BadTable) → first_fault (header_tests bytes) ≡ None → first_fault (fields_tests bytes) ≡ None
    → first_fault (record_tests bytes) ≡ None → IsBad bad (table_memos_tests dbt (schema_of bytes) (records_of bytes)) → IsTableRefusal bad bytes dbt
refused_by_memos bytes dbt bad a b c (inl h) = inl h
refused_by_memos bytes dbt bad a b c (inr h) = inr (decided_by_memos bytes dbt a b c ∙ h)

-- what the exit of a `?` answers
pub err_exit : {T E : Type 0} {fault : E} (r : Result T E) (P : E → Type 0) → IsErrAnd r (λ y. y ≡ fault) → P fault → IfErr r P
err_exit (Ok x) P e given = tt
err_exit (Err y) P e given = rw e given

-- what is read, where no test fails,
pub found_by : {T E : Type 0} (r : Result T E) (value : T) (none : Type 0) (P : T → Type 0) → IfOk r (λ _. none) → IfOk r (λ t. t ≡ value) → (none → P value) → IfOk r P
found_by (Ok t) value none P h e given = rw e (given h)
found_by (Err f) value none P h e given = tt

-- and that it is read, unless memory is refused
pub only_by : {T : Type 0} (r : Result T ImageFault) (value x : T) (o : Option ImageFault) → IfOk r (λ t. t ≡ value) → IfErr r (λ f. (f ≡ NoMemory) ⊎ (o ≡ Some f)) → o ≡ None → value ≡ x
    → MatchResult r (λ t. t ≡ x) (λ f. f ≡ NoMemory)
only_by (Ok t) value x o e h none is = e ∙ is
only_by (Err f) value x o e (inl h) none is = h
only_by (Err f) value x o e (inr h) none is = none_some _ f _ none h

-- the same of a fault with its part
pub only_read : {T : Type 0} (r : Result T BadTable) (value x : T) (bytes : List ℕ) (dbt : Option (List ℕ)) → IfOk r (λ t. t ≡ value) → IfErr r (λ bad. IsTableRefusal bad bytes dbt) → image_refusal bytes dbt ≡ None → value ≡ x
    → MatchResult r (λ t. t ≡ x) (λ bad. bad.why ≡ NoMemory)
only_read (Ok t) value x bytes dbt e h none is = e ∙ is
only_read (Err bad) value x bytes dbt e h none is = elim (refused_without bytes dbt bad h) [ inl h ↦ h | inr h ↦ none_some _ bad.why _ none h ]
