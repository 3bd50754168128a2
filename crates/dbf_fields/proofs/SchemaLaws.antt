-- A schema's fields are accepted again, and stay as they are.
use Rattle.std.proofs.Common.{◌≡◌, ℕ, zero, suc, ◌+◌, ◌<◌, ◌≤◌, Bool, true, false, cond, leb, eqb, not, List, [], ◌∷◌, ◌++◌, length, map, take, drop, get_or, Option, Some, None, refl, sym, ◌∙◌, arith}
use Rattle.std.specs.List.{list_all, AllByRecursion}
use Rattle.std.specs.Char.{is_ascii_alphabetic, to_ascii_uppercase}
use Rattle.std.proofs.lemmas.Bool.{and_parts, leb-true}
use Rattle.std.proofs.lemmas.Bool.Decides.{nat_tests}
use Rattle.std.proofs.lemmas.List.{length-map, map-append, append-nil, append_assoc, take_more, drop_more}
use Rattle.std.specs.Int.{is_in_range}
use Rattle.dbf_fields.specs.declared.field.Field.{Field}
use Rattle.dbf_fields.specs.Name.{is_name_char, is_name}
use Rattle.dbf_fields.specs.Faults.{first_fault}
use Rattle.dbf_fields.specs.Field.{is_kind, has_width, has_name, folded, widths}
use Rattle.dbf_fields.specs.Schema.{field_tests, tests_from, schema_refusal, IsSchema}
use Rattle.dbf_fields.specs.declared.schema.SchemaFault.{SchemaFault}
use Rattle.dbf_fields.proofs.FaultLaws.{first_then, first_before}
use Rattle.dbf_fields.specs.declared.format.TheConstants.{MAX_FIELDS, MAX_RECORD_BYTES, MAX_CHARACTER_WIDTH}
use Rattle.dbf_fields.specs.Layout.{width_of}

-- a test that let the next ones decide
pub passed : {F : Type 0} (b : Bool) (x : Option F) (f : F) → cond b x (Some f) ≡ None → (b ≡ true) × (x ≡ None)
passed true x f e = (refl, e)
passed false x f e = absurd cc

pub passes : {F : Type 0} (b : Bool) (x : Option F) (f : F) → b ≡ true → x ≡ None → cond b x (Some f) ≡ None
passes true x f h e = e
passes false x f h e = absurd cc

-- a capital letter stays
upper_again : (c : ℕ) → to_ascii_uppercase (to_ascii_uppercase c) ≡ to_ascii_uppercase c
upper_again c = grind (arith, nat_tests)

letter_upper : (c : ℕ) → is_ascii_alphabetic (to_ascii_uppercase c) ≡ is_ascii_alphabetic c
letter_upper c = grind (arith, nat_tests)

name_char_upper : (c : ℕ) → is_name_char (to_ascii_uppercase c) ≡ is_name_char c
name_char_upper c = grind (arith, nat_tests)

upper_all_again : (cs : List ℕ) → map to_ascii_uppercase (map to_ascii_uppercase cs) ≡ map to_ascii_uppercase cs
upper_all_again [] = refl
upper_all_again (c ∷ cs) = rw (upper_again c, upper_all_again cs) refl

name_chars_upper : (cs : List ℕ) → list_all is_name_char (map to_ascii_uppercase cs) ≡ list_all is_name_char cs
name_chars_upper [] = refl
name_chars_upper (c ∷ cs) = rw (name_char_upper c, name_chars_upper cs) refl

pub name_upper : (cs : List ℕ) → is_name (map to_ascii_uppercase cs) ≡ is_name cs
name_upper [] = refl
name_upper (c ∷ cs) = rw (length-map, letter_upper c, name_char_upper c, name_chars_upper cs) refl

folded_again : (f : Field) → folded (folded f) ≡ folded f
folded_again f =
    let decimals : cond (eqb f.kind 78) (cond (eqb f.kind 78) f.decimals 0) 0 ≡ cond (eqb f.kind 78) f.decimals 0 = grind arith in
    rw (upper_all_again f.name, decimals) refl

pub fold_again : (fs : List Field) → map folded (map folded fs) ≡ map folded fs
fold_again [] = refl
fold_again (f ∷ fs) = rw (folded_again f, fold_again fs) refl

-- the width of a number reads its decimals, and those stay
width_folded : (f : Field) → has_width (folded f) ≡ has_width f
width_folded f = grind (arith, nat_tests)

tests_again : (earlier fs : List Field) → first_fault (tests_from earlier (map folded fs)) ≡ first_fault (tests_from earlier fs)
tests_again earlier [] = refl
tests_again earlier (f ∷ fs) =
    let rest : first_fault (tests_from (earlier ++ folded (folded f) ∷ []) (map folded fs)) ≡ first_fault (tests_from (earlier ++ folded f ∷ []) fs) =
    rw (folded_again f) (tests_again (earlier ++ folded f ∷ []) fs) in
    rw (rest, name_upper f.name, upper_all_again f.name, width_folded f) refl

-- fields that are accepted make a schema
pub schema_from_accepted : (fs : List Field) → schema_refusal fs ≡ None → IsSchema (map folded fs)
schema_from_accepted fs h = record { accepted = rw (length-map, tests_again [] fs) h; kept = fold_again fs }

-- a field that is accepted, and those after it
accepted_parts : (earlier fs : List Field) (f : Field) → first_fault (tests_from earlier (f ∷ fs)) ≡ None
    → (is_name f.name ≡ true) × (has_width f ≡ true) × (first_fault (tests_from (earlier ++ folded f ∷ []) fs) ≡ None)
accepted_parts earlier fs f h =
    let a = passed (is_name f.name) _ _ h in
    let b = passed (not (has_name earlier (folded f).name)) _ _ a.1 in
    let d = passed (has_width f) _ _ (passed (is_kind f.kind) _ _ b.1).1 in
    (a.0, d.0, d.1)

widths_of_accepted : (earlier fs : List Field) → first_fault (tests_from earlier fs) ≡ None → widths (earlier ++ map folded fs) ≤ MAX_RECORD_BYTES
widths_of_accepted earlier [] h = rw append-nil (leb-true _ _ (passed (leb (widths earlier) MAX_RECORD_BYTES) _ _ h).0)
widths_of_accepted earlier (f ∷ fs) h =
    rw append_assoc at (widths_of_accepted (earlier ++ folded f ∷ []) fs (accepted_parts earlier fs f h).2)

pub accepted_widths : (fs : List Field) → schema_refusal fs ≡ None → widths (map folded fs) ≤ MAX_RECORD_BYTES
accepted_widths fs h = widths_of_accepted [] fs (passed (is_in_range 1 MAX_FIELDS (length fs)) _ _ h).1

pub schema_widths : (fs : List Field) → IsSchema fs → widths fs ≤ MAX_RECORD_BYTES
schema_widths fs s = rw s.kept at (accepted_widths fs s.accepted)

pub schema_count : (fs : List Field) → IsSchema fs → length fs ≤ MAX_FIELDS
schema_count fs s = leb-true _ _ (and_parts _ _ (passed (is_in_range 1 MAX_FIELDS (length fs)) _ _ s.accepted).0).1

each_of_accepted : (P : Field → Type 0) → ((f : Field) → is_name f.name ≡ true → has_width f ≡ true → P f)
    → (earlier fs : List Field) → first_fault (tests_from earlier fs) ≡ None → AllByRecursion P fs
each_of_accepted P each earlier [] h = tt
each_of_accepted P each earlier (f ∷ fs) h =
    let t = accepted_parts earlier fs f h in
    (each f t.0 t.1, each_of_accepted P each (earlier ++ folded f ∷ []) fs t.2)

each_of_schema : (P : Field → Type 0) → ((f : Field) → is_name f.name ≡ true → has_width f ≡ true → P f) → (fs : List Field) → IsSchema fs → AllByRecursion P fs
each_of_schema P each fs s = each_of_accepted P each [] fs (passed (is_in_range 1 MAX_FIELDS (length fs)) _ _ s.accepted).1

-- each field of a schema has a good name and a width of its kind
pub schema_names : (fs : List Field) → IsSchema fs → AllByRecursion (λ f. is_name f.name ≡ true) fs
schema_names = each_of_schema (λ f. is_name f.name ≡ true) (λ f name _. name)

pub schema_wide : (fs : List Field) → IsSchema fs → AllByRecursion (λ f. has_width f ≡ true) fs
schema_wide = each_of_schema (λ f. has_width f ≡ true) (λ f _ wide. wide)

-- no cell of a schema is wider than a field of characters may be
narrow_field : (f : Field) → has_width f ≡ true → f.width ≤ MAX_CHARACTER_WIDTH
narrow_field f h = grind (arith, nat_tests)

narrow_fields : (fs : List Field) (index : ℕ) → AllByRecursion (λ f. has_width f ≡ true) fs → width_of fs index ≤ MAX_CHARACTER_WIDTH
narrow_fields [] index h = omega arith
narrow_fields (f ∷ fs) zero h = narrow_field f h.0
narrow_fields (f ∷ fs) (suc index) h = narrow_fields fs index h.1

pub schema_narrow : (fs : List Field) (index : ℕ) → IsSchema fs → width_of fs index ≤ MAX_CHARACTER_WIDTH
schema_narrow fs index s = narrow_fields fs index (schema_wide fs s)

-- ---- the fields, one after the other

-- the tests from a field on are its own and those from the next one on
tests_split : (fs : List Field) (i : ℕ) (f : Field) → i < length fs → get_or fs i f ≡ f
    → tests_from (map folded (take i fs)) (drop i fs) ≡ field_tests (map folded (take i fs)) f ++ tests_from (map folded (take (i + 1) fs)) (drop (i + 1) fs)
tests_split fs i f lt is = rw (drop_more fs i f lt, take_more fs i f lt, map-append, is) refl

pub field_passes : (fs : List Field) (i : ℕ) (f : Field) (refused : Option SchemaFault) → i < length fs → get_or fs i f ≡ f
    → first_fault (tests_from (map folded (take i fs)) (drop i fs)) ≡ refused → first_fault (field_tests (map folded (take i fs)) f) ≡ None
    → first_fault (tests_from (map folded (take (i + 1) fs)) (drop (i + 1) fs)) ≡ refused
field_passes fs i f refused lt is left none =
    sym (first_then (field_tests (map folded (take i fs)) f) (tests_from (map folded (take (i + 1) fs)) (drop (i + 1) fs)) none) ∙ rw (tests_split fs i f lt is) at left

pub field_fails : (fs : List Field) (i : ℕ) (f : Field) (refused : Option SchemaFault) (fault : SchemaFault) → i < length fs → get_or fs i f ≡ f
    → first_fault (tests_from (map folded (take i fs)) (drop i fs)) ≡ refused → first_fault (field_tests (map folded (take i fs)) f) ≡ Some fault
    → refused ≡ Some fault
field_fails fs i f refused fault lt is left some =
    sym (rw (tests_split fs i f lt is) at left) ∙ first_before (field_tests (map folded (take i fs)) f) (tests_from (map folded (take (i + 1) fs)) (drop (i + 1) fs)) fault some
