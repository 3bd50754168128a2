-- What the rules on fields and arguments say of a part of an expression.
use Rattle.std.proofs.Common.{◌≡◌, ℕ, ◌-◌, ◌<◌, ◌≤◌, min, Bool, true, cond, eqb, leb, ltb, ◌&&◌, ◌||◌, List, [], ◌∷◌, length, get_or, Option, Some, None, arith, zero, suc}
use Rattle.std.specs.List.{slice_get, AllByRecursion}
use Rattle.std.proofs.lemmas.Bool.Decides.{nat_tests}
use Rattle.std.proofs.lemmas.Option.{slice_get-get_or}
use Rattle.dbf_fields.specs.declared.field.Field.{Field}
use Rattle.dbf_fields.specs.Faults.{first_fault}
use Rattle.dbf_fields.specs.Field.{has_width}
use Rattle.dbf_fields.specs.Schema.{IsSchema}
use Rattle.dbf_fields.proofs.SchemaLaws.{passed, schema_wide}
use Rattle.key_expr.specs.declared.fault.ExprFault.TheVariants.{NoSuchField, NotCharacter, BadArgument, KeyTooLong}
use Rattle.key_expr.specs.Grammar.{Expr, field, concat, upper, substr, str, dtoc}
use Rattle.key_expr.specs.Keys.{length_given, decimals_given, key_length}
use Rattle.dbf_fields.specs.Layout.{width_of}
use Rattle.key_expr.specs.Rules.{has_kind, can_print, kind_tests, tests, broken_rule}
use Rattle.dbf_fields.proofs.FaultLaws.{first_parts}
use Rattle.dbf_fields.proofs.LayoutLaws.{width_at}
use Rattle.std.specs.Int.{is_in_range}
use Rattle.dbf_fields.specs.declared.format.TheConstants.{CHARACTER, DATE, DATE_WIDTH, LOGICAL, MAX_CHARACTER_WIDTH, MAX_NUMBER_WIDTH, MEMO_WIDTH, NUMBER}
use Rattle.key_expr.specs.declared.format.TheConstants.{MAX_KEY_BYTES}

-- the parts of an expression that keeps the rules keep them
pub kept_concat : (fields : List Field) (a b : Expr) → first_fault (tests fields (concat a b)) ≡ None
    → (first_fault (tests fields a) ≡ None) × (first_fault (tests fields b) ≡ None)
kept_concat fields a b e = first_parts (tests fields a) (tests fields b) e

pub kept_substr : (fields : List Field) (a : Expr) (from count : ℕ) → first_fault (tests fields (substr a from count)) ≡ None
    → first_fault (tests fields a) ≡ None
kept_substr fields a from count e =
    (first_parts (tests fields a) ((is_in_range 1 (key_length fields a) from && leb 1 count, BadArgument) ∷ []) e).0

-- a field that is there
pub field_there : (fields : List Field) (i kind : ℕ) → first_fault (kind_tests fields i kind) ≡ None → i < length fields
field_there fields i kind e =
    let first : ltb i (length fields) ≡ true = (passed (ltb i (length fields)) _ NoSuchField e).0 in grind (arith, nat_tests, first)

wide_at : (fields : List Field) (i : ℕ) (d : Field) → AllByRecursion (λ f. has_width f ≡ true) fields → i < length fields → has_width (get_or fields i d) ≡ true
wide_at [] i d a h = absurd (omega (arith, h))
wide_at (f ∷ fs) zero d a h = a.0
wide_at (f ∷ fs) (suc i) d a h = let less : i < length fs = omega (arith, h) in wide_at fs i d a.1 less

pub schema_wide_at : (fields : List Field) (i : ℕ) (d : Field) → IsSchema fields → i < length fields → has_width (get_or fields i d) ≡ true
schema_wide_at fields i d s h = wide_at fields i d (schema_wide fields s) h

-- the widths and decimals of numbers
number_width : (kind width decimals : ℕ) (other : Bool) → kind ≡ NUMBER
    → cond (eqb kind CHARACTER) (leb 1 width && leb width MAX_CHARACTER_WIDTH) (cond (eqb kind NUMBER) ((leb 1 width && leb width MAX_NUMBER_WIDTH) && (eqb decimals 0 || ltb decimals width)) other) ≡ true
    → (width ≤ MAX_NUMBER_WIDTH) × (decimals < MAX_NUMBER_WIDTH)
number_width kind width decimals other e h = let k = rw e at h in (grind (arith, nat_tests, k), grind (arith, nat_tests, k))

-- a STR that keeps the rules
pub record IsStrKept (fields : List Field) (i : ℕ) (n d : Option ℕ) (f : Field) : Type 0 where
  pub there : i < length fields
  pub narrow : width_of fields i ≤ MAX_NUMBER_WIDTH
  pub fits : width_of fields i ≤ length_given n
  pub count_bounded : f.decimals < MAX_NUMBER_WIDTH
  pub same : decimals_given d ≡ f.decimals
  pub short : length_given n ≤ MAX_KEY_BYTES

pub str_kept : (fields : List Field) (i : ℕ) (n d : Option ℕ) (default : Field) → IsSchema fields
    → first_fault (tests fields (str i n d)) ≡ None → IsStrKept fields i n d (get_or fields i default)
str_kept fields i n d default s e =
    let p1 = passed (ltb i (length fields)) _ NoSuchField e in
    let p2 = passed (has_kind fields i NUMBER) _ NotCharacter p1.1 in
    let p3 = passed (can_print fields i (length_given n) (decimals_given d)) _ BadArgument p2.1 in
    let first : ltb i (length fields) ≡ true = p1.0 in
    let there : i < length fields = grind (arith, nat_tests, first) in
    let got : slice_get fields i ≡ Some (get_or fields i default) = slice_get-get_or fields i default there in
    let kind : eqb (get_or fields i default).kind NUMBER ≡ true = rw (got, has_kind) at p2.0 in
    let number : (get_or fields i default).kind ≡ NUMBER = grind (arith, nat_tests, kind) in
    let f = get_or fields i default in
    let prints : (eqb (decimals_given d) f.decimals && (leb f.width (length_given n) && leb (length_given n) MAX_KEY_BYTES)) ≡ true = rw (got, can_print) at p3.0 in
    let wide : (f.width ≤ MAX_NUMBER_WIDTH) × (f.decimals < MAX_NUMBER_WIDTH) = number_width _ _ _ _ number (schema_wide_at fields i default s there) in
    record {
      there = there;
      narrow = omega (arith, width_at fields i default there, wide.0);
      fits = let wide_enough : f.width ≤ length_given n = grind (arith, nat_tests, prints) in omega (arith, width_at fields i default there, wide_enough);
      count_bounded = wide.1;
      same = grind (arith, nat_tests, prints);
      short = grind (arith, nat_tests, prints);
    }

-- no width is nothing
some_width : (character number truth date : Bool) (width decimals : ℕ)
    → cond character (leb 1 width && leb width MAX_CHARACTER_WIDTH) (cond number ((leb 1 width && leb width MAX_NUMBER_WIDTH) && (eqb decimals 0 || ltb decimals width))
    (cond truth (eqb width 1) (cond date (eqb width DATE_WIDTH) (eqb width MEMO_WIDTH)))) ≡ true
    → 1 ≤ width
some_width character number truth date width decimals h = grind (arith, nat_tests)

width_some : (fields : List Field) (i : ℕ) (d : Field) → IsSchema fields → i < length fields → 1 ≤ width_of fields i
width_some fields i d s there =
    let f = get_or fields i d in
    let got : slice_get fields i ≡ Some f = slice_get-get_or fields i d there in
    let least : 1 ≤ f.width = some_width (eqb f.kind CHARACTER) (eqb f.kind NUMBER) (eqb f.kind LOGICAL) (eqb f.kind DATE) f.width f.decimals (schema_wide_at fields i d s there) in
    omega (arith, width_at fields i d there, least)

no_field : Field
no_field = record { name = []; kind = 0; width = 0; decimals = 0 }

-- a part of a key has at least one byte
substr_some : (long from count : ℕ) → ((leb 1 from && leb from long) && leb 1 count) ≡ true → 1 ≤ min count (long - (from - 1))
substr_some long from count h = grind (arith, nat_tests)

pub key_some : (fields : List Field) (e : Expr) → IsSchema fields → first_fault (tests fields e) ≡ None → 1 ≤ key_length fields e
key_some fields (field i) s h = width_some fields i no_field s (field_there fields i CHARACTER h)
key_some fields (concat a b) s h =
    let kept = kept_concat fields a b h in
    let x = key_some fields a s kept.0 in omega (arith, x)
key_some fields (upper a) s h = key_some fields a s h
key_some fields (substr a from count) s h =
    let last = (first_parts (tests fields a) ((is_in_range 1 (key_length fields a) from && leb 1 count, BadArgument) ∷ []) h).1 in
    substr_some (key_length fields a) from count (passed (is_in_range 1 (key_length fields a) from && leb 1 count) None BadArgument last).0
key_some fields (str i n d) s h =
    let k = str_kept fields i n d no_field s h in
    let w = width_some fields i no_field s k.there in omega (arith, w, k.fits)
key_some fields (dtoc i) s h = omega arith

-- what no refusal says
pub refusal_tests : (fields : List Field) (e : Expr) → broken_rule fields e ≡ None → first_fault (tests fields e) ≡ None
refusal_tests fields e h = (first_parts (tests fields e) ((leb (key_length fields e) MAX_KEY_BYTES, KeyTooLong) ∷ []) h).0

pub refusal_short : (fields : List Field) (e : Expr) → broken_rule fields e ≡ None → key_length fields e ≤ MAX_KEY_BYTES
refusal_short fields e h =
    let last = (first_parts (tests fields e) ((leb (key_length fields e) MAX_KEY_BYTES, KeyTooLong) ∷ []) h).1 in
    let short : leb (key_length fields e) MAX_KEY_BYTES ≡ true = (passed (leb (key_length fields e) MAX_KEY_BYTES) None KeyTooLong last).0 in
    grind (arith, nat_tests, short)
