-- The heading that is printed of a schema is a heading of its fields.
use Rattle.std.proofs.Common.{◌≡◌, ◌∷◌, ◌++◌, ◌∙◌, [], ℕ, List, Bool, true, false, not, Some, None, refl, sym, ap, arith, length, map, get_or, append_assoc, length-append}
use Rattle.std.specs.Prelude.{◌||◌, bytes_eq}
use Rattle.std.specs.List.{list_any, position_or_len}
use Rattle.std.specs.Char.{to_ascii_uppercase}
use Rattle.std.specs.Int.{is_in_range}
use Rattle.std.proofs.lemmas.Bool.{cases_Bool, or_from, or_left, or_parts, or_right, lt-ltb}
use Rattle.std.proofs.lemmas.List.{length-map, map-append}
use Rattle.std.proofs.lemmas.Slice.Eq.{bytes_eq-Decides}
use Rattle.std.proofs.Common.{inl, inr}
use Rattle.dbf_fields.specs.declared.field.Field.{Field}
use Rattle.dbf_fields.specs.declared.format.TheConstants.{MAX_FIELDS}
use Rattle.dbf_fields.specs.Faults.{first_fault}
use Rattle.dbf_fields.specs.Field.{folded, has_name, has_width, is_kind}
use Rattle.dbf_fields.specs.Name.{is_name}
use Rattle.dbf_fields.specs.Schema.{tests_from, IsSchema}
use Rattle.dbf_fields.proofs.SchemaLaws.{passed}
use Rattle.table_loader.specs.Headings.{column_name, column_of, is_named, mark_name, names_tests}

-- ---- what a schema says of each of its fields

pub record IsGood (earlier : List Field) (f : Field) : Type 0 where
  pub named : is_name f.name ≡ true
  pub new : has_name earlier f.name ≡ false
  pub kind : is_kind f.kind ≡ true
  pub wide : has_width f ≡ true
  pub no_mark : bytes_eq f.name mark_name ≡ false
  pub capitals : map to_ascii_uppercase f.name ≡ f.name

abbrev pub AreGood : List Field → List Field → Type 0
AreGood earlier [] = Unit {0}
AreGood earlier (f ∷ fs) = IsGood earlier f × AreGood (earlier ++ f ∷ []) fs

same_bytes_again : (text : List ℕ) → bytes_eq text text ≡ true
same_bytes_again text = (bytes_eq-Decides text text).1 refl

-- a name in capitals is not the one of the marks
no_mark : (f : Field) → folded f ≡ f → bytes_eq f.name mark_name ≡ false
no_mark f capitals = elim (cases_Bool (bytes_eq f.name mark_name)) [
  | inl same ↦
      let is : f.name ≡ mark_name = (bytes_eq-Decides f.name mark_name).0 same in
      let kept : map to_ascii_uppercase f.name ≡ f.name = ap (λ (g : Field). g.name) capitals in
      let capital : map to_ascii_uppercase mark_name ≡ mark_name = ap (map to_ascii_uppercase) (sym is) ∙ kept ∙ is in
      let first : 68 ≡ 100 = ap (λ (x : List ℕ). get_or x 0 0) capital in
      absurd (omega (arith, first))
  | inr other ↦ other
]

not_true : (b : Bool) → not b ≡ true → b ≡ false
not_true true e = sym e
not_true false e = refl

good_from : (earlier fs : List Field) → first_fault (tests_from earlier fs) ≡ None → map folded fs ≡ fs → AreGood earlier fs
good_from earlier [] accepted kept = tt
good_from earlier (f ∷ fs) accepted kept =
    let here : folded f ≡ f = cc in
    let later : map folded fs ≡ fs = cc in
    let name = passed (is_name f.name) _ _ accepted in
    let new = passed (not (has_name earlier (folded f).name)) _ _ name.1 in
    let kind = passed (is_kind f.kind) _ _ new.1 in
    let wide = passed (has_width f) _ _ kind.1 in
    let alone : has_name earlier f.name ≡ false = not_true (has_name earlier f.name) (ap (λ (g : Field). not (has_name earlier g.name)) (sym here) ∙ new.0) in
    let rest : first_fault (tests_from (earlier ++ f ∷ []) fs) ≡ None = ap (λ (g : Field). first_fault (tests_from (earlier ++ g ∷ []) fs)) (sym here) ∙ wide.1 in
    (record { named = name.0; new = alone; kind = kind.0; wide = wide.0; no_mark = no_mark f here; capitals = ap (λ (g : Field). g.name) here }, good_from (earlier ++ f ∷ []) fs rest later)

pub schema_good : (fields : List Field) → IsSchema fields → AreGood [] fields
schema_good fields schema = good_from [] fields (passed (is_in_range 1 MAX_FIELDS (length fields)) _ _ schema.accepted).1 schema.kept

-- ---- no name fails

abbrev pub names_of : List Field → List (List ℕ)
names_of fields = map (λ f. f.name) fields

named_by : (fields : List Field) (name : List ℕ) → is_named (names_of fields) name ≡ has_name fields name
named_by [] name = refl
named_by (f ∷ fs) name = ap (λ (b : Bool). bytes_eq f.name name || b) (named_by fs name)

has_own : (earlier : List Field) (f : Field) (fs : List Field) → has_name (earlier ++ f ∷ fs) f.name ≡ true
has_own [] f fs = or_left _ _ (same_bytes_again f.name)
has_own (e ∷ es) f fs = or_right _ _ (has_own es f fs)

one_more : (earlier : List Field) (f : Field) (name : List ℕ) → has_name earlier name ≡ false → bytes_eq f.name name ≡ false → has_name (earlier ++ f ∷ []) name ≡ false
one_more [] f name none other = or_from _ _ other refl
one_more (e ∷ es) f name none other = let parts = or_parts _ _ none in or_from _ _ parts.0 (one_more es f name parts.1 other)

names_good : (all earlier fs : List Field) → all ≡ earlier ++ fs → AreGood earlier fs → has_name earlier mark_name ≡ false
    → first_fault (names_tests all (names_of earlier) (names_of fs ++ mark_name ∷ [])) ≡ None
names_good all earlier [] is good unmarked =
    rw (or_right (has_name all mark_name) (bytes_eq mark_name mark_name) (same_bytes_again mark_name), named_by earlier mark_name, unmarked) refl
names_good all earlier (f ∷ fs) is (here, later) unmarked =
    let known : has_name all f.name ≡ true = ap (λ (x : List Field). has_name x f.name) is ∙ has_own earlier f fs in
    let more : all ≡ (earlier ++ f ∷ []) ++ fs = is ∙ sym (append_assoc earlier (f ∷ []) fs) in
    let rest = names_good all (earlier ++ f ∷ []) fs more later (one_more earlier f mark_name unmarked here.no_mark) in
    rw (or_left (has_name all f.name) (bytes_eq mark_name f.name) known, named_by earlier f.name, here.new)
    (ap (λ (x : List (List ℕ)). first_fault (names_tests all x (names_of fs ++ mark_name ∷ []))) (sym (map-append (λ (g : Field). g.name) earlier (f ∷ []))) ∙ rest)

-- the heading of a schema has no fault
pub heading_accepted : (fields : List Field) → AreGood [] fields → first_fault (names_tests fields [] (names_of fields ++ mark_name ∷ [])) ≡ None
heading_accepted fields good = names_good fields [] fields refl good refl

-- ---- they are the fields' own

name_kept : (earlier : List Field) (f : Field) → IsGood earlier f → column_name f.name ≡ f.name
name_kept earlier f good = rw good.no_mark good.capitals

pub names_kept : (earlier fs : List Field) → AreGood earlier fs → map column_name (names_of fs ++ mark_name ∷ []) ≡ names_of fs ++ mark_name ∷ []
names_kept earlier [] good = refl
names_kept earlier (f ∷ fs) (here, later) =
    ap (λ (x : List ℕ). x ∷ map column_name (names_of fs ++ mark_name ∷ [])) (name_kept earlier f here)
    ∙ ap (λ (xs : List (List ℕ)). f.name ∷ xs) (names_kept (earlier ++ f ∷ []) fs later)

-- ---- and each column is found

place_after : (p : List ℕ → Bool) (xs : List (List ℕ)) (y : List ℕ) (ys : List (List ℕ)) → list_any p xs ≡ false → p y ≡ true
    → position_or_len p (xs ++ y ∷ ys) ≡ length xs
place_after p [] y ys none passes = rw passes refl
place_after p (x ∷ xs) y ys none passes =
    let parts = or_parts (p x) (list_any p xs) none in
    let rest = place_after p xs y ys parts.1 passes in
    rw parts.0 (omega (arith, rest))

column_after : (earlier : List (List ℕ)) (name : List ℕ) (later : List (List ℕ)) → is_named earlier name ≡ false → column_of (earlier ++ name ∷ later) name ≡ Some (length earlier)
column_after earlier name later none =
    let place = place_after (λ n. bytes_eq n name) earlier name later none (same_bytes_again name) in
    let inside = lt-ltb (length earlier) (length (earlier ++ name ∷ later)) (omega (arith, length-append earlier (name ∷ later))) in
    rw (place, inside) refl

none_is_mark : (earlier fs : List Field) → has_name earlier mark_name ≡ false → AreGood earlier fs → has_name fs mark_name ≡ false
none_is_mark earlier [] unmarked good = refl
none_is_mark earlier (f ∷ fs) unmarked (here, later) = or_from _ _ here.no_mark (none_is_mark (earlier ++ f ∷ []) fs (one_more earlier f mark_name unmarked here.no_mark) later)

-- the column of the marks is the last
pub mark_column : (fields : List Field) → AreGood [] fields → column_of (names_of fields ++ mark_name ∷ []) mark_name ≡ Some (length fields)
mark_column fields good =
    column_after (names_of fields) mark_name [] (named_by fields mark_name ∙ none_is_mark [] fields refl good) ∙ ap Some (length-map fields (λ (f : Field). f.name))

-- and that of a field has its index
pub field_column : (earlier : List Field) (f : Field) (fs : List Field) → IsGood earlier f → column_of (names_of (earlier ++ f ∷ fs) ++ mark_name ∷ []) f.name ≡ Some (length earlier)
field_column earlier f fs good =
    let split : names_of (earlier ++ f ∷ fs) ++ mark_name ∷ [] ≡ names_of earlier ++ f.name ∷ (names_of fs ++ mark_name ∷ []) =
    ap (λ (x : List (List ℕ)). x ++ mark_name ∷ []) (map-append (λ (g : Field). g.name) earlier (f ∷ fs)) ∙ append_assoc (names_of earlier) (f.name ∷ names_of fs) (mark_name ∷ []) in
    ap (λ (x : List (List ℕ)). column_of x f.name) split ∙ column_after (names_of earlier) f.name (names_of fs ++ mark_name ∷ []) (named_by earlier f.name ∙ good.new)
    ∙ ap Some (length-map earlier (λ (g : Field). g.name))
