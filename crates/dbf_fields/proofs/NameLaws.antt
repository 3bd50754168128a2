-- Names that differ in case alone are one name.
use Rattle.std.proofs.Common.{◌≡◌, ℕ, Bool, eqb, List, [], ◌∷◌, map, refl, ap, arith}
use Rattle.std.specs.Prelude.{bytes_eq, ◌||◌}
use Rattle.std.specs.List.{list_any}
use Rattle.std.specs.Char.{to_ascii_uppercase, to_ascii_lowercase}
use Rattle.std.specs.Str.{str_eq_ignore_ascii_case}
use Rattle.std.proofs.lemmas.Bool.Decides.{nat_tests}
use Rattle.dbf_fields.specs.declared.field.Field.{Field}
use Rattle.dbf_fields.specs.Field.{has_name, folded}

one_letter : (a b : ℕ) → eqb (to_ascii_lowercase a) (to_ascii_lowercase b) ≡ eqb (to_ascii_uppercase a) (to_ascii_uppercase b)
one_letter a b = grind (arith, nat_tests)

pub same_in_capitals : (xs ys : List ℕ) → str_eq_ignore_ascii_case xs ys ≡ bytes_eq (map to_ascii_uppercase xs) (map to_ascii_uppercase ys)
same_in_capitals [] [] = refl
same_in_capitals [] (y ∷ ys) = refl
same_in_capitals (x ∷ xs) [] = refl
same_in_capitals (x ∷ xs) (y ∷ ys) = rw (one_letter x y, same_in_capitals xs ys) refl

-- the name of a field that a schema keeps
pub has_name_folded : (fields : List Field) (name : List ℕ) → list_any (λ f. bytes_eq (folded f).name name) fields ≡ has_name (map folded fields) name
has_name_folded [] name = refl
has_name_folded (f ∷ fs) name = ap (λ (b : Bool). bytes_eq (folded f).name name || b) (has_name_folded fs name)
