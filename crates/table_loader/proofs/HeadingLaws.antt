-- The names of a heading, one after the other.
use Rattle.std.proofs.Common.{◌≡◌, ◌+◌, ◌<◌, ◌∷◌, [], ℕ, List, true, false, not, Some, None, refl, arith, length, take, drop, get_or}
use Rattle.std.proofs.Common.{zero, suc}
use Rattle.std.specs.Prelude.{◌||◌, bytes_eq}
use Rattle.csv.specs.Records.{field_at}
use Rattle.std.proofs.lemmas.List.{drop_more, take_more, length-take-le}
use Rattle.dbf_fields.specs.declared.field.Field.{Field}
use Rattle.dbf_fields.specs.Faults.{first_fault}
use Rattle.dbf_fields.specs.Field.{has_name}
use Rattle.table_loader.specs.declared.fault.CsvFault.TheVariants.{DoubledName, UnknownName}
use Rattle.table_loader.specs.Headings.{is_named, mark_name, names_tests}

-- the tests from a name on are its own and those from the next one on
names_split : (fields : List Field) (names : List (List ℕ)) (i : ℕ) (name : List ℕ) → i < length names → get_or names i name ≡ name
    → names_tests fields (take i names) (drop i names)
    ≡ (has_name fields name || bytes_eq mark_name name, UnknownName (i + 1)) ∷ (not (is_named (take i names) name), DoubledName (i + 1))
    ∷ names_tests fields (take (i + 1) names) (drop (i + 1) names)
names_split fields names i name lt is =
    rw (drop_more names i name lt, take_more names i name lt, is, length-take-le i names (omega arith)) refl

-- a name that passes leaves the later ones
pub name_passes : (fields : List Field) (names : List (List ℕ)) (i : ℕ) (name : List ℕ) → i < length names → get_or names i name ≡ name
    → (has_name fields name || bytes_eq mark_name name) ≡ true → is_named (take i names) name ≡ false
    → first_fault (names_tests fields (take (i + 1) names) (drop (i + 1) names)) ≡ first_fault (names_tests fields (take i names) (drop i names))
name_passes fields names i name lt is known new = rw (names_split fields names i name lt is, known, new) refl

-- and one that does not is the fault
pub name_unknown : (fields : List Field) (names : List (List ℕ)) (i : ℕ) (name : List ℕ) → i < length names → get_or names i name ≡ name
    → (has_name fields name || bytes_eq mark_name name) ≡ false → first_fault (names_tests fields (take i names) (drop i names)) ≡ Some (UnknownName (i + 1))
name_unknown fields names i name lt is known = rw (names_split fields names i name lt is, known) refl

pub name_doubled : (fields : List Field) (names : List (List ℕ)) (i : ℕ) (name : List ℕ) → i < length names → get_or names i name ≡ name
    → (has_name fields name || bytes_eq mark_name name) ≡ true → is_named (take i names) name ≡ true
    → first_fault (names_tests fields (take i names) (drop i names)) ≡ Some (DoubledName (i + 1))
name_doubled fields names i name lt is known old = rw (names_split fields names i name lt is, known, old) refl

-- a column that a line does not have has nothing
pub no_field : (fields : List (List ℕ)) (column : ℕ) → field_at fields column ≡ None → get_or fields column [] ≡ []
unfolding field_at
no_field [] column none = refl
no_field (f ∷ fs) zero none = absurd cc
no_field (f ∷ fs) (suc column) none = no_field fs column none
