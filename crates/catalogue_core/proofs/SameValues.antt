-- A derived `==` on an enum says that the values are the same, where that on each variant's fields does.
use Rattle.std.proofs.Common.{◌≡◌, Bool, true, false, ◌&&◌, inl, inr, List, [], ◌∷◌, refl, ap}
use Rattle.std.proofs.lemmas.Bool.{false≢true}
use Rattle.std.proofs.lemmas.Bool.Decides.{Decides-and}
use Rattle.std.specs.Bool.{Decides}
use Rattle.std.specs.Cmp.Derive.{of_values}
use denote.Struct.Field.{Field}
use denote.Struct.Values.{Values}
use denote.Enum.Declared.{Record, Choice, values_one, left_or, right_or}
use denote.Enum.Compared.{Each, by}

-- each variant's test is true exactly of fields that are the same
abbrev pub AllDecide : (Fss : List (List Field)) → Each Bool Fss → Type 0
AllDecide [] es = Unit {0}
AllDecide (Fs ∷ Fss) es = ((xs ys : Values Fs) → Decides (es.0 xs ys) (xs ≡ ys)) × AllDecide Fss es.1

choices : (Fss : List (List Field)) (es : Each Bool Fss) → AllDecide Fss es → (c d : Choice Fss) → Decides (by false false Fss es c d) (c ≡ d)
choices [] es all c d = absurd c
choices (Fs ∷ Fss) es all (inl x) (inl y) = (λ e. ap inl ((all.0 x y).0 e), λ e. (all.0 x y).1 (ap (left_or x) e))
choices (Fs ∷ Fss) es all (inl x) (inr y) = (λ e. absurd (false≢true e), λ e. cc)
choices (Fs ∷ Fss) es all (inr x) (inl y) = (λ e. absurd (false≢true e), λ e. cc)
choices (Fs ∷ Fss) es all (inr x) (inr y) = (λ e. ap inr ((choices Fss es.1 all.1 x y).0 e), λ e. (choices Fss es.1 all.1 x y).1 (ap (right_or x) e))

-- then so is the test of the whole enum
pub same_value : (N : Record) (es : Each Bool N.parts) → AllDecide N.parts es → (x y : N.D) → Decides (of_values N false false es x y) (x ≡ y)
same_value N es all x y =
    let both = choices N.parts es all (N.as_values x) (N.as_values y) in
    (λ e. values_one N x y (both.0 e), λ e. both.1 (ap N.as_values e))

-- ---- a variant's fields: none, one or two

pub none : (xs ys : Unit {0}) → Decides true (xs ≡ ys)
none xs ys = (λ _. refl, λ _. refl)

pub one : {A : Type 0} (E : A → A → Bool) → ((x y : A) → Decides (E x y) (x ≡ y)) → (xs ys : A × Unit {0}) → Decides (E xs.0 ys.0) (xs ≡ ys)
one {A} E each xs ys = (λ e. ap (λ (x : A). (x, tt)) ((each xs.0 ys.0).0 e), λ e. (each xs.0 ys.0).1 (ap (λ (zs : A × Unit {0}). zs.0) e))

pub two : {A B : Type 0} (E : A → A → Bool) (F : B → B → Bool) → ((x y : A) → Decides (E x y) (x ≡ y)) → ((x y : B) → Decides (F x y) (x ≡ y))
    → (xs ys : A × (B × Unit {0})) → Decides (E xs.0 ys.0 && F xs.1.0 ys.1.0) (xs ≡ ys)
two {A} {B} E F each other xs ys =
    let both = Decides-and _ _ (each xs.0 ys.0) (other xs.1.0 ys.1.0) in
    (λ e. let p = both.0 e in λ i. (p.0 i, (p.1 i, tt)), λ e. both.1 (ap (λ (zs : A × (B × Unit {0})). zs.0) e, ap (λ (zs : A × (B × Unit {0})). zs.1.0) e))
