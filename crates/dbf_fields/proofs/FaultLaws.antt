-- The first fault of tests that stand one after the other.
use Rattle.std.proofs.Common.{◌≡◌, Bool, true, false, List, [], ◌∷◌, ◌++◌, Some, None, refl, ap, ◌∙◌}
use Rattle.std.specs.Prelude.{option_map}
use Rattle.dbf_fields.specs.Faults.{first_fault, tests_as}

-- where the first tests pass, the others decide
pub first_then : {F : Type 0} (xs ys : List (Bool × F)) → first_fault xs ≡ None → first_fault (xs ++ ys) ≡ first_fault ys
first_then [] ys e = refl
first_then ((true, f) ∷ xs) ys e = first_then xs ys e
first_then ((false, f) ∷ xs) ys e = absurd cc

-- where one of the first tests fails, it is the fault
pub first_before : {F : Type 0} (xs ys : List (Bool × F)) (fault : F) → first_fault xs ≡ Some fault → first_fault (xs ++ ys) ≡ Some fault
first_before [] ys fault e = absurd cc
first_before ((true, f) ∷ xs) ys fault e = first_before xs ys fault e
first_before ((false, f) ∷ xs) ys fault e = e

-- tests that all pass, pass in each part
pub first_parts : {F : Type 0} (xs ys : List (Bool × F)) → first_fault (xs ++ ys) ≡ None → (first_fault xs ≡ None) × (first_fault ys ≡ None)
first_parts [] ys e = (refl, e)
first_parts ((true, f) ∷ xs) ys e = first_parts xs ys e
first_parts ((false, f) ∷ xs) ys e = absurd cc

-- the first fault is told in the same way as those of the tests
pub first_as : {F G : Type 0} (f : F → G) (ts : List (Bool × F)) → first_fault (tests_as f ts) ≡ option_map f (first_fault ts)
first_as f [] = refl
first_as f ((true, e) ∷ ts) = first_as f ts
first_as f ((false, e) ∷ ts) = refl

-- what two lists of tests are when told in another way, they are together
pub as_joined : {F G : Type 0} (f : F → G) (xs ys : List (Bool × F)) (us vs : List (Bool × G)) → tests_as f xs ≡ us → tests_as f ys ≡ vs → tests_as f (xs ++ ys) ≡ us ++ vs
as_joined f [] ys us vs a b = ap (λ ts. ts ++ tests_as f ys) a ∙ ap (λ ts. us ++ ts) b
as_joined f ((t, e) ∷ xs) ys us vs a b = ap (λ ts. (t, f e) ∷ ts) (as_joined f xs ys (tests_as f xs) vs refl b) ∙ ap (λ ts. ts ++ vs) a

-- told in another way and back they are the tests themselves
pub as_back : {F G : Type 0} (f : F → G) (g : G → F) → ((e : F) → g (f e) ≡ e) → (ts : List (Bool × F)) → tests_as g (tests_as f ts) ≡ ts
as_back f g h [] = refl
as_back f g h ((b, e) ∷ ts) = ap (λ e. (b, e) ∷ tests_as g (tests_as f ts)) (h e) ∙ ap (λ ts. (b, e) ∷ ts) (as_back f g h ts)
