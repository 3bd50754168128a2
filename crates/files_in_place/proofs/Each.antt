-- What is true of each name of a list, from the first to the last.
use Rattle.std.proofs.Common.{◌≡◌, ◌<◌, ◌+◌, ◌⊎◌, ◌∙◌, ap, inl, inr, ℕ, zero, suc, List, [], ◌∷◌, ◌++◌, length, take, drop, get_or, sym, subst, arith}
use Rattle.std.proofs.lemmas.List.{get_or_default, take_more, take-append-drop}
use Rattle.std.proofs.lemmas.List.Elements.{All-append, Contains-append_left, Contains-append_right}
use Rattle.std.specs.List.{All, AllByRecursion, Contains}

pub each_by : {X : Type 0} (P Q : X → Type 0) (xs : List X) → ((x : X) → P x → Q x) → AllByRecursion P xs → AllByRecursion Q xs
each_by P Q [] by all = tt
each_by P Q (x ∷ xs) by all = (by x all.0, each_by P Q xs by all.1)

pub each_of : {X : Type 0} (P : X → Type 0) (xs : List X) → ((x : X) → P x) → AllByRecursion P xs
each_of P [] all = tt
each_of P (x ∷ xs) all = (all x, each_of P xs all)

one_more : {X : Type 0} (P : X → Type 0) (xs : List X) (x : X) → AllByRecursion P xs → P x → AllByRecursion P (xs ++ x ∷ [])
one_more P [] x all here = (here, tt)
one_more P (y ∷ xs) x all here = (all.0, one_more P xs x all.1 here)

-- one name more
pub each_next : {X : Type 0} (P : X → Type 0) (xs : List X) (i : ℕ) (x : X) → i < length xs → x ≡ get_or xs i x → AllByRecursion P (take i xs) → P x → AllByRecursion P (take (i + 1) xs)
each_next P xs i x lt is all here =
    let more : AllByRecursion P (take i xs ++ get_or xs i x ∷ []) = one_more P (take i xs) (get_or xs i x) all (subst P is here) in
    subst (AllByRecursion P) (sym (take_more xs i x lt)) more

pub each_at : {X : Type 0} (P : X → Type 0) (xs : List X) (i : ℕ) (d : X) → i < length xs → AllByRecursion P xs → P (get_or xs i d)
each_at P [] i d lt all = absurd (omega arith)
each_at P (x ∷ xs) zero d lt all = all.0
each_at P (x ∷ xs) (suc i) d lt all = each_at P xs i d (omega arith) all.1

below_or_at : (k i : ℕ) → k < i + 1 → (k < i) ⊎ (k ≡ i)
below_or_at k i le = grind arith

-- one name more, by places
pub at_next : {X : Type 0} (P : X → Type 0) (xs : List X) (i : ℕ) (x : X) → i < length xs → x ≡ get_or xs i x → ((k : ℕ) (d : X) → k < i → P (get_or xs k d)) → P x
    → (k : ℕ) (d : X) → k < i + 1 → P (get_or xs k d)
at_next P xs i x lt is before here k d le = elim (below_or_at k i le) [
  | inl below ↦ before k d below
  | inr same ↦ subst P (is ∙ get_or_default xs i x d lt ∙ ap (λ (j : ℕ). get_or xs j d) (sym same)) here
]

-- one of them
pub from_all : {X : Type 0} (P : X → Type 0) (xs : List X) (x : X) → All P xs → Contains xs x → P x
from_all P xs x all among = subst P among.2 (all among.0 x among.1)

-- those before a place, and those from it on
pub all_split : {X : Type 0} (P : X → Type 0) (xs : List X) (n : ℕ) → All P (take n xs) → All P (drop n xs) → All P xs
all_split P xs n front back = subst (All P) (take-append-drop n xs) (All-append P (take n xs) (drop n xs) front back)

pub among_front : {X : Type 0} (xs : List X) (n : ℕ) (x : X) → Contains (take n xs) x → Contains xs x
among_front {X} xs n x among = subst (λ (l : List X). Contains l x) (take-append-drop n xs) (Contains-append_left (take n xs) (drop n xs) x among)

pub among_back : {X : Type 0} (xs : List X) (n : ℕ) (x : X) → Contains (drop n xs) x → Contains xs x
among_back {X} xs n x among = subst (λ (l : List X). Contains l x) (take-append-drop n xs) (Contains-append_right (take n xs) (drop n xs) x among)
