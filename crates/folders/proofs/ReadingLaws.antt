-- What is read up to a limit and one byte more is whole where it is within the limit.
use Rattle.std.proofs.Common.{◌≡◌, ℕ, ◌+◌, ◌<◌, ◌≤◌, List, ◌++◌, [], length, take, Option, Some, None, Result, Ok, Err, IfOk, IfSome, inl, inr, sym, ◌∙◌, arith, subst}
use Rattle.std.proofs.lemmas.Bool.{cases_lt}
use Rattle.std.proofs.lemmas.List.{length-take, take_all}
use Rattle.std.specs.Option.{option_map}

-- a front part shorter than what was asked for is all there was
all_taken : (limit : ℕ) (all : List ℕ) → length (take (limit + 1) all) ≤ limit → take (limit + 1) all ≡ all
all_taken limit all short = take_all (limit + 1) all (omega (arith, length-take (limit + 1) all))

known_read : (left : Option (List ℕ)) (limit : ℕ) (bytes : List ℕ) → IfSome (option_map (take (limit + 1)) left) (λ xs. bytes ≡ xs) → length bytes ≤ limit
    → IfSome left (λ all. bytes ≡ all)
known_read None limit bytes e short = tt
known_read (Some all) limit bytes e short = e ∙ all_taken limit all (subst (λ (xs : List ℕ). length xs ≤ limit) e short)

pub whole_read : (left from : Option (List ℕ)) (limit taken : ℕ) (before bytes : List ℕ) → from ≡ left → taken ≡ limit + 1 → before ≡ []
    → IfSome (option_map (take taken) from) (λ xs. bytes ≡ before ++ xs) → length bytes ≤ limit → IfSome left (λ all. bytes ≡ all)
whole_read left from limit taken before bytes same more none e short =
    known_read left limit bytes (subst (λ (b : List ℕ). IfSome (option_map (take (limit + 1)) left) (λ xs. bytes ≡ b ++ xs)) none
    (subst (λ (n : ℕ). IfSome (option_map (take n) left) (λ xs. bytes ≡ before ++ xs)) more
    (subst (λ (o : Option (List ℕ)). IfSome (option_map (take taken) o) (λ xs. bytes ≡ before ++ xs)) same e))) short

-- a value is answered where it fits, and else a fault
pub where_it_fits : {T E : Type 0} (P : T → Type 0) (r : Result T E) (x : T) (e : E) (size limit : ℕ) → (size ≤ limit → r ≡ Ok x) → (limit < size → r ≡ Err e)
    → (size ≤ limit → P x) → IfOk r P
where_it_fits {T} {E} P r x e size limit fits long holds =
    elim (cases_lt limit size) [
      | inl over ↦ subst (λ (s : Result T E). IfOk s P) (sym (long over)) tt
      | inr within ↦ subst (λ (s : Result T E). IfOk s P) (sym (fits within)) (holds within)
    ]
