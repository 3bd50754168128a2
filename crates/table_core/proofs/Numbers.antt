-- What stands n places after or before a number in the list of the numbers from 1 on.
use Rattle.std.proofs.Common.{◌≡◌, ℕ, ◌+◌, ◌-◌, ◌<◌, ◌≤◌, length, Some, None, ap, ◌∙◌, arith}
use Rattle.std.specs.List.{slice_get}
use Rattle.ndx_index.specs.Places.{back_from, counted, place_in}
use Rattle.ndx_index.specs.Laws.Counting.{counted_at, counted_past, counted_back, counted_none, length-counted, place_in-counted}

place_of_number : (n number : ℕ) → 1 ≤ number → number ≤ n → place_in number (counted 1 n) ≡ number - 1
place_of_number n number one inside =
    let own : number ≡ 1 + (number - 1) = omega arith in
    ap (λ (m : ℕ). place_in m (counted 1 n)) own ∙ place_in-counted n 1 (number - 1) (omega arith)

pub number_on : (n number steps : ℕ) → 1 ≤ number → number + steps ≤ n → slice_get (counted 1 n) (place_in number (counted 1 n) + steps) ≡ Some (number + steps)
number_on n number steps one inside =
    let to : 1 + (number - 1 + steps) ≡ number + steps = omega arith in
    ap (λ (k : ℕ). slice_get (counted 1 n) (k + steps)) (place_of_number n number one (omega arith)) ∙ counted_at n 1 (number - 1 + steps) (omega arith) ∙ ap Some to

pub number_past : (n number steps : ℕ) → 1 ≤ number → number ≤ n → n < number + steps → slice_get (counted 1 n) (place_in number (counted 1 n) + steps) ≡ None
number_past n number steps one inside past =
    ap (λ (k : ℕ). slice_get (counted 1 n) (k + steps)) (place_of_number n number one inside) ∙ counted_past n 1 (number - 1 + steps) (omega arith)

pub number_back : (n number steps : ℕ) → number ≤ n → steps < number → back_from (counted 1 n) (place_in number (counted 1 n)) steps ≡ Some (number - steps)
number_back n number steps inside there =
    let to : 1 + (number - 1 - steps) ≡ number - steps = omega arith in
    ap (λ (k : ℕ). back_from (counted 1 n) k steps) (place_of_number n number (omega arith) inside) ∙ counted_back n (number - 1) steps (omega arith) (omega arith) ∙ ap Some to

pub number_none : (n number steps : ℕ) → 1 ≤ number → number ≤ n → number ≤ steps → back_from (counted 1 n) (place_in number (counted 1 n)) steps ≡ None
number_none n number steps one inside before =
    ap (λ (k : ℕ). back_from (counted 1 n) k steps) (place_of_number n number one inside) ∙ counted_none n (number - 1) steps (omega arith)

-- the end is the place after the last
pub end_back : (n steps : ℕ) → 1 ≤ steps → steps ≤ n → back_from (counted 1 n) (length (counted 1 n)) steps ≡ Some (n - (steps - 1))
end_back n steps some there =
    let to : 1 + (n - steps) ≡ n - (steps - 1) = omega arith in
    ap (λ (k : ℕ). back_from (counted 1 n) k steps) (length-counted n 1) ∙ counted_back n n steps there (omega arith) ∙ ap Some to

pub end_none : (n steps : ℕ) → n < steps → back_from (counted 1 n) (length (counted 1 n)) steps ≡ None
end_none n steps before = ap (λ (k : ℕ). back_from (counted 1 n) k steps) (length-counted n 1) ∙ counted_none n n steps before
