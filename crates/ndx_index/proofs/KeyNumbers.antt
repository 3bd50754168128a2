-- Bytes compare as the numbers that they are, the highest first.
use Rattle.std.proofs.Common.{nat_lt, true, false, ◌≡◌, ℕ, zero, suc, ◌+◌, ◌*◌, ◌^◌, ◌<◌, ◌≤◌, List, ◌∷◌, [], length, drop, slice_index, refl, sym, ap, subst, ◌∙◌, inl, inr, arith}
use Rattle.std.proofs.Math.Nat.{add-mul, mul-le-mul_right}
use Rattle.std.proofs.lemmas.Bool.{cases_eq, cases_lt}
use Rattle.std.proofs.lemmas.List.{get_or-drop, length-drop}
use Rattle.std.specs.declared.cmp.Ordering.{Ordering}
use Rattle.std.specs.declared.cmp.Ordering.TheVariants.{Less, Equal, Greater}
use Rattle.std.specs.Cmp.{nat_cmp_is}
use Rattle.std.specs.Cmp.Lexicographic.{slice_cmp}
use Rattle.std.proofs.lemmas.Bool.Decides.{nat_tests}
use Rattle.std.specs.Ordering.{nat_cmp, is_lt, ordering_then}
use Rattle.byteorder.specs.Endian.{big_from}
use Rattle.byteorder.specs.Numbers.{big_from-cons, big_from-lt}

moved : (a r s : ℕ) → nat_cmp (a + r) (a + s) ≡ nat_cmp r s
moved a r s = elim (cases_lt r s) [
  | inl lt ↦ sym (nat_cmp_is (a + r) (a + s) Less (omega arith)) ∙ nat_cmp_is r s Less lt
  | inr le ↦ elim (cases_eq r s) [
    | inl e ↦ sym (nat_cmp_is (a + r) (a + s) Equal (omega arith)) ∙ nat_cmp_is r s Equal e
    | inr ne ↦ sym (nat_cmp_is (a + r) (a + s) Greater (omega arith)) ∙ nat_cmp_is r s Greater (omega arith)
  ]
]

-- a greater first digit makes a greater number
ahead : (p x y r s : ℕ) → x < y → r < p → x * p + r < y * p + s
ahead p x y r s lt low =
    let next : (x + 1) * p ≤ y * p = mul-le-mul_right p (omega arith) in
    let parts : (x + 1) * p ≡ x * p + 1 * p = add-mul x 1 p in
    omega arith

-- numbers compare by their first digits, and then by the others
digits : (p x y r s : ℕ) → r < p → s < p → nat_cmp (x * p + r) (y * p + s) ≡ ordering_then (nat_cmp x y) (nat_cmp r s)
digits p x y r s rlow slow = elim (cases_lt x y) [
  | inl lt ↦ sym (nat_cmp_is (x * p + r) (y * p + s) Less (ahead p x y r s lt rlow)) ∙ ap (λ o. ordering_then o (nat_cmp r s)) (nat_cmp_is x y Less lt)
  | inr le ↦ elim (cases_eq x y) [
    | inl e ↦ ap (λ z. nat_cmp (z * p + r) (y * p + s)) e ∙ moved (y * p) r s ∙ ap (λ o. ordering_then o (nat_cmp r s)) (nat_cmp_is x y Equal e)
    | inr ne ↦ sym (nat_cmp_is (x * p + r) (y * p + s) Greater (ahead p y x s r (omega arith) slow)) ∙ ap (λ o. ordering_then o (nat_cmp r s)) (nat_cmp_is x y Greater (omega arith))
  ]
]

then-then : (a b c : Ordering) → ordering_then (ordering_then a b) c ≡ ordering_then a (ordering_then b c)
then-then Less b c = refl
then-then Equal b c = refl
then-then Greater b c = refl

-- lists of bytes compare by the numbers in their first n bytes, and then by what stands after them
pub by_numbers : (n : ℕ) (xs ys : List ℕ) → n ≤ length xs → n ≤ length ys → ((k : ℕ) → slice_index xs k < 256) → ((k : ℕ) → slice_index ys k < 256)
    → slice_cmp nat_cmp xs ys ≡ ordering_then (nat_cmp (big_from 0 n xs) (big_from 0 n ys)) (slice_cmp nat_cmp (drop n xs) (drop n ys))
by_numbers zero xs ys first second fit sit = refl
by_numbers (suc n) [] ys first second fit sit = absurd (omega (arith, first))
by_numbers (suc n) (x ∷ xs) [] first second fit sit = absurd (omega (arith, second))
by_numbers (suc n) (x ∷ xs) (y ∷ ys) first second fit sit =
    let p : ℕ = 256 ^ n in
    let fits : (k : ℕ) → slice_index xs k < 256 = λ k. fit (suc k) in
    let sits : (k : ℕ) → slice_index ys k < 256 = λ k. sit (suc k) in
    let rest = by_numbers n xs ys (omega (arith, first)) (omega (arith, second)) fits sits in
    let r : ℕ = big_from 0 n xs in
    let s : ℕ = big_from 0 n ys in
    let after : Ordering = slice_cmp nat_cmp (drop n xs) (drop n ys) in
    ap (ordering_then (nat_cmp x y)) rest
    ∙ sym (then-then (nat_cmp x y) (nat_cmp r s) after)
    ∙ ap (λ o. ordering_then o after) (sym (digits p x y r s (big_from-lt 0 n xs fits) (big_from-lt 0 n ys sits))
    ∙ ap (λ m. nat_cmp (x * p + m) (y * p + s)) (sym (big_from-cons 0 n x xs))
    ∙ ap (λ m. nat_cmp (x * p + big_from 1 n (x ∷ xs)) (y * p + m)) (sym (big_from-cons 0 n y ys)))

-- what is ordered by two numbers first, and these are not one, stands in the order of the numbers
decided : (o rest : Ordering) (x y : ℕ) → o ≡ ordering_then (nat_cmp x y) rest → (x ≡ y → ⊥) → (then : Ordering) → is_lt (ordering_then o then) ≡ nat_lt x y
decided o rest x y whole apart then = elim (cases_lt x y) [
  | inl lt ↦
      let less_is : nat_lt x y ≡ true = grind (arith, nat_tests, lt) in
      let less : o ≡ Less = whole ∙ ap (λ p. ordering_then p rest) (sym (nat_cmp_is x y Less lt)) in
      ap (λ p. is_lt (ordering_then p then)) less ∙ sym less_is
  | inr le ↦
      let more : y < x = elim (cases_eq x y) [ inl e ↦ absurd (apart e) | inr ne ↦ omega (arith, le, ne) ] in
      let less_is : nat_lt x y ≡ false = grind (arith, nat_tests, le) in
      let greater : o ≡ Greater = whole ∙ ap (λ p. ordering_then p rest) (sym (nat_cmp_is x y Greater more)) in
      ap (λ p. is_lt (ordering_then p then)) greater ∙ sym less_is
]

-- where the first eight bytes of two lists are not one number, the lists stand in the order of these numbers
pub by_fronts : (xs ys : List ℕ) (x y : ℕ) → 8 ≤ length xs → 8 ≤ length ys → ((k : ℕ) → slice_index xs k < 256) → ((k : ℕ) → slice_index ys k < 256)
    → x ≡ big_from 0 8 xs → y ≡ big_from 0 8 ys → (x ≡ y → ⊥) → (then : Ordering) → is_lt (ordering_then (slice_cmp nat_cmp xs ys) then) ≡ nat_lt x y
by_fronts xs ys x y first second fit sit one two apart then =
    decided (slice_cmp nat_cmp xs ys) (slice_cmp nat_cmp (drop 8 xs) (drop 8 ys)) x y (rw (one, two) (by_numbers 8 xs ys first second fit sit)) apart then

-- where the first digits of two numbers differ the numbers do
same_digit : (p x y r s : ℕ) → r < p → s < p → x * p + r ≡ y * p + s → x ≡ y
same_digit p x y r s rlow slow same = elim (cases_lt x y) [
  | inl lt ↦ absurd (omega (arith, ahead p x y r s lt rlow, same))
  | inr le ↦ elim (cases_eq x y) [
    | inl e ↦ e
    | inr ne ↦ absurd (omega (arith, ahead p y x s r (omega (arith, le, ne)) slow, same))
  ]
]

-- lists whose first n bytes are one number have one number in fewer of them, too
fewer : (k n : ℕ) (xs ys : List ℕ) → k ≤ n → n ≤ length xs → n ≤ length ys → ((i : ℕ) → slice_index xs i < 256) → ((i : ℕ) → slice_index ys i < 256)
    → big_from 0 n xs ≡ big_from 0 n ys → big_from 0 k xs ≡ big_from 0 k ys
fewer zero n xs ys le first second fit sit same = refl
fewer (suc k) zero xs ys le first second fit sit same = absurd (omega (arith, le))
fewer (suc k) (suc n) [] ys le first second fit sit same = absurd (omega (arith, first))
fewer (suc k) (suc n) (x ∷ xs) [] le first second fit sit same = absurd (omega (arith, second))
fewer (suc k) (suc n) (x ∷ xs) (y ∷ ys) le first second fit sit same =
    let p : ℕ = 256 ^ n in
    let fits : (i : ℕ) → slice_index xs i < 256 = λ i. fit (suc i) in
    let sits : (i : ℕ) → slice_index ys i < 256 = λ i. sit (suc i) in
    let r : ℕ = big_from 0 n xs in
    let s : ℕ = big_from 0 n ys in
    let both : x * p + r ≡ y * p + s =
    ap (λ m. x * p + m) (sym (big_from-cons 0 n x xs)) ∙ same ∙ ap (λ m. y * p + m) (big_from-cons 0 n y ys) in
    let head : x ≡ y = same_digit p x y r s (big_from-lt 0 n xs fits) (big_from-lt 0 n ys sits) both in
    let rest : r ≡ s = omega (arith, both, ap (λ (z : ℕ). z * p) head) in
    let tail = fewer k n xs ys (omega (arith, le)) (omega (arith, first)) (omega (arith, second)) fits sits rest in
    ap (λ m. x * 256 ^ k + m) (big_from-cons 0 k x xs ∙ tail ∙ sym (big_from-cons 0 k y ys)) ∙ ap (λ (z : ℕ). z * 256 ^ k + big_from 1 k (y ∷ ys)) head

-- where the first eight bytes of two lists are one number, and the last eight are not, the lists stand in the order of
-- the last eight
pub by_backs : (k : ℕ) (xs ys : List ℕ) (x y : ℕ) → k ≤ 8 → k + 8 ≡ length xs → k + 8 ≡ length ys → ((i : ℕ) → slice_index xs i < 256) → ((i : ℕ) → slice_index ys i < 256)
    → big_from 0 8 xs ≡ big_from 0 8 ys → x ≡ big_from 0 8 (drop k xs) → y ≡ big_from 0 8 (drop k ys) → (x ≡ y → ⊥) → (then : Ordering)
    → is_lt (ordering_then (slice_cmp nat_cmp xs ys) then) ≡ nat_lt x y
by_backs k xs ys x y count_bounded first second fit sit same one two apart then =
    let heads : big_from 0 k xs ≡ big_from 0 k ys = fewer k 8 xs ys count_bounded (omega (arith, first)) (omega (arith, second)) fit sit same in
    let long : 8 ≤ length (drop k xs) = omega (arith, length-drop k xs, first) in
    let wide : 8 ≤ length (drop k ys) = omega (arith, length-drop k ys, second) in
    let fits : (i : ℕ) → slice_index (drop k xs) i < 256 = λ i. subst (λ b. b < 256) (sym (get_or-drop k xs i 0)) (fit (k + i)) in
    let sits : (i : ℕ) → slice_index (drop k ys) i < 256 = λ i. subst (λ b. b < 256) (sym (get_or-drop k ys i 0)) (sit (k + i)) in
    let rest : Ordering = slice_cmp nat_cmp (drop 8 (drop k xs)) (drop 8 (drop k ys)) in
    let backs : slice_cmp nat_cmp (drop k xs) (drop k ys) ≡ ordering_then (nat_cmp x y) rest = rw (one, two) (by_numbers 8 (drop k xs) (drop k ys) long wide fits sits) in
    let whole : slice_cmp nat_cmp xs ys ≡ slice_cmp nat_cmp (drop k xs) (drop k ys) =
    by_numbers k xs ys (omega (arith, first)) (omega (arith, second)) fit sit
    ∙ ap (λ o. ordering_then o (slice_cmp nat_cmp (drop k xs) (drop k ys))) (sym (nat_cmp_is (big_from 0 k xs) (big_from 0 k ys) Equal heads)) in
    decided (slice_cmp nat_cmp xs ys) rest x y (whole ∙ backs) apart then
