use Rattle.std.proofs.Common.{ℕ, ◌≡◌, ◌<◌, ◌≤◌, nat_le, List, length, get_or, true, false, sym, arith}
use Rattle.std.proofs.lemmas.Bool.Decides.{nat_tests}
use Rattle.std.proofs.lemmas.List.Sums.{position_or_len_is}
use Rattle.lock_table.proofs.Places.{place}
use Rattle.lock_table.proofs.slot.place_of.Goals as goal

above : (a n : ℕ) → a < n → nat_le n a ≡ false
above a n h = grind (arith, nat_tests)

reached : (a n : ℕ) → n ≤ a → nat_le n a ≡ true
reached a n h = grind (arith, nat_tests)

first : (n i : ℕ) (ns : List ℕ) → i ≤ length ns → ((k : ℕ) → k < i → get_or ns k 0 < n) → (i < length ns → n ≤ get_or ns i 0) → i ≡ place n ns
first n i ns h below at = sym (position_or_len_is (λ m. nat_le n m) ns i 0 h (λ k j. above (get_or ns k 0) n (below k j)) (λ j. reached (get_or ns i 0) n (at j)))

pub returns-then-number-numbers : goal.returns-then-number-numbers
returns-then-number-numbers c =
    record { value = first c.args.number c.loop-i.i c.args.numbers.now (omega arith) c.loop-i.invariant (λ h. c.if-number-numbers.true); inside = omega arith }

pub returns : goal.returns
returns c =
    record { value = first c.args.number (length c.args.numbers.now) c.args.numbers.now (omega arith) (λ k h. c.loop-i.invariant k (omega arith)) (λ h. absurd (omega arith)); inside = omega arith }
