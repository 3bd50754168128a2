use Rattle.std.proofs.Common.{◌≡◌, ◌+◌, ◌-◌, ◌≤◌, ℕ, List, length, take, drop, ap, ◌∙◌, sym, arith}
use Rattle.std.proofs.lemmas.List.{length-drop, take_all}
use Rattle.byteorder.specs.Endian.{big_number}
use Rattle.ndx_index.proofs.KeyNumbers.{by_backs}
use Rattle.ndx_index.proofs.compare.back_is_before.Goals as goal

pub returns-else-back-other : goal.returns-else-back-other
returns-else-back-other c =
    let a = c.args.a.now in
    let b = c.args.b.now in
    let k : ℕ = length a - 8 in
    let count_bounded : k ≤ 8 = omega (arith, c.if-a-gt16.false) in
    let long : k + 8 ≡ length a = omega (arith, c.requires.first) in
    let wide : k + 8 ≡ length b = long ∙ sym c.if-b-a.false in
    let whole : take (length a - k) (drop k a) ≡ drop k a = take_all (length a - k) (drop k a) (omega (arith, length-drop k a)) in
    let other : take (length b - k) (drop k b) ≡ drop k b = take_all (length b - k) (drop k b) (omega (arith, length-drop k b)) in
    let one = c.read_u64-back.ensures ∙ ap (λ (xs : List ℕ). big_number 8 xs) whole in
    let two = c.read_u64-other.ensures ∙ ap (λ (xs : List ℕ). big_number 8 xs) other in
    record { decided = by_backs k a b _ _ count_bounded long wide (λ i. (c.type_inv.a i).fits) (λ i. (c.type_inv.b i).fits) c.requires.same one two c.if-back-other.false }
