use Rattle.std.proofs.Common.{◌≡◌, ℕ, ◌+◌, ◌-◌, ◌*◌, ◌<◌, ◌≤◌, ◌^◌, List, take, replicate, length, refl, sym, arith}
use Rattle.std.proofs.lemmas.Grind.{common_steps}
use Rattle.std.proofs.lemmas.List.{take-replicate, length-take-le}
use Rattle.dbf_fields.specs.Number.{is_decimal, scaled}
use Rattle.dbf_fields.proofs.Digits.{digits_take, room_for, room_after}
use Rattle.dbf_fields.specs.declared.decimal.TheConstants.{MAX_DIGITS}
use Rattle.dbf_fields.proofs.number.magnitude_of.Goals as goal

pub push_digits-number-requires-2-clause-digits : goal.push_digits-number-requires-2-clause-digits
push_digits-number-requires-2-clause-digits c = digits_take c.min-kept.result c.number_parts.result.1.now (sym c.if-not-are_digits-2.ensures.value)

pub push_digits-requires-clause-digits : goal.push_digits-requires-clause-digits
push_digits-requires-clause-digits c = digits_take (c.from-decimals.result - c.min-kept.result) (replicate 19 48) refl

pub returns-clause-value : goal.returns-clause-value
unfolding is_decimal scaled
returns-clause-value c =
    let n = c.from-decimals.result - c.min-kept.result in
    let zeros : take {A = ℕ} n (replicate 19 48) ≡ replicate n 48 = take-replicate n 19 48 (omega (arith, c.from-decimals.ensures)) in
    let value = rw zeros at c.push_digits.ensures.value in
    grind (arith, common_steps, value)

pub push_digits-number-requires-2-clause-room : goal.push_digits-number-requires-2-clause-room
push_digits-number-requires-2-clause-room c =
    room_for c.push_digits-number.result (length c.number_parts.result.0.now) _ (omega (arith, c.push_digits-number.ensures.bounded))
    (omega (arith, length-take-le {A = ℕ} c.min-kept.result c.number_parts.result.1.now, c.requires.count_bounded, c.requires.decimals, c.number_parts.ensures.short, c.min-kept.ensures, c.from-decimals.ensures))

-- the zeros have room after the other digits
room_left : (whole fraction : List ℕ) (n m decimals kept : ℕ) → length whole + length fraction ≤ 19 → decimals < 19 → kept ≤ decimals → kept ≤ length fraction
    → n < (0 + 1) * 10 ^ length whole → m < (n + 1) * 10 ^ length (take kept fraction) → (m + 1) * 10 ^ length {A = ℕ} (take (decimals - kept) (replicate 19 48)) ≤ 10 ^ MAX_DIGITS
room_left whole fraction n m decimals kept short few a b first second =
    let length_kept = length-take-le kept fraction b in
    let length_zeros = length-take-le {A = ℕ} (decimals - kept) (replicate 19 48) (omega arith) in
    room_after n m (length whole) _ _ first second (omega (arith, length_kept, length_zeros))

pub push_digits-requires-clause-room : goal.push_digits-requires-clause-room
push_digits-requires-clause-room c =
    room_left c.number_parts.result.0.now c.number_parts.result.1.now c.push_digits-number.result c.push_digits-number-2.result c.from-decimals.result c.min-kept.result
    (omega (arith, c.requires.count_bounded, c.number_parts.ensures.short)) (omega (arith, c.from-decimals.ensures)) (omega (arith, c.min-kept.ensures)) (omega (arith, c.min-kept.ensures))
    c.push_digits-number.ensures.bounded c.push_digits-number-2.ensures.bounded

pub returns-clause-bounded : goal.returns-clause-bounded
returns-clause-bounded c =
    let room =
    room_left c.number_parts.result.0.now c.number_parts.result.1.now c.push_digits-number.result c.push_digits-number-2.result c.from-decimals.result c.min-kept.result
    (omega (arith, c.requires.count_bounded, c.number_parts.ensures.short)) (omega (arith, c.from-decimals.ensures)) (omega (arith, c.min-kept.ensures)) (omega (arith, c.min-kept.ensures))
    c.push_digits-number.ensures.bounded c.push_digits-number-2.ensures.bounded in
    omega (arith, c.push_digits.ensures.bounded, room)
