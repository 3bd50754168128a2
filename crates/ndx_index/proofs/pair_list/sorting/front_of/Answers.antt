use Rattle.std.proofs.Common.{◌≡◌, ℕ, length, ap, sym, ◌∙◌, arith}
use Rattle.std.specs.Prelude.{min}
use Rattle.std.proofs.lemmas.Bool.{eqb-true}
use Rattle.byteorder.specs.Endian.{big_number}
use Rattle.ndx_index.proofs.pair_list.sorting.front_of.Goals as goal

pub returns-then-run-ge-FRONT_BYTES : goal.returns-then-run-ge-FRONT_BYTES
returns-then-run-ge-FRONT_BYTES c =
    let run = c.args.run.now in
    let eight : 8 ≡ min 8 (length run) = omega (arith, c.if-run-ge-FRONT_BYTES.true) in
    record { value = c.read_u64.ensures ∙ ap (λ (n : ℕ). big_number n run) eight; bytes = λ i. (c.type_inv.run i).fits }

pub returns-then-is_empty : goal.returns-then-is_empty
returns-then-is_empty c =
    let run = c.args.run.now in
    let long : length run ≡ 0 = eqb-true (length run) 0 (sym c.is_empty.ensures ∙ c.if-is_empty.true) in
    let none : 0 ≡ min 8 (length run) = omega (arith, long) in
    record { value = ap (λ (n : ℕ). big_number n run) none; bytes = λ i. (c.type_inv.run i).fits }

pub returns : goal.returns
returns c =
    let run = c.args.run.now in
    let all : length run ≡ min 8 (length run) = omega (arith, c.if-run-ge-FRONT_BYTES.false) in
    record { value = c.read_uint.ensures ∙ ap (λ (n : ℕ). big_number n run) all; bytes = λ i. (c.type_inv.run i).fits }
