use Rattle.std.proofs.Common.{ℕ, ◌<◌, length, get_or, sym, ap, subst, ◌∙◌, arith}
use Rattle.table_diff.specs.declared.matching.Matches.{Matches}
use Rattle.table_diff.specs.Matching.{matches_by_number, matches_in}
use Rattle.table_diff.proofs.Listed.{length_by_number, number_at}
use Rattle.table_diff.proofs.matching.Matches.at.Goals as goal

pub overflow_cast-place : goal.overflow_cast-place
overflow_cast-place c =
    let place = c.args.place in
    let o : ℕ = c.in-ByNumber.old_count in
    let n : ℕ = c.in-ByNumber.new_count in
    let lt : place < length (matches_by_number o n) = subst (λ (m : Matches). place < length (matches_in m)) c.in-ByNumber.is c.requires.place in
    omega (arith, lt, length_by_number o n, c.max-most.ensures, c.max-most.type_inv)

pub overflow_add-place : goal.overflow_add-place
overflow_add-place c =
    let place = c.args.place in
    let o : ℕ = c.in-ByNumber.old_count in
    let n : ℕ = c.in-ByNumber.new_count in
    let lt : place < length (matches_by_number o n) = subst (λ (m : Matches). place < length (matches_in m)) c.in-ByNumber.is c.requires.place in
    omega (arith, lt, length_by_number o n, c.max-most.ensures, c.max-most.type_inv)

pub returns-in-ByNumber : goal.returns-in-ByNumber
returns-in-ByNumber c =
    let place = c.args.place in
    let o : ℕ = c.in-ByNumber.old_count in
    let n : ℕ = c.in-ByNumber.new_count in
    let lt : place < length (matches_by_number o n) = subst (λ (m : Matches). place < length (matches_in m)) c.in-ByNumber.is c.requires.place in
    let m = c.match_of_number.result in
    record { value = number_at o n place m m lt c.match_of_number.ensures.value ∙ ap (λ (x : Matches). get_or (matches_in x) place m) (sym c.in-ByNumber.is) }
