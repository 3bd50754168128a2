use Rattle.std.proofs.Common.{ℕ, List, sym, subst, ◌∙◌}
use Rattle.std.specs.Prelude.{◌↔◌, IsTrue}
use Rattle.std.specs.List.Sorted.{IsPermutation}
use Rattle.std.proofs.lemmas.Bool.{false≢true}
use Rattle.ndx_index.specs.Places.{counted}
use Rattle.table_order.specs.Laws.Numbered.{own_from_permutation, pairs_by_numbers}
use Rattle.table_core.proofs.indexes.kept.are_all_pairs.Goals as goal

pub returns-then-not-are_record_pairs : goal.returns-then-not-are_record_pairs
returns-then-not-are_record_pairs c = record {
  value = (
    λ never. absurd (false≢true never),
    λ perm.
        let own = own_from_permutation c.args.records.now.table c.args.expr.now.expr c.args.pairs.pairs perm in
        absurd (false≢true (sym c.if-not-are_record_pairs.true ∙ c.are_record_pairs.ensures.value.1 own)),
  );
}

pub returns : goal.returns
returns c =
    let ps = c.args.pairs.pairs in
    let own = c.are_record_pairs.ensures.value.0 c.if-not-are_record_pairs.false in
    let law = pairs_by_numbers c.args.records.now.table c.args.expr.now.expr ps own in
    let found = c.are_all_numbers.ensures.value in
    let all = subst (λ (n : ℕ). IsTrue c.are_all_numbers.result ↔ IsPermutation (counted 1 n) c.into_numbers.result.items) c.record_count.ensures.count found in
    let asked = subst (λ (ns : List ℕ). IsTrue c.are_all_numbers.result ↔ IsPermutation (counted 1 (Rattle.std.proofs.Common.length c.args.records.now.table.rows)) ns) c.into_numbers.ensures.numbers all in
    record { value = (λ h. law.0 (asked.0 h), λ perm. asked.1 (law.1 perm)) }
