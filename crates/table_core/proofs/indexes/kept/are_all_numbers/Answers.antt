use Rattle.std.proofs.Common.{◌≡◌, ℕ, List, sym, subst, ◌∙◌}
use Rattle.std.specs.List.Sorted.{IsPermutation}
use Rattle.std.proofs.lemmas.List.Sorted.{IsPermutation-sym, IsPermutation-trans}
use Rattle.ndx_index.specs.Places.{counted}
use Rattle.ndx_index.specs.Laws.Numbered.{counted_from_sort}
use Rattle.table_core.proofs.indexes.kept.are_all_numbers.Goals as goal

pub returns : goal.returns
returns c =
    let old : List ℕ = c.args.numbers.items in
    let new : List ℕ = c.sort_unstable.new.self.items in
    let n : ℕ = c.args.count in
    let moved = c.sort_unstable.ensures.permutation in
    record {
      value = (
        λ h.
            let is : new ≡ counted 1 n = sym c.as_slice.ensures.value ∙ c.are_counted.ensures.value.0 h in
            subst (λ (ns : List ℕ). IsPermutation ns old) is (IsPermutation-sym old new moved),
        λ perm. c.are_counted.ensures.value.1 (c.as_slice.ensures.value ∙ counted_from_sort n new (IsPermutation-trans (counted 1 n) old new perm moved) c.sort_unstable.ensures.sorted),
      );
    }
