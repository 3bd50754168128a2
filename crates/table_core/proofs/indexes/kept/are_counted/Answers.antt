use Rattle.std.proofs.Common.{◌≡◌, ℕ, ◌+◌, List, length, get_or, refl, ap, ◌∙◌, arith}
use Rattle.std.proofs.lemmas.Bool.{false≢true}
use Rattle.ndx_index.specs.Places.{counted}
use Rattle.ndx_index.specs.Laws.Counting.{length-counted}
use Rattle.ndx_index.specs.Laws.Numbered.{counted_from_places, counted_place}
use Rattle.table_core.proofs.indexes.kept.are_counted.Goals as goal

pub returns-then-numbers-count : goal.returns-then-numbers-count
returns-then-numbers-count c = record {
  value = (λ never. absurd (false≢true never), λ is. absurd (c.if-numbers-count.true (ap length is ∙ length-counted c.args.count 1)));
}

pub returns-then-numbers-i : goal.returns-then-numbers-i
returns-then-numbers-i c = record {
  value = (
    λ never. absurd (false≢true never),
    λ is.
        let i = c.loop-i.i in
        let next : 1 + i ≡ i + 1 = omega arith in
        absurd (c.if-numbers-i.true (ap (λ (ns : List ℕ). get_or ns i 0) is ∙ counted_place c.args.count 1 i (omega arith) ∙ next)),
  );
}

pub returns : goal.returns
returns c =
    let ns = c.args.numbers.now in
    let long : length ns ≡ c.args.count = omega arith in
    record { value = (λ _. counted_from_places ns 1 (λ k lt. c.loop-i.invariant k (omega arith)) ∙ ap (λ (n : ℕ). counted 1 n) long, λ _. refl) }
