use Rattle.std.proofs.Common.{◌≡◌, ℕ, suc, ◌-◌, get_or, refl, ap, sym, inl, inr, ◌∙◌, arith}
use Rattle.std.specs.declared.cmp.Ordering.TheVariants.{Less}
use Rattle.std.specs.Ordering.{is_lt}
use Rattle.std.proofs.lemmas.Bool.{false≢true, cases_eq}
use Rattle.std.proofs.lemmas.List.{get_or_default}
use Rattle.ndx_index.specs.KeyedPairs.{KeyedPairs}
use Rattle.ndx_index.specs.Order.{pair_cmp, before}
use Rattle.ndx_index.specs.Slots.{slot_at, no_pair}
use Rattle.ndx_index.specs.Laws.Comparing.{before_is}
use Rattle.ndx_index.specs.Laws.Given.{from_neighbours, neighbours}
use Rattle.ndx_index.proofs.pair_list.PairList.is_in_order.Goals as goal

pub returns-then-not-is_before : goal.returns-then-not-is_before
returns-then-not-is_before c = record {
  value = (
    λ never. absurd (false≢true never),
    λ sorted.
        let ps = c.args.self.now.pairs in
        let i = c.loop-at.at in
        let told : c.is_before.result ≡ before (slot_at ps (i - 1)) (slot_at ps i) =
        c.is_before.ensures.value ∙ ap (λ (s : KeyedPairs). before (slot_at s.pairs (i - 1)) (slot_at s.pairs i)) c.self.view_is in
        let at : suc (i - 1) ≡ i = omega (arith, c.loop-at.auto.at) in
        let less = neighbours ps sorted (i - 1) no_pair (omega (arith, c.loop-at.auto.at, c.loop-at-test.true)) in
        let here : pair_cmp (slot_at ps (i - 1)) (slot_at ps i) ≡ Less = ap (λ (n : ℕ). pair_cmp (slot_at ps (i - 1)) (slot_at ps n)) (sym at) ∙ less in
        absurd (false≢true (sym c.if-not-is_before.true ∙ told ∙ ap is_lt here)),
  );
}

pub loop-at-preserved : goal.loop-at-preserved
loop-at-preserved c = λ k d lt.
    let ps = c.args.self.now.pairs in
    let i = c.loop-at.at in
    let told : c.is_before.result ≡ before (slot_at ps (i - 1)) (slot_at ps i) =
    c.is_before.ensures.value ∙ ap (λ (s : KeyedPairs). before (slot_at s.pairs (i - 1)) (slot_at s.pairs i)) c.self.view_is in
    elim (cases_eq (suc k) i) [
      | inl e ↦
          let at : k ≡ i - 1 = omega arith in
          let first : get_or ps k d ≡ slot_at ps (i - 1) = get_or_default ps k d no_pair (omega (arith, c.loop-at-test.true)) ∙ ap (λ (n : ℕ). slot_at ps n) at in
          let second : get_or ps (suc k) d ≡ slot_at ps i = get_or_default ps (suc k) d no_pair (omega (arith, c.loop-at-test.true)) ∙ ap (λ (n : ℕ). slot_at ps n) e in
          ap (λ x. pair_cmp x (get_or ps (suc k) d)) first ∙ ap (pair_cmp (slot_at ps (i - 1))) second ∙ before_is (slot_at ps (i - 1)) (slot_at ps i) (sym told ∙ c.if-not-is_before.false)
      | inr ne ↦ c.loop-at.invariant k d (omega arith)
    ]

pub returns : goal.returns
returns c = record {
  value = (λ _. from_neighbours c.args.self.now.pairs (λ k d lt. c.loop-at.invariant k d (omega (arith, c.loop-at-test.false))), λ _. refl);
}
