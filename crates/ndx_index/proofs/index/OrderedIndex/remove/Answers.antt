use Rattle.std.proofs.Common.{◌≡◌, find, not, true, ap, refl, sym, subst, ◌∙◌, Contains, Some}
use Rattle.std.proofs.lemmas.Bool.{false≢true, not-false}
use Rattle.ndx_index.specs.Index.{Index}
use Rattle.ndx_index.specs.Order.{same, AreInOrder}
use Rattle.ndx_index.specs.PagedIndex.{HoldsIndex}
use Rattle.ndx_index.specs.Laws.Comparing.{same_is}
use Rattle.ndx_index.specs.Laws.Sorting.{without_absent}
use Rattle.ndx_index.proofs.Order.{same_by_parts}
use Rattle.ndx_index.proofs.PagedLaws.{holds_removed, held_found, absent_unless, differs, none_differs}
use Rattle.ndx_index.proofs.index.OrderedIndex.remove.Goals as goal
use Rattle.ndx_index.proofs.index.OrderedIndex.remove.Goals.{In_default, Then-ne}

absent_past : (c : In_default) → Contains c.args.self.now.pairs c.args.pair → ⊥
absent_past c =
    let order = subst AreInOrder (ap (λ (v : Index). v.pairs) c.self.view_is) c.self.invariant.order in
    absent_unless c.args.pair c.args.self.now.pairs c.first_passing.result order (c.first_passing.ensures.pair ∙ ap (λ test. find test c.args.self.now.pairs) c.at_least.ensures.test) (none_differs c.args.pair c.first_passing.result c.in_default.is)

pub returns-in_default-clause-found : goal.returns-in_default-clause-found
returns-in_default-clause-found c = (λ t. absurd (false≢true t), λ held. absurd (absent_past c held))

pub returns-in_default-clause-pairs : goal.returns-in_default-clause-pairs
returns-in_default-clause-pairs c = sym (without_absent c.args.pair c.args.self.now.pairs (absent_past c))

absent_here : (c : Then-ne) → Contains c.args.self.now.pairs c.args.pair → ⊥
absent_here c =
    let order = subst AreInOrder (ap (λ (v : Index). v.pairs) c.self.view_is) c.self.invariant.order in
    let other : not (same c.in-Some.found c.args.pair) ≡ true = ap not (sym (same_by_parts c.in-Some.found c.args.pair)) ∙ sym c.ne.ensures ∙ c.if-ne.true in
    absent_unless c.args.pair c.args.self.now.pairs c.first_passing.result order (c.first_passing.ensures.pair ∙ ap (λ test. find test c.args.self.now.pairs) c.at_least.ensures.test) (λ e. differs c.args.pair c.in-Some.found other (sym c.in-Some.is ∙ e))

pub returns-then-ne-clause-found : goal.returns-then-ne-clause-found
returns-then-ne-clause-found c = (λ t. absurd (false≢true t), λ held. absurd (absent_here c held))

pub returns-then-ne-clause-pairs : goal.returns-then-ne-clause-pairs
returns-then-ne-clause-pairs c = sym (without_absent c.args.pair c.args.self.now.pairs (absent_here c))

pub remove_in-requires : goal.remove_in-requires
remove_in-requires c =
    let own = c.self.invariant in
    let found : c.in-Some.found ≡ c.args.pair = same_is _ _ (not-false _ (ap not (sym (same_by_parts c.in-Some.found c.args.pair)) ∙ sym c.ne.ensures ∙ c.if-ne.false)) in
    let held = held_found c.args.pair c.args.self.now.pairs (sym (c.first_passing.ensures.pair ∙ ap (λ test. find test c.args.self.now.pairs) c.at_least.ensures.test) ∙ c.in-Some.is ∙ ap Some found) in
    record {
      can = record {
        whole = record { tree = own.tree; order = own.order; list = own.list; apart = own.apart };
        count_bounded = own.count_bounded;
        held = subst (λ ps. Contains ps c.args.pair) (sym (ap (λ (v : Index). v.pairs) c.self.view_is)) held;
      };
    }

pub returns-clause-found : goal.returns-clause-found
returns-clause-found c =
    let found : c.in-Some.found ≡ c.args.pair = same_is _ _ (not-false _ (ap not (sym (same_by_parts c.in-Some.found c.args.pair)) ∙ sym c.ne.ensures ∙ c.if-ne.false)) in
    (λ _. held_found c.args.pair c.args.self.now.pairs (sym (c.first_passing.ensures.pair ∙ ap (λ test. find test c.args.self.now.pairs) c.at_least.ensures.test) ∙ c.in-Some.is ∙ ap Some found), λ _. refl)

pub invariant_of-self : goal.invariant_of-self
invariant_of-self c =
    subst (λ k. HoldsIndex k c.remove_in.new.store.pages c.remove_in.new.free c.remove_in.new.root) (sym c.remove_in.ensures.key_len)
    (holds_removed _ _ _ _ _ _ _ c.args.pair c.self.invariant c.remove_in.ensures.removed)
