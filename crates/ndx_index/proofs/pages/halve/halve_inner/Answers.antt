use Rattle.std.proofs.Common.{◌≡◌, ◌-◌, suc, set, ap, ◌∙◌, subst, arith}
use Rattle.std.specs.List.{remove}
use Rattle.ndx_index.specs.Slots.{slot_at}
use Rattle.ndx_index.specs.PageStore.{page_in, with_pairs}
use Rattle.ndx_index.specs.TreeSteps.{CanHalve, Halves}
use Rattle.ndx_index.proofs.Halving.{both_cut, halves_by_steps}
use Rattle.ndx_index.proofs.pages.halve.halve_inner.Goals as goal

pub take_pair-requires-clause-place : goal.take_pair-requires-clause-place
take_pair-requires-clause-place c =
    let a = c.args.store.now.pages in
    let e : c.args.level ≡ suc (c.args.level - 1) = omega (arith, c.requires.above) in
    let can = subst (λ d. CanHalve d a c.args.lower c.args.upper) e c.requires.can in
    let cut = both_cut (c.args.level - 1) a c.split_links.new.self.pages c.split_pairs.new.self.pages c.args.lower c.args.upper can c.split_links.ensures.pages c.split_pairs.ensures.pages in
    omega (arith, cut.keys, c.from-middle.ensures)

pub returns-clause-halved : goal.returns-clause-halved
returns-clause-halved c =
    let a = c.args.store.now.pages in
    let a2 = c.split_pairs.new.self.pages in
    let b = c.take_pair.new.self.pages in
    let d = c.args.level - 1 in
    let e : c.args.level ≡ suc d = omega (arith, c.requires.above) in
    let up : suc d ≡ c.args.level = omega (arith, c.requires.above) in
    let can = subst (λ l. CanHalve l a c.args.lower c.args.upper) e c.requires.can in
    let cut = both_cut d a c.split_links.new.self.pages a2 c.args.lower c.args.upper can c.split_links.ensures.pages c.split_pairs.ensures.pages in
    let seven : c.from-middle.result ≡ 7 = c.from-middle.ensures in
    subst (λ l. Halves l a b c.args.lower c.args.upper c.pair-key.result) up
    (halves_by_steps d a a2 b c.args.lower c.args.upper c.pair-key.result can cut
    (subst (λ i. b ≡ set a2 c.args.lower (with_pairs (remove (page_in a2 c.args.lower).pairs i) (page_in a2 c.args.lower))) seven c.take_pair.ensures.pages)
    (c.pair-key.ensures.pair ∙ ap (λ i. slot_at (page_in a2 c.args.lower).pairs i) seven))
