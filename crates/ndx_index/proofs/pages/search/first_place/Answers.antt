use Rattle.std.proofs.Common.{◌≡◌, suc, ◌+◌, ◌-◌, ◌<◌, find, get_or, length, Some, None, Option, sym, subst, ap, ◌∙◌, arith}
use Rattle.std.specs.Option.{option_map}
use Rattle.ndx_index.specs.declared.pages.place.Branch.{Branch}
use Rattle.ndx_index.specs.Bounds.{passes}
use Rattle.ndx_index.specs.LeafPlaces.{pair_at_place}
use Rattle.ndx_index.specs.PageStore.{page_in}
use Rattle.ndx_index.specs.IndexTree.{pairs_under}
use Rattle.ndx_index.proofs.BoundLaws.{passes_after}
use Rattle.ndx_index.proofs.TreeLists.{links_length}
use Rattle.ndx_index.proofs.Searching.{Turns, GoesDown, first_of, edge_of, at_level, at_leaf, found_at, found_past, down_first_alone, down_first_beside}
use Rattle.ndx_index.proofs.pages.search.first_place.Goals.{After-link_count, Else-at-pair_count, then-link_count-at, else-link_count-at}
use Rattle.ndx_index.proofs.pages.search.first_place.Goals as goal

-- the way to an inner page
way : (c : After-link_count) → GoesDown (find (passes c.args.bound.now)) first_of c.args.store.now.pages c.args.level c.args.page (record { level = suc (c.levels.here.level - 1); page = c.levels.here.page }) c.levels.next
way c =
    let e : c.levels.here.level ≡ suc (c.levels.here.level - 1) = omega (arith, c.levels-test.true) in
    at_level (find (passes c.args.bound.now)) first_of c.args.store.now.pages c.args.level c.args.page c.levels.here c.levels.next (suc (c.levels.here.level - 1)) e c.levels.invariant

turn : (c : After-link_count) → Turns (passes c.args.bound.now) (page_in c.args.store.now.pages c.levels.here.page).pairs c.place-at.result
turn c = record { within = c.place-at.ensures.within; below = c.place-at.ensures.below; above = c.place-at.ensures.above }

-- a place among the keys of an inner page is one of its links
links : (c : After-link_count) → c.place-at.result < length (page_in c.args.store.now.pages c.levels.here.page).links
links c = omega (arith, c.place-at.ensures.within, links_length (c.levels.here.level - 1) c.args.store.now.pages c.levels.here.page (way c).tree)

pub overflow_add-at : goal.overflow_add-at
overflow_add-at c = omega (arith, c.place-at.ensures.within, c.link_count.ensures.count, c.link_count.ensures.bounded, links_length (c.levels.here.level - 1) c.args.store.now.pages c.levels.here.page (way c).tree)

pub link-page-requires-in-levels-clause-place : goal.link-page-requires-in-levels-clause-place
link-page-requires-in-levels-clause-place c = links ((goal.at.link-page-requires-in-levels-clause-place c).After-link_count)

pub levels-preserved : goal.levels-preserved
levels-preserved c =
    let a = c.args.store.now.pages in
    let d = c.levels.here.level - 1 in
    let p = c.levels.here.page in
    let i = c.place-at.result in
    let before = (goal.at.levels-preserved c).After-link_count in
    let t = passes c.args.bound.now in
    elim c.if-link_count-at.branch [
      | then-link_count-at w ↦
          let next : Option Branch = Some (record { level = d; page = get_or (page_in a p).links (i + 1) 0 }) in
          let is : c.if-link_count-at.next ≡ next = w.next-is ∙ ap (λ q. Some (record { level = d; page = q })) w.link-page.ensures.link in
          let goes = down_first_beside t (passes_after c.args.bound.now) a c.args.level c.args.page d p i c.levels.next (way before) (turn before) (omega (arith, w.if-link_count-at.true, c.link_count.ensures.count)) in
          subst (λ q. GoesDown (find t) first_of a c.args.level c.args.page (record { level = d; page = q }) c.if-link_count-at.next) (sym c.link-page-in-levels.ensures.link)
          (subst (λ n. GoesDown (find t) first_of a c.args.level c.args.page (record { level = d; page = get_or (page_in a p).links i 0 }) n) (sym is) goes)
      | else-link_count-at w ↦
          let goes = down_first_alone t (passes_after c.args.bound.now) a c.args.level c.args.page d p i c.levels.next (way before) (turn before) (omega (arith, w.if-link_count-at.false, c.link_count.ensures.count)) in
          subst (λ q. GoesDown (find t) first_of a c.args.level c.args.page (record { level = d; page = q }) c.if-link_count-at.next) (sym c.link-page-in-levels.ensures.link)
          (subst (λ n. GoesDown (find t) first_of a c.args.level c.args.page (record { level = d; page = get_or (page_in a p).links i 0 }) n) (sym w.next-is) goes)
    ]

pub returns-then-at-pair_count-clause-pair : goal.returns-then-at-pair_count-clause-pair
returns-then-at-pair_count-clause-pair c =
    let a = c.args.store.now.pages in
    let here = c.levels.here in
    let t = passes c.args.bound.now in
    let turn : Turns t (page_in a here.page).pairs c.place-at-2.result = record { within = c.place-at-2.ensures.within; below = c.place-at-2.ensures.below; above = c.place-at-2.ensures.above } in
    let found = found_at t (page_in a here.page).pairs c.place-at-2.result turn (omega (arith, c.if-at-pair_count.true, c.pair_count.ensures.count)) in
    sym (at_leaf (find t) first_of a c.args.level c.args.page here c.levels.next _ c.levels.invariant (omega (arith, c.levels-test.false)) found)

-- where the leaf has none, the pair is the first of the branch beside it
beside : (c : Else-at-pair_count) → find (passes c.args.bound.now) (pairs_under c.args.level c.args.store.now.pages c.args.page) ≡ edge_of first_of c.args.store.now.pages c.levels.next
beside c =
    let a = c.args.store.now.pages in
    let here = c.levels.here in
    let t = passes c.args.bound.now in
    let turn : Turns t (page_in a here.page).pairs c.place-at-2.result = record { within = c.place-at-2.ensures.within; below = c.place-at-2.ensures.below; above = c.place-at-2.ensures.above } in
    let none = found_past t (page_in a here.page).pairs c.place-at-2.result turn (omega (arith, c.if-at-pair_count.false, c.pair_count.ensures.count)) in
    at_leaf (find t) first_of a c.args.level c.args.page here c.levels.next _ c.levels.invariant (omega (arith, c.levels-test.false)) none

pub returns-in_err-branch-clause-pair : goal.returns-in_err-branch-clause-pair
returns-in_err-branch-clause-pair c =
    let before = (goal.at.returns-in_err-branch-clause-pair c).Else-at-pair_count in
    let none : c.levels.next ≡ None = c.in_err-branch.was in
    ap (option_map (pair_at_place c.args.store.now.pages)) c.from_residual.ensures ∙ sym (beside before ∙ ap (edge_of first_of c.args.store.now.pages) none)

pub returns-clause-pair : goal.returns-clause-pair
returns-clause-pair c =
    let before = (goal.at.returns-clause-pair c).Else-at-pair_count in
    let some : c.levels.next ≡ Some c.in_ok-branch.branch = c.in_ok-branch.was in
    sym (beside before ∙ ap (edge_of first_of c.args.store.now.pages) some ∙ c.first_leaf-page.ensures.pair)
