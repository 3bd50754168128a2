use Rattle.std.proofs.Common.{◌≡◌, suc, ◌-◌, ◌<◌, get_or, length, Some, None, Option, sym, subst, ap, ◌∙◌, arith}
use Rattle.std.specs.Option.{option_map}
use Rattle.ndx_index.specs.declared.pages.place.Branch.{Branch}
use Rattle.ndx_index.specs.Bounds.{passes}
use Rattle.ndx_index.specs.LeafPlaces.{last_in, pair_at_place}
use Rattle.ndx_index.specs.PageStore.{page_in}
use Rattle.ndx_index.specs.Slots.{slot_at}
use Rattle.ndx_index.specs.IndexTree.{pairs_under}
use Rattle.ndx_index.proofs.BoundLaws.{passes_after}
use Rattle.ndx_index.proofs.TreeLists.{links_length}
use Rattle.ndx_index.proofs.Searching.{Turns, GoesDown, last_failing_of, edge_of, at_level, at_leaf, back_at, back_past, down_last_alone, down_last_beside}
use Rattle.ndx_index.proofs.pages.search.last_place.Goals.{After-place-at, Else-at-gt0-2, then-at-gt0, else-at-gt0}
use Rattle.ndx_index.proofs.pages.search.last_place.Goals as goal

-- the way to an inner page
way : (c : After-place-at) → GoesDown (last_failing_of (passes c.args.bound.now)) last_in c.args.store.now.pages c.args.level c.args.page (record { level = suc (c.levels.here.level - 1); page = c.levels.here.page }) c.levels.previous
way c =
    let e : c.levels.here.level ≡ suc (c.levels.here.level - 1) = omega (arith, c.levels-test.true) in
    at_level (last_failing_of (passes c.args.bound.now)) last_in c.args.store.now.pages c.args.level c.args.page c.levels.here c.levels.previous (suc (c.levels.here.level - 1)) e c.levels.invariant

turn : (c : After-place-at) → Turns (passes c.args.bound.now) (page_in c.args.store.now.pages c.levels.here.page).pairs c.place-at.result
turn c = record { within = c.place-at.ensures.within; below = c.place-at.ensures.below; above = c.place-at.ensures.above }

-- a place among the keys of an inner page is one of its links
links : (c : After-place-at) → c.place-at.result < length (page_in c.args.store.now.pages c.levels.here.page).links
links c = omega (arith, c.place-at.ensures.within, links_length (c.levels.here.level - 1) c.args.store.now.pages c.levels.here.page (way c).tree)

pub link-page-requires-clause-place : goal.link-page-requires-clause-place
link-page-requires-clause-place c = omega (arith, links ((goal.at.link-page-requires-clause-place c).After-place-at))

pub link-page-requires-in-levels-clause-place : goal.link-page-requires-in-levels-clause-place
link-page-requires-in-levels-clause-place c = links ((goal.at.link-page-requires-in-levels-clause-place c).After-place-at)

pub levels-preserved : goal.levels-preserved
levels-preserved c =
    let a = c.args.store.now.pages in
    let d = c.levels.here.level - 1 in
    let p = c.levels.here.page in
    let i = c.place-at.result in
    let before = (goal.at.levels-preserved c).After-place-at in
    let t = passes c.args.bound.now in
    elim c.if-at-gt0.branch [
      | then-at-gt0 w ↦
          let previous : Option Branch = Some (record { level = d; page = get_or (page_in a p).links (i - 1) 0 }) in
          let is : c.if-at-gt0.previous ≡ previous = w.previous-is ∙ ap (λ q. Some (record { level = d; page = q })) w.link-page.ensures.link in
          let goes = down_last_beside t (passes_after c.args.bound.now) a c.args.level c.args.page d p i c.levels.previous (way before) (turn before) w.if-at-gt0.true in
          subst (λ q. GoesDown (last_failing_of t) last_in a c.args.level c.args.page (record { level = d; page = q }) c.if-at-gt0.previous) (sym c.link-page-in-levels.ensures.link)
          (subst (λ n. GoesDown (last_failing_of t) last_in a c.args.level c.args.page (record { level = d; page = get_or (page_in a p).links i 0 }) n) (sym is) goes)
      | else-at-gt0 w ↦
          let goes = down_last_alone t (passes_after c.args.bound.now) a c.args.level c.args.page d p i c.levels.previous (way before) (turn before) (omega (arith, w.if-at-gt0.false)) in
          subst (λ q. GoesDown (last_failing_of t) last_in a c.args.level c.args.page (record { level = d; page = q }) c.if-at-gt0.previous) (sym c.link-page-in-levels.ensures.link)
          (subst (λ n. GoesDown (last_failing_of t) last_in a c.args.level c.args.page (record { level = d; page = get_or (page_in a p).links i 0 }) n) (sym w.previous-is) goes)
    ]

pub returns-then-at-gt0-2-clause-pair : goal.returns-then-at-gt0-2-clause-pair
returns-then-at-gt0-2-clause-pair c =
    let a = c.args.store.now.pages in
    let here = c.levels.here in
    let t = passes c.args.bound.now in
    let turn : Turns t (page_in a here.page).pairs c.place-at-2.result = record { within = c.place-at-2.ensures.within; below = c.place-at-2.ensures.below; above = c.place-at-2.ensures.above } in
    let found = back_at t (page_in a here.page).pairs c.place-at-2.result turn c.if-at-gt0-2.true in
    sym (at_leaf (last_failing_of t) last_in a c.args.level c.args.page here c.levels.previous _ c.levels.invariant (omega (arith, c.levels-test.false)) found)

-- where the leaf has none, the pair is the last of the branch beside it
beside : (c : Else-at-gt0-2) → last_failing_of (passes c.args.bound.now) (pairs_under c.args.level c.args.store.now.pages c.args.page) ≡ edge_of last_in c.args.store.now.pages c.levels.previous
beside c =
    let a = c.args.store.now.pages in
    let here = c.levels.here in
    let t = passes c.args.bound.now in
    let turn : Turns t (page_in a here.page).pairs c.place-at-2.result = record { within = c.place-at-2.ensures.within; below = c.place-at-2.ensures.below; above = c.place-at-2.ensures.above } in
    let zero : c.place-at-2.result ≡ 0 = omega (arith, c.if-at-gt0-2.false) in
    let none = back_past t (page_in a here.page).pairs (subst (λ i. Turns t (page_in a here.page).pairs i) zero turn) in
    at_leaf (last_failing_of t) last_in a c.args.level c.args.page here c.levels.previous _ c.levels.invariant (omega (arith, c.levels-test.false)) none

pub returns-in_err-branch-clause-pair : goal.returns-in_err-branch-clause-pair
returns-in_err-branch-clause-pair c =
    let before = (goal.at.returns-in_err-branch-clause-pair c).Else-at-gt0-2 in
    let none : c.levels.previous ≡ None = c.in_err-branch.was in
    ap (option_map (pair_at_place c.args.store.now.pages)) c.from_residual.ensures ∙ sym (beside before ∙ ap (edge_of last_in c.args.store.now.pages) none)

pub returns-clause-pair : goal.returns-clause-pair
returns-clause-pair c =
    let a = c.args.store.now.pages in
    let ps = (page_in a c.last_leaf-page.result).pairs in
    let before = (goal.at.returns-clause-pair c).Else-at-gt0-2 in
    let some : c.levels.previous ≡ Some c.in_ok-branch.branch = c.in_ok-branch.was in
    sym (beside before ∙ ap (edge_of last_in a) some ∙ c.last_leaf-page.ensures.pair ∙ ap (λ n. Some (slot_at ps (n - 1))) (sym c.pair_count.ensures.count))
