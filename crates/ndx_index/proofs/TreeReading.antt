-- A loop over the walk that stops at the first page which breaks a rule: what it took, before the rest of the walk, is the whole walk.
use Rattle.std.proofs.Common.{◌≡◌, ℕ, ◌+◌, List, [], ◌∷◌, ◌++◌, map, Option, None, Result, Ok, Err, refl, ap, sym, ◌∙◌, subst, inl, inr, append_assoc, get_or, replicate, length, ◌/◌, true, false, arith}
use Rattle.std.proofs.lemmas.List.{append-nil, get_or-replicate, length-replicate}
use Rattle.ndx_index.specs.declared.format.TheConstants.{PAGE}
use Rattle.ndx_index.specs.declared.fault.BadIndex.{BadIndex}
use Rattle.ndx_index.specs.declared.fault.NdxFault.{NdxFault}
use Rattle.ndx_index.specs.declared.pair.Pair.{Pair}
use Rattle.ndx_index.specs.declared.read.page.PageLayout.{PageLayout}
use Rattle.ndx_index.specs.declared.read.view.PageAt.{PageAt}
use Rattle.ndx_index.specs.NdxTree.{BadPage, Visits, look, done, stops, visit_leaf, visit_inner}
use Rattle.ndx_index.specs.Pages.{Node, leaf, inner}
use Rattle.ndx_index.specs.Reading.{IsWalkFault, Refuses, Takes}
use Rattle.ndx_index.specs.Walks.{Walk, at_depth, walk_from, IsFlagged, IsStep}

-- the numbers of pages
abbrev pub numbers_of : List PageAt → List ℕ
numbers_of pages = map (λ at. at.page) pages

numbers_under : (depth : ℕ) (ps : List ℕ) (rest : List PageAt) → numbers_of (at_depth depth ps ++ rest) ≡ ps ++ numbers_of rest
numbers_under depth [] rest = refl
numbers_under depth (p ∷ ps) rest = ap (λ (ns : List ℕ). p ∷ ns) (numbers_under depth ps rest)

module _ (s : PageLayout) (bytes : List ℕ) (root : ℕ) where
  -- what the walk does from here completes what it did
  abbrev pub Completes : List ℕ → List ℕ → List ℕ → List Pair → Type 0
  Completes seen before pending so_far =
      (pages : List ℕ) (pairs : List Pair) (r : Option BadPage) → Visits s bytes seen pending pages pairs r → Visits s bytes [] (root ∷ []) (before ++ pages) (so_far ++ pairs) r

  pub record State (walk : Walk) (so_far : List Pair) : Type 0 where
    pub seen : List ℕ
    pub before : List ℕ
    pub file : walk.bytes ≡ bytes
    pub layout : walk.layout ≡ s
    pub flagged : IsFlagged walk.flags seen
    pub completes : Completes seen before (numbers_of walk.pending) so_far

  -- before the first page
  pub state_init : (walk : Walk) (so_far : List Pair) → walk ≡ walk_from bytes s root → so_far ≡ [] → State walk so_far
  state_init walk so_far is none = rw (is, none) record {
    seen = [];
    before = [];
    file = refl;
    layout = refl;
    flagged = λ k lt. get_or-replicate (length bytes / PAGE) k false true (omega (arith, length-replicate (length bytes / PAGE) false, lt));
    completes = λ pages pairs r v. v;
  }

  module _ (old new : Walk) (at : PageAt) (node : Result Node NdxFault) (so_far : List Pair) (state : State old so_far) (step : IsStep old at node new) where
    looks : node ≡ look s bytes state.seen at.page
    looks = subst (λ (l : PageLayout). node ≡ look l bytes state.seen at.page) state.layout
        (subst (λ (b : List ℕ). node ≡ look old.layout b state.seen at.page) state.file (step.holds state.seen state.flagged))

    -- the page that it came to is the next
    goes_on : (pages : List ℕ) (pairs : List Pair) (r : Option BadPage) → Visits s bytes state.seen (at.page ∷ numbers_of step.rest) pages pairs r → Visits s bytes [] (root ∷ []) (state.before ++ pages) (so_far ++ pairs) r
    goes_on pages pairs r v = state.completes pages pairs r (subst (λ xs. Visits s bytes state.seen (numbers_of xs) pages pairs r) (sym step.next) v)

    -- the page is broken
    pub state_stops : (bad : BadIndex) → Refuses at.page node bad → IsWalkFault s bytes root bad
    state_stops bad (inl none) = inl none
    state_stops bad (inr broken) = inr (at.page, broken.0, (state.before ++ [], so_far ++ [], goes_on [] [] _ (stops (sym looks ∙ broken.1))))

  pub state_goes : (old new : Walk) (at : PageAt) (node : Result Node NdxFault) (so_far so_far' : List Pair) (state : State old so_far) (step : IsStep old at node new) → Takes node so_far so_far' → State new so_far'
  state_goes old new at (Ok (leaf own)) so_far so_far' state step takes = record {
    seen = at.page ∷ state.seen;
    before = state.before ++ at.page ∷ [];
    file = step.same_file ∙ state.file;
    layout = step.same_layout ∙ state.layout;
    flagged = step.met state.seen state.flagged;
    completes = λ pages pairs r v.
        rw (takes, append_assoc state.before (at.page ∷ []) pages, append_assoc so_far own pairs)
        (goes_on old new at _ so_far state step (at.page ∷ pages) (own ++ pairs) r
        (visit_leaf (sym (looks old new at _ so_far state step)) (subst (λ xs. Visits s bytes (at.page ∷ state.seen) (numbers_of xs) pages pairs r) step.pending v)));
  }
  state_goes old new at (Ok (inner children)) so_far so_far' state step takes = record {
    seen = at.page ∷ state.seen;
    before = state.before ++ at.page ∷ [];
    file = step.same_file ∙ state.file;
    layout = step.same_layout ∙ state.layout;
    flagged = step.met state.seen state.flagged;
    completes = λ pages pairs r v.
        let pending_is : numbers_of new.pending ≡ children ++ numbers_of step.rest = ap numbers_of step.pending ∙ numbers_under (at.depth + 1) children step.rest in
        rw (takes, append_assoc state.before (at.page ∷ []) pages)
        (goes_on old new at _ so_far state step (at.page ∷ pages) pairs r
        (visit_inner (sym (looks old new at _ so_far state step)) (subst (λ xs. Visits s bytes (at.page ∷ state.seen) xs pages pairs r) pending_is v)));
  }
  state_goes old new at (Err e) so_far so_far' state step takes = absurd takes

  -- the walk is over
  pub state_done : (walk : Walk) (so_far : List Pair) → State walk so_far → walk.pending ≡ [] → (pages : List ℕ) × Visits s bytes [] (root ∷ []) pages so_far None
  state_done walk so_far state none =
      (state.before ++ [], subst (λ ps. Visits s bytes [] (root ∷ []) (state.before ++ []) ps None) (append-nil so_far) (state.completes [] [] None (subst (λ xs. Visits s bytes state.seen (numbers_of xs) [] [] None) (sym none) done)))
