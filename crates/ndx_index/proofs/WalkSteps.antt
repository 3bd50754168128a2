-- One step of the walk over pages.
use Rattle.std.proofs.Common.{◌≡◌, ℕ, suc, ◌+◌, ◌*◌, ◌/◌, ◌<◌, ◌≤◌, Bool, not, List, [], ◌∷◌, ◌++◌, length, count_by, reverse, Result, Ok, Err, refl, ap, sym, ◌∙◌, subst, append_assoc, length-append, arith}
use Rattle.std.specs.Prelude.{OnOk}
use Rattle.std.proofs.Math.Nat.{mul-le-mul_right}
use Rattle.std.proofs.lemmas.List.{length-reverse, reverse-append}
use Rattle.std.proofs.lemmas.List.Sums.{count_by-le-length}
use Rattle.ndx_index.specs.declared.format.TheConstants.{PAGE}
use Rattle.ndx_index.specs.declared.fault.NdxFault.{NdxFault}
use Rattle.ndx_index.specs.declared.read.page.PageLayout.{PageLayout}
use Rattle.ndx_index.specs.declared.read.view.PageAt.{PageAt}
use Rattle.ndx_index.specs.declared.read.view.PageView.{PageView}
use Rattle.ndx_index.specs.declared.read.view.PageView.TheVariants.{Leaf, Inner, Broken}
use Rattle.ndx_index.specs.Pages.{Node, child, children}
use Rattle.ndx_index.specs.Shallow.{met_count, AreShallow, IsWalk}
use Rattle.ndx_index.specs.Walks.{at_depth, node_seen, pages_under, work_left, UnmetAfter}
use Rattle.ndx_index.proofs.PageLemmas.{length_children}

pub shallow_append : (most : ℕ) (xs ys : List PageAt) → AreShallow most xs → AreShallow most ys → AreShallow most (xs ++ ys)
shallow_append most [] ys h k = k
shallow_append most (x ∷ xs) ys h k = (h.0, shallow_append most xs ys h.1 k)

shallow_front : (most : ℕ) (xs ys : List PageAt) → AreShallow most (xs ++ ys) → AreShallow most xs
shallow_front most [] ys h = tt
shallow_front most (x ∷ xs) ys h = (h.0, shallow_front most xs ys h.1)

shallow_last : (most : ℕ) (xs : List PageAt) (y : PageAt) → AreShallow most (xs ++ y ∷ []) → y.depth ≤ most
shallow_last most [] y h = h.0
shallow_last most (x ∷ xs) y h = shallow_last most xs y h.1

shallow_more : (most n : ℕ) (xs : List PageAt) → most ≤ n → AreShallow most xs → AreShallow n xs
shallow_more most n [] le h = tt
shallow_more most n (x ∷ xs) le h = (omega (arith, h.0), shallow_more most n xs le h.1)

at_depth-append : (depth : ℕ) (ps qs : List ℕ) → at_depth depth (ps ++ qs) ≡ at_depth depth ps ++ at_depth depth qs
at_depth-append depth [] qs = refl
at_depth-append depth (p ∷ ps) qs = ap (λ (xs : List PageAt). record { page = p; depth = depth } ∷ xs) (at_depth-append depth ps qs)

-- the last of the first children goes to the end
pub child_less : (depth : ℕ) (s : PageLayout) (page : List ℕ) (old : List PageAt) (i : ℕ)
    → (old ++ record { page = child s page i; depth = depth } ∷ []) ++ reverse (at_depth depth (children s page i)) ≡ old ++ reverse (at_depth depth (children s page (suc i)))
child_less depth s page old i =
    let x : PageAt = record { page = child s page i; depth = depth } in
    let before : List PageAt = at_depth depth (children s page i) in
    append_assoc old (x ∷ []) (reverse before)
    ∙ ap (λ xs. old ++ xs) (sym (ap reverse (at_depth-append depth (children s page i) (child s page i ∷ [])) ∙ reverse-append before (x ∷ [])))

-- a page that was met may stand above others
pub walk_next : (s : PageLayout) (bytes : List ℕ) (flags flags' : List Bool) (pending pending' : List PageAt) (node : Result Node NdxFault) (depth : ℕ)
    → IsWalk s bytes flags pending → length flags' ≡ length flags → UnmetAfter node (count_by not flags) (count_by not flags') → depth ≤ met_count flags
    → ((most : ℕ) → OnOk node (depth + 1 ≤ most) → AreShallow most pending → AreShallow most pending') → IsWalk s bytes flags' pending'
walk_next s bytes flags flags' pending pending' (Ok node) depth walk same unmet le pushed =
    let some : count_by not flags ≤ length flags = count_by-le-length not flags in
    record {
      laid_out = walk.laid_out;
      whole = same ∙ walk.whole;
      shallow = pushed (met_count flags') (omega arith) (shallow_more (met_count flags) (met_count flags') pending (omega arith) walk.shallow);
    }
walk_next s bytes flags flags' pending pending' (Err fault) depth walk same unmet le pushed = record {
  laid_out = walk.laid_out;
  whole = same ∙ walk.whole;
  shallow = pushed (met_count flags') tt (shallow_more (met_count flags) (met_count flags') pending (omega arith) walk.shallow);
}

-- the next page is taken off
pub walk_popped : (s : PageLayout) (bytes : List ℕ) (flags : List Bool) (old rest : List PageAt) (at : PageAt) → old ≡ rest ++ at ∷ [] → IsWalk s bytes flags old → IsWalk s bytes flags rest × (at.depth ≤ met_count flags)
walk_popped s bytes flags old rest at e walk =
    let shallow : AreShallow (met_count flags) (rest ++ at ∷ []) = subst (AreShallow (met_count flags)) e walk.shallow in
    (record { laid_out = walk.laid_out; whole = walk.whole; shallow = shallow_front (met_count flags) rest (at ∷ []) shallow }, shallow_last (met_count flags) rest at shallow)

-- and it was not too deep
pub shallow_step : (s : PageLayout) (bytes : List ℕ) (flags : List Bool) (pending : List PageAt) (depth : ℕ) → IsWalk s bytes flags pending → depth ≤ met_count flags → depth ≤ length bytes / PAGE
shallow_step s bytes flags pending depth walk le = omega (arith, walk.whole)

-- a page has few children
few_under : (view : PageView) → length (pages_under (node_seen view)) < 2 * PAGE
few_under (Leaf page) = omega arith
few_under (Inner page) =
    let many : 1 * page.count ≤ page.layout.size * page.count = mul-le-mul_right page.count (omega (arith, page.laid_out.key_fits)) in
    omega (arith, length_children page.layout page.bytes.now page.count, many, page.fits, page.laid_out.size_fits)
few_under (Broken fault) = omega arith

length_at : (depth : ℕ) (ps : List ℕ) → length (at_depth depth ps) ≡ length ps
length_at depth [] = refl
length_at depth (p ∷ ps) = ap (λ (n : ℕ). suc n) (length_at depth ps)

less_by : (node : Result Node NdxFault) (before after others waiting : ℕ) → waiting ≡ others + length (pages_under node)
    → UnmetAfter node before after → length (pages_under node) < 2 * PAGE → 2 * PAGE * after + waiting < 2 * PAGE * before + others + 1
less_by (Ok node) before after others waiting is unmet few = omega arith
less_by (Err fault) before after others waiting is unmet few = omega arith

-- there is less to do than with the page
pub less_work : (flags flags' : List Bool) (pending pending' : List PageAt) (view : PageView) (depth : ℕ)
    → UnmetAfter (node_seen view) (count_by not flags) (count_by not flags') → pending' ≡ pending ++ reverse (at_depth depth (pages_under (node_seen view)))
    → work_left flags' pending' < work_left flags pending + 1
less_work flags flags' pending pending' view depth unmet pushed =
    let node : Result Node NdxFault = node_seen view in
    let after : length pending' ≡ length pending + length (pages_under node) =
    ap length pushed ∙ length-append pending (reverse (at_depth depth (pages_under node)))
    ∙ ap (λ (n : ℕ). length pending + n) (length-reverse (at_depth depth (pages_under node)) ∙ length_at depth (pages_under node)) in
    less_by node (count_by not flags) (count_by not flags') (length pending) (length pending') after unmet (few_under view)
