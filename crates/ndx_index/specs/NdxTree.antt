-- The tree of an index file, and how it is walked.
use Rattle.std.specs.Prelude.{◌≡◌, ℕ, Bool, true, nat_eq, List, [], ◌∷◌, ◌++◌, Option, Some, None, Result, Ok, Err, if◌then◌else◌}
use Rattle.std.specs.List.{list_any, IsDistinct}
use Rattle.ndx_index.specs.declared.pair.Pair.{Pair}
use Rattle.ndx_index.specs.declared.fault.NdxFault.{NdxFault}
use Rattle.ndx_index.specs.declared.fault.NdxFault.TheVariants.{PageOutside, PageTwice}
use Rattle.ndx_index.specs.declared.read.page.PageLayout.{PageLayout}
use Rattle.ndx_index.specs.Pages.{Node, leaf, inner, node_of, page_of, is_page}

-- the page is among these
abbrev pub is_visited : ℕ → List ℕ → Bool
is_visited p visited = list_any (nat_eq p) visited

-- page p holds this node
pub record Holds (s : PageLayout) (bytes : List ℕ) (p : ℕ) (node : Node) : Type 0 where
  pub whole : is_page bytes p ≡ true
  pub keeps : node_of s (page_of bytes p) ≡ Ok node

-- Trees side by side, by their roots: all their pages, each before those below it, and all their pairs. A leaf
-- has its own pairs, and an inner page those of its children, the last one's included.
pub data Trees (s : PageLayout) (bytes : List ℕ) : List ℕ → List ℕ → List Pair → Type 0 where
  none : Trees s bytes [] [] []
  at_leaf : {p : ℕ} {rest pages : List ℕ} {own pairs : List Pair} → Holds s bytes p (leaf own)
      → Trees s bytes rest pages pairs → Trees s bytes (p ∷ rest) (p ∷ pages) (own ++ pairs)
  at_inner : {p : ℕ} {children below rest pages : List ℕ} {own pairs : List Pair} → Holds s bytes p (inner children)
      → Trees s bytes children below own → Trees s bytes rest pages pairs → Trees s bytes (p ∷ rest) (p ∷ (below ++ pages)) (own ++ pairs)

-- the tree under page p has these pages, all different, and these pairs
pub record IsFileTree (s : PageLayout) (bytes : List ℕ) (p : ℕ) (pages : List ℕ) (pairs : List Pair) : Type 0 where
  pub tree : Trees s bytes (p ∷ []) pages pairs
  pub apart : IsDistinct nat_eq pages

-- what page p holds, or the first rule that it breaks where these pages were visited before
abbrev pub look : PageLayout → List ℕ → List ℕ → ℕ → Result Node NdxFault
look s bytes visited p =
    if is_page bytes p then (if is_visited p visited then Err PageTwice else node_of s (page_of bytes p)) else Err PageOutside

-- a page that breaks a rule
pub record BadPage : Type 0 where
  pub page : ℕ
  pub why : NdxFault

-- A walk, depth first: which pages were visited before, which are still to be visited, and then the pages that are
-- visited up to the first that breaks a rule, their pairs, and that page with the rule.
pub data Visits (s : PageLayout) (bytes : List ℕ) : List ℕ → List ℕ → List ℕ → List Pair → Option BadPage → Type 0 where
  done : {visited : List ℕ} → Visits s bytes visited [] [] [] None
  stops : {visited pending : List ℕ} {p : ℕ} {e : NdxFault} → look s bytes visited p ≡ Err e → Visits s bytes visited (p ∷ pending) [] [] (Some (record { page = p; why = e }))
  visit_leaf : {visited pending pages : List ℕ} {p : ℕ} {own pairs : List Pair} {r : Option BadPage} → look s bytes visited p ≡ Ok (leaf own)
      → Visits s bytes (p ∷ visited) pending pages pairs r → Visits s bytes visited (p ∷ pending) (p ∷ pages) (own ++ pairs) r
  visit_inner : {visited pending children pages : List ℕ} {p : ℕ} {pairs : List Pair} {r : Option BadPage} → look s bytes visited p ≡ Ok (inner children)
      → Visits s bytes (p ∷ visited) (children ++ pending) pages pairs r → Visits s bytes visited (p ∷ pending) (p ∷ pages) pairs r
