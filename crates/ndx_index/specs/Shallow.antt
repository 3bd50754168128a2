-- Pages stand only under pages that were met.
use Rattle.std.specs.Prelude.{◌≡◌, ℕ, ◌-◌, ◌/◌, ◌≤◌, Bool, not, List, [], ◌∷◌, length, count_by}
use Rattle.ndx_index.specs.declared.format.TheConstants.{PAGE}
use Rattle.ndx_index.specs.declared.read.page.PageLayout.{PageLayout}
use Rattle.ndx_index.specs.declared.read.view.PageAt.{PageAt}
use Rattle.ndx_index.specs.Pages.{IsPageLayout}

-- so many pages at most stand above each of these
abbrev pub AreShallow : ℕ → List PageAt → Type 0
AreShallow most [] = Unit {0}
AreShallow most (x ∷ xs) = (x.depth ≤ most) × AreShallow most xs

-- the pages met, which are those that can stand above another
abbrev pub met_count : List Bool → ℕ
met_count flags = length flags - count_by not flags

-- a walk has a flag for each page of the file, and pages that it is to come to, the last one first
pub record IsWalk (layout : PageLayout) (bytes : List ℕ) (flags : List Bool) (pending : List PageAt) : Type 0 where
  pub laid_out : IsPageLayout layout
  pub whole : length flags ≡ length bytes / PAGE
  pub shallow : AreShallow (met_count flags) pending
