-- A walk over the pages of an index file, depth first, whatever its bytes are.
use Rattle.std.specs.Prelude.{◌≡◌, ℕ, ◌+◌, ◌*◌, ◌/◌, ◌<◌, ◌≤◌, Bool, true, false, not, List, [], ◌∷◌, ◌++◌, length, map, replicate, count_by, slice_index_or, Result, Ok, Err}
use Rattle.ndx_index.specs.declared.fault.NdxFault.{NdxFault}
use Rattle.ndx_index.specs.declared.format.TheConstants.{PAGE}
use Rattle.ndx_index.specs.declared.read.page.PageLayout.{PageLayout}
use Rattle.ndx_index.specs.declared.read.view.PageAt.{PageAt}
use Rattle.ndx_index.specs.declared.read.view.PageView.{PageView}
use Rattle.ndx_index.specs.declared.read.view.PageView.TheVariants.{Leaf, Inner, Broken}
use Rattle.ndx_index.specs.NdxTree.{is_visited, look}
use Rattle.ndx_index.specs.Pages.{Node, leaf, inner, children, leaf_pairs}

-- what a view says that a page holds, or which rule it breaks
abbrev pub node_seen : PageView → Result Node NdxFault
node_seen (Leaf page) = Ok (leaf (leaf_pairs page.layout page.bytes.now page.count))
node_seen (Inner page) = Ok (inner (children page.layout page.bytes.now page.count))
node_seen (Broken fault) = Err fault

-- the keys of a page that breaks no rule have this length
abbrev pub HasKeyLength : ℕ → PageView → Type 0
HasKeyLength key_len (Leaf page) = key_len ≡ page.layout.key_len
HasKeyLength key_len (Inner page) = key_len ≡ page.layout.key_len
HasKeyLength key_len (Broken fault) = Unit {0}

-- the pages that a walk has met, with one more if the page holds something
abbrev pub met_with : List ℕ → ℕ → Result Node NdxFault → List ℕ
met_with met p (Ok node) = p ∷ met
met_with met p (Err fault) = met

-- the pages under a page: the children of an inner page alone
abbrev pub pages_under : Result Node NdxFault → List ℕ
pages_under (Ok (leaf pairs)) = []
pages_under (Ok (inner children)) = children
pages_under (Err fault) = []

-- pages at a depth
abbrev pub at_depth : ℕ → List ℕ → List PageAt
at_depth depth pages = map (λ p. record { page = p; depth = depth }) pages

-- a walk over the pages of a file of any bytes: the file, which of its pages it met, and which it is to come to, the next one first
pub record Walk : Type 0 where
  pub bytes : List ℕ
  pub layout : PageLayout
  pub flags : List Bool
  pub pending : List PageAt

-- the walk from a root, before its first page
abbrev pub walk_from : List ℕ → PageLayout → ℕ → Walk
walk_from bytes layout root = record {
  bytes = bytes;
  layout = layout;
  flags = replicate (length bytes / PAGE) false;
  pending = record { page = root; depth = 0 } ∷ [];
}

-- the flags are those of the pages that were met
abbrev pub IsFlagged : List Bool → List ℕ → Type 0
IsFlagged flags met = (k : ℕ) → k < length flags → slice_index_or flags k true ≡ is_visited k met

-- A step of a walk: it comes to this page, which holds this, or breaks this rule; then the page is met, and those under it are the
-- next. No page stands deeper than the file has pages.
pub record IsStep (old : Walk) (at : PageAt) (node : Result Node NdxFault) (new : Walk) : Type 0 where
  pub rest : List PageAt
  pub next : old.pending ≡ at ∷ rest
  pub shallow : at.depth ≤ length old.bytes / PAGE
  pub holds : (met : List ℕ) → IsFlagged old.flags met → node ≡ look old.layout old.bytes met at.page
  pub met : (met : List ℕ) → IsFlagged old.flags met → IsFlagged new.flags (met_with met at.page node)
  pub pending : new.pending ≡ at_depth (at.depth + 1) (pages_under node) ++ rest
  pub same_file : new.bytes ≡ old.bytes
  pub same_layout : new.layout ≡ old.layout

-- how much is left to do: the pages that were not met, each with its children, and those that the walk is to come to
abbrev pub work_left : List Bool → List PageAt → ℕ
work_left flags pending = 2 * PAGE * count_by not flags + length pending

-- how much of a walk is left, which falls with each step
abbrev pub work_of : Walk → ℕ
work_of walk = work_left walk.flags walk.pending

-- how many pages were not met, before a page was looked at and then
abbrev pub UnmetAfter : Result Node NdxFault → ℕ → ℕ → Type 0
UnmetAfter (Ok node) before after = after + 1 ≡ before
UnmetAfter (Err fault) before after = after ≡ before
