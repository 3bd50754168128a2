-- An ordered index over a tree of pages.
use Rattle.std.specs.Prelude.{◌≡◌, ℕ, ◌+◌, ◌^◌, ◌<◌, ◌≤◌, List, length, nat_lt, if◌then◌else◌}
use Rattle.ndx_index.specs.declared.index.OrderedIndex.TheInside.{Inside}
use Rattle.ndx_index.specs.declared.pages.free.FreeList.{FreeList}
use Rattle.ndx_index.specs.declared.pages.root.Root.{Root}
use Rattle.ndx_index.specs.Index.{Index, HaveLength}
use Rattle.ndx_index.specs.IndexTree.{pairs_in, uses_in, uses_free, IsTreeIn, IsFreeList}
use Rattle.ndx_index.specs.Order.{AreInOrder}
use Rattle.ndx_index.specs.PageStore.{Page}

-- room for an insert: a free page for each level, and one more for a new top
abbrev pub index_view : Inside → Index
index_view x = record { key_len = x.store.key_len; pairs = pairs_in x.store.pages x.root; spare = if nat_lt x.root.levels x.free.count then 1 else 0 }

-- What every ordered index keeps: a tree of pairs in order, whose keys have this length, and free pages. Each page is in the tree
-- or free, and once: none is used twice, and none is lost.
pub record HoldsIndex (key_len : ℕ) (a : List Page) (f : FreeList) (t : Root) : Type 0 where
  pub tree : IsTreeIn a t
  pub order : AreInOrder (pairs_in a t)
  pub keys : HaveLength key_len (pairs_in a t)
  pub list : IsFreeList a f
  pub apart : (r : ℕ) → uses_in a t r + uses_free a f r ≤ 1
  pub once : (r : ℕ) → r < length a → uses_in a t r + uses_free a f r ≡ 1
  pub deep : t.levels ≤ length a
  pub count_bounded : length a < 2 ^ 32

abbrev pub IsPaged : Inside → Type 0
IsPaged x = HoldsIndex x.store.key_len x.store.pages x.free x.root
