-- What changes a tree of pages and the free pages beside it.
use Rattle.std.specs.Prelude.{true, false, Option, None, Some, ◌++◌, Contains, slice_index, ◌≡◌, ℕ, zero, suc, ◌+◌, ◌^◌, ◌<◌, ◌≤◌, List, [], ◌∷◌, length, slice_set}
use Rattle.std.specs.List.{insert}
use Rattle.ndx_index.specs.Order.{before, with_pair, without_pair, AreInOrder}
use Rattle.ndx_index.specs.Slots.{slot_at}
use Rattle.ndx_index.specs.declared.pair.Pair.{Pair}
use Rattle.ndx_index.specs.declared.pages.free.FreeList.{FreeList}
use Rattle.ndx_index.specs.declared.pages.pair_pages.TheConstants.{PLACES}
use Rattle.ndx_index.specs.declared.pages.root.Root.{Root}
use Rattle.ndx_index.specs.PageStore.{Page, page_in, no_page}
use Rattle.ndx_index.specs.IndexTree.{pairs_under, here, uses, uses_free, uses_both, AllBefore, AllFrom, IsTree, IsFreeList, width, pairs_in, uses_in, IsTreeIn}

-- Pages a with free list f became b with free list g, and there are more free pages by new ones alone.
pub record MakesFree (a b : List Page) (f g : FreeList) : Type 0 where
  pub longer : length a ≤ length b
  pub count_bounded : length a < 2 ^ 32 → length b < 2 ^ 32
  pub more : f.count ≤ g.count
  pub list : IsFreeList b g
  pub apart : (r : ℕ) → uses_free b g r ≤ 1
  -- the old pages are free as before, and the others stay as they are
  pub same : (r : ℕ) → r < length a → uses_free b g r ≡ uses_free a f r
  pub frame : (r : ℕ) → r < length a → uses_free a f r ≡ 0 → page_in b r ≡ page_in a r
  pub new_free : (r : ℕ) → length a ≤ r → r < length b → uses_free b g r ≡ 1

-- ---- what each step of a tree says of the pages: a, f before and b, g after

-- The pages under p and the free ones are the same together, each once, and no others changed.
pub record Keeps (d : ℕ) (a b : List Page) (f g : FreeList) (p : ℕ) : Type 0 where
  pub tree : IsTree d b p
  pub list : IsFreeList b g
  pub uses_stay : (r : ℕ) → uses_both d b g p r ≡ uses_both d a f p r
  pub frame : (r : ℕ) → uses_both d a f p r ≡ 0 → page_in b r ≡ page_in a r
  pub same_length : length b ≡ length a

-- a tree and a free list that share no page, in order
pub record IsSubtreeApart (d : ℕ) (a : List Page) (f : FreeList) (p : ℕ) : Type 0 where
  pub tree : IsTree d a p
  pub order : AreInOrder (pairs_under d a p)
  pub list : IsFreeList a f
  pub apart : (r : ℕ) → uses_both d a f p r ≤ 1

-- ---- a full page is cut in two

-- c is a full page this many levels above the leaves, and q an empty page outside
pub record CanHalve (d : ℕ) (a : List Page) (c q : ℕ) : Type 0 where
  pub tree : IsTree d a c
  pub order : AreInOrder (pairs_under d a c)
  pub full : width d (page_in a c) ≡ PLACES
  pub there : q < length a
  pub empty : page_in a q ≡ no_page
  pub apart : (r : ℕ) → uses d a c r + here q r ≤ 1

-- c's upper half is under q, and m parts them
pub record Halves (d : ℕ) (a b : List Page) (c q : ℕ) (m : Pair) : Type 0 where
  pub pairs : pairs_under d b c ++ pairs_under d b q ≡ pairs_under d a c
  pub lower_tree : IsTree d b c
  pub upper_tree : IsTree d b q
  pub below : AllBefore m (pairs_under d b c)
  pub from : AllFrom m (pairs_under d b q)
  pub lower_room : width d (page_in b c) < PLACES
  pub upper_room : width d (page_in b q) < PLACES
  pub uses_stay : (r : ℕ) → uses d b c r + uses d b q r ≡ uses d a c r + here q r
  pub frame : (r : ℕ) → (r ≡ c → ⊥) → (r ≡ q → ⊥) → page_in b r ≡ page_in a r
  pub same_length : length b ≡ length a

-- the i-th child of p is full, and p has room
pub record CanSplit (d : ℕ) (a : List Page) (f : FreeList) (p i : ℕ) : Type 0 where
  pub whole : IsSubtreeApart (suc d) a f p
  pub some : 0 < f.count
  pub in_range : i < length (page_in a p).links
  pub room : length (page_in a p).links < PLACES
  pub full : width d (page_in a (slice_index (page_in a p).links i)) ≡ PLACES

-- the i-th child of p is cut in two, parted by the i-th key
pub record Splits (d : ℕ) (a b : List Page) (f g : FreeList) (p i : ℕ) : Type 0 where
  pub pairs : pairs_under (suc d) b p ≡ pairs_under (suc d) a p
  pub keeps : Keeps (suc d) a b f g p
  pub count : g.count + 1 ≡ f.count
  pub keys : (page_in b p).pairs ≡ insert (page_in a p).pairs i (slot_at (page_in b p).pairs i)
  pub links : length (page_in b p).links ≡ length (page_in a p).links + 1
  pub lower_room : width d (page_in b (slice_index (page_in b p).links i)) < PLACES
  pub upper_room : width d (page_in b (slice_index (page_in b p).links (i + 1))) < PLACES

-- ---- a pair is put in

-- i keys are not above the pair, and the next one is
abbrev pub Chosen : Pair → ℕ → List Pair → Type 0
Chosen p zero [] = Unit {0}
Chosen p (suc i) [] = ⊥
Chosen p zero (k ∷ ks) = before p k ≡ true
Chosen p (suc i) (k ∷ ks) = (before p k ≡ false) × Chosen p i ks

-- c is the i-th child of a page, and the pair belongs under it
pub record IsChildAt (p : Pair) (g : Page) (i c : ℕ) : Type 0 where
  pub in_range : i < length g.links
  pub is : slice_index g.links i ≡ c
  pub chosen : Chosen p i g.pairs

-- c is the child under which the pair belongs
pub record IsChildFor (p : Pair) (g : Page) (c : ℕ) : Type 0 where
  pub place : ℕ
  pub there : IsChildAt p g place c

-- page p has room, and there is a free page for each level below it
pub record CanInsert (d : ℕ) (a : List Page) (f : FreeList) (p : ℕ) (pair : Pair) : Type 0 where
  pub whole : IsSubtreeApart d a f p
  pub room : width d (page_in a p) < PLACES
  pub enough : d ≤ f.count
  pub absent : Contains (pairs_under d a p) pair → ⊥

-- a step has put the pair among those under p
pub record Inserts (d : ℕ) (a b : List Page) (f g : FreeList) (p : ℕ) (pair : Pair) : Type 0 where
  pub pairs : pairs_under d b p ≡ with_pair pair (pairs_under d a p)
  pub keeps : Keeps d a b f g p

-- the child for the pair has room, after it was split where it was full
pub record ChildWithRoom (d : ℕ) (a b : List Page) (f g : FreeList) (p : ℕ) (pair : Pair) (c : ℕ) : Type 0 where
  pub pairs : pairs_under (suc d) b p ≡ pairs_under (suc d) a p
  pub keeps : Keeps (suc d) a b f g p
  pub enough : f.count ≤ g.count + 1
  pub child : IsChildFor pair (page_in b p) c
  pub room : width d (page_in b c) < PLACES

-- ---- a pair is taken out

pub record CanRemove (d : ℕ) (a : List Page) (f : FreeList) (p : ℕ) (pair : Pair) : Type 0 where
  pub whole : IsSubtreeApart d a f p
  pub count_bounded : length a < 2 ^ 32
  pub held : Contains (pairs_under d a p) pair

-- a step has taken the pair out of those under p, and no fewer pages are free
pub record Removes (d : ℕ) (a b : List Page) (f g : FreeList) (p : ℕ) (pair : Pair) : Type 0 where
  pub pairs : pairs_under d b p ≡ without_pair pair (pairs_under d a p)
  pub keeps : Keeps d a b f g p
  pub more : f.count ≤ g.count

-- the pair was the only one; the pages under p but p itself are free
pub record Empties (d : ℕ) (a b : List Page) (f g : FreeList) (p : ℕ) (pair : Pair) : Type 0 where
  pub only : pairs_under d a p ≡ pair ∷ []
  pub there : p < length b
  pub list : IsFreeList b g
  pub uses_stay : (r : ℕ) → here p r + uses_free b g r ≡ uses_both d a f p r
  pub frame : (r : ℕ) → uses_both d a f p r ≡ 0 → page_in b r ≡ page_in a r
  pub more : f.count ≤ g.count
  pub same_length : length b ≡ length a

-- ---- a leaf that is there already comes after all others

-- q is a leaf outside the tree under p, and its pairs follow those of the tree
pub record CanAppend (d : ℕ) (a : List Page) (p q : ℕ) : Type 0 where
  pub tree : IsTree d a p
  pub apart : (r : ℕ) → uses d a p r ≤ 1
  pub leaf : IsTree 0 a q
  pub outside : uses d a p q ≡ 0
  pub order : AreInOrder (pairs_under d a p ++ (page_in a q).pairs)

-- the old pages but those under p stay, and new pages come after them
pub record Extends (d : ℕ) (a b : List Page) (p : ℕ) : Type 0 where
  pub longer : length a ≤ length b
  pub count_bounded : length a < 2 ^ 32 → length b < 2 ^ 32
  pub frame : (r : ℕ) → r < length a → uses d a p r ≡ 0 → page_in b r ≡ page_in a r

pub record AppendsUnder (d : ℕ) (a b : List Page) (p q : ℕ) : Type 0 where
  pub extends : Extends d a b p
  pub pairs : pairs_under d b p ≡ pairs_under d a p ++ (page_in a q).pairs
  pub tree : IsTree d b p
  -- the tree has the pages that it had, the leaf, and each new one once
  pub uses_stay : (r : ℕ) → r < length a → uses d b p r ≡ uses d a p r + here q r
  pub apart : (r : ℕ) → uses d b p r ≤ 1
  pub new_used : (r : ℕ) → length a ≤ r → r < length b → uses d b p r ≡ 1

-- no old page changes, and those under s are the leaf q and the new ones
pub record AppendsBeside (d : ℕ) (a b : List Page) (q s : ℕ) : Type 0 where
  pub longer : length a ≤ length b
  pub count_bounded : length a < 2 ^ 32 → length b < 2 ^ 32
  pub frame : (r : ℕ) → r < length a → page_in b r ≡ page_in a r
  pub pairs : pairs_under d b s ≡ (page_in a q).pairs
  pub tree : IsTree d b s
  pub old_used : (r : ℕ) → r < length a → uses d b s r ≡ here q r
  pub apart : (r : ℕ) → uses d b s r ≤ 1
  pub new_used : (r : ℕ) → length a ≤ r → r < length b → uses d b s r ≡ 1

-- the leaf q is under p, or alone under another page
abbrev pub Appends : ℕ → List Page → List Page → ℕ → ℕ → Option ℕ → Type 0
Appends d a b p q None = AppendsUnder d a b p q
Appends d a b p q (Some s) = AppendsBeside d a b q s

-- a link after the others of an inner page and a key before it, or alone on a new page
abbrev pub AddsLink : List Page → List Page → ℕ → ℕ → Pair → Option ℕ → Type 0
AddsLink a b p c k None = b ≡ slice_set a p (record { pairs = (page_in a p).pairs ++ k ∷ []; links = (page_in a p).links ++ c ∷ [] })
AddsLink a b p c k (Some q) = (q ≡ length a) × (length b < 2 ^ 32) × (b ≡ a ++ record { pairs = []; links = c ∷ [] } ∷ [])

-- a new page over the top of a tree and a page beside it, parted by a key
pub record IsOver (a b : List Page) (t : Root) (q : ℕ) (k : Pair) (new : Root) : Type 0 where
  pub levels : new.levels ≡ t.levels + 1
  pub page : new.page ≡ length a
  pub count_bounded : length b < 2 ^ 32
  pub pages : b ≡ a ++ record { pairs = k ∷ []; links = t.page ∷ q ∷ [] } ∷ []

-- ---- steps of a tree by its top

-- q is a leaf outside a tree, and its pairs follow those of the tree
pub record CanAppendIn (a : List Page) (t : Root) (q : ℕ) : Type 0 where
  pub tree : IsTreeIn a t
  pub levels : 0 < t.levels
  pub apart : (r : ℕ) → uses_in a t r ≤ 1
  pub leaf : IsTree 0 a q
  pub outside : uses_in a t q ≡ 0
  pub order : AreInOrder (pairs_in a t ++ (page_in a q).pairs)
  pub deep : t.levels ≤ length a
  pub count_bounded : length a < 2 ^ 32

-- the tree has the pages that it had, the leaf q, and each new one once
pub record AppendsIn (a b : List Page) (t u : Root) (q : ℕ) : Type 0 where
  pub longer : length a ≤ length b
  pub count_bounded : length b < 2 ^ 32
  pub frame : (r : ℕ) → r < length a → uses_in a t r ≡ 0 → page_in b r ≡ page_in a r
  pub pairs : pairs_in b u ≡ pairs_in a t ++ (page_in a q).pairs
  pub tree : IsTreeIn b u
  pub levels : 0 < u.levels
  pub uses_stay : (r : ℕ) → r < length a → uses_in b u r ≡ uses_in a t r + here q r
  pub apart : (r : ℕ) → uses_in b u r ≤ 1
  pub new_used : (r : ℕ) → length a ≤ r → r < length b → uses_in b u r ≡ 1
  pub deep : u.levels ≤ length b

-- a tree in order and a free list that share no page
pub record IsTreeApart (a : List Page) (f : FreeList) (t : Root) : Type 0 where
  pub tree : IsTreeIn a t
  pub order : AreInOrder (pairs_in a t)
  pub list : IsFreeList a f
  pub apart : (r : ℕ) → uses_in a t r + uses_free a f r ≤ 1

pub record CanInsertIn (a : List Page) (f : FreeList) (t : Root) (pair : Pair) : Type 0 where
  pub whole : IsTreeApart a f t
  pub enough : t.levels < f.count
  pub count_bounded : length a < 2 ^ 32
  pub absent : Contains (pairs_in a t) pair → ⊥

-- the pages in the tree and the free ones are the same together
pub record InsertsIn (a b : List Page) (f g : FreeList) (t u : Root) (pair : Pair) : Type 0 where
  pub pairs : pairs_in b u ≡ with_pair pair (pairs_in a t)
  pub tree : IsTreeIn b u
  pub list : IsFreeList b g
  pub uses_stay : (r : ℕ) → uses_in b u r + uses_free b g r ≡ uses_in a t r + uses_free a f r
  pub same_length : length b ≡ length a
  pub deep : u.levels ≤ length b

-- a tree with a full top, which a new one is put above
pub record CanRaise (a : List Page) (f : FreeList) (t : Root) : Type 0 where
  pub whole : IsTreeApart a f t
  pub levels : 0 < t.levels
  pub count_bounded : t.levels < 2 ^ 32
  pub some : 0 < f.count

pub record Raises (a b : List Page) (f g : FreeList) (t u : Root) : Type 0 where
  pub pairs : pairs_in b u ≡ pairs_in a t
  pub levels : u.levels ≡ t.levels + 1
  pub whole : IsTreeApart b g u
  pub uses_stay : (r : ℕ) → uses_in b u r + uses_free b g r ≡ uses_in a t r + uses_free a f r
  pub room : length (page_in b u.page).links ≡ 1
  pub count : g.count + 1 ≡ f.count
  pub same_length : length b ≡ length a

pub record CanRemoveIn (a : List Page) (f : FreeList) (t : Root) (pair : Pair) : Type 0 where
  pub whole : IsTreeApart a f t
  pub count_bounded : length a < 2 ^ 32
  pub held : Contains (pairs_in a t) pair

-- the pages in the tree and the free ones are the same together
pub record RemovesIn (a b : List Page) (f g : FreeList) (t u : Root) (pair : Pair) : Type 0 where
  pub pairs : pairs_in b u ≡ without_pair pair (pairs_in a t)
  pub tree : IsTreeIn b u
  pub list : IsFreeList b g
  pub uses_stay : (r : ℕ) → uses_in b u r + uses_free b g r ≡ uses_in a t r + uses_free a f r
  pub same_length : length b ≡ length a
  pub lower : u.levels ≤ t.levels
  pub more : f.count ≤ g.count
