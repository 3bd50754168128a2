-- Pages named by numbers, and the trees that they make.
use Rattle.std.specs.Prelude.{true, false, ◌++◌, map, slice_index, ◌≡◌, ℕ, zero, suc, ◌+◌, ◌^◌, ◌<◌, ◌≤◌, List, [], ◌∷◌, length, if◌then◌else◌, ◌==◌}
use Rattle.std.specs.List.{AllByRecursion}
use Rattle.ndx_index.specs.Order.{before, AreInOrder}
use Rattle.ndx_index.specs.declared.pair.Pair.{Pair}
use Rattle.ndx_index.specs.declared.pages.free.FreeList.{FreeList}
use Rattle.ndx_index.specs.declared.pages.root.Root.{Root}
use Rattle.ndx_index.specs.PageStore.{Page, page_in}

abbrev pub joined : List (List Pair) → List Pair
joined [] = []
joined (ps ∷ pss) = ps ++ joined pss

-- the pairs of pages, of one page after another
abbrev pub pairs_of_pages : List Page → List Pair
pairs_of_pages a = joined (map (λ (g : Page). g.pairs) a)

-- each page has pairs
abbrev pub HavePairs : List Page → Type 0
HavePairs a = AllByRecursion (λ (g : Page). 0 < length g.pairs) a

-- the pairs of the leaves under page p, which is this many levels above them
abbrev pub pairs_under : ℕ → List Page → ℕ → List Pair
pairs_under zero a p = (page_in a p).pairs
pairs_under (suc d) a p = joined (map (λ c. pairs_under d a c) (page_in a p).links)

abbrev pub total : (ℕ → ℕ) → List ℕ → ℕ
total f [] = 0
total f (x ∷ xs) = f x + total f xs

abbrev pub here : ℕ → ℕ → ℕ
here p r = if p == r then 1 else 0

-- how often page r is among the pages under p
abbrev pub uses : ℕ → List Page → ℕ → ℕ → ℕ
uses zero a p r = here p r
uses (suc d) a p r = here p r + total (λ c. uses d a c r) (page_in a p).links

abbrev pub AllBefore : Pair → List Pair → Type 0
AllBefore k ps = AllByRecursion (λ q. before q k ≡ true) ps

abbrev pub AllFrom : Pair → List Pair → Type 0
AllFrom k ps = AllByRecursion (λ q. before q k ≡ false) ps

-- a key between any two lists: all pairs before it, and none after it
abbrev pub Parted : List (List Pair) → List Pair → Type 0
Parted [] ks = ⊥
Parted (ps ∷ []) [] = Unit {0}
Parted (ps ∷ []) (k ∷ ks) = ⊥
Parted (ps ∷ qs ∷ pss) [] = ⊥
Parted (ps ∷ qs ∷ pss) (k ∷ ks) = AllBefore k ps × AllFrom k qs × Parted (qs ∷ pss) ks

-- When pages make a tree: the pages are there, no leaf is empty, and an inner page's keys part its children.
abbrev pub IsTree : ℕ → List Page → ℕ → Type 0
IsTree zero a p = (p < length a) × (0 < length (page_in a p).pairs)
IsTree (suc d) a p = (p < length a)
    × Parted (map (λ c. pairs_under d a c) (page_in a p).links) (page_in a p).pairs
    × AreInOrder (page_in a p).pairs
    × AllByRecursion (λ c. IsTree d a c) (page_in a p).links

-- the pairs of a leaf, or the links of an inner page
abbrev pub width : ℕ → Page → ℕ
width zero g = length g.pairs
width (suc d) g = length g.links

-- ---- pages that no tree has

-- a free page's one link
abbrev pub next_free_page : Page → ℕ
next_free_page g = slice_index g.links 0

-- how often page r is among the first n pages of the list that begins at p
abbrev pub free_uses : ℕ → List Page → ℕ → ℕ → ℕ
free_uses zero a p r = 0
free_uses (suc n) a p r = here p r + free_uses n a (next_free_page (page_in a p)) r

-- the first n pages of the list that begins at p are there, each with a link to the next
abbrev pub AreFree : ℕ → List Page → ℕ → Type 0
AreFree zero a p = Unit {0}
AreFree (suc n) a p = (p < length a) × (0 < length (page_in a p).links) × AreFree n a (next_free_page (page_in a p))

-- the free pages: a list of so many pages, which begins at its head
abbrev pub IsFreeList : List Page → FreeList → Type 0
IsFreeList a f = AreFree f.count a f.head

abbrev pub uses_free : List Page → FreeList → ℕ → ℕ
uses_free a f r = free_uses f.count a f.head r

-- how often page r is in the tree under p or free
abbrev pub uses_both : ℕ → List Page → FreeList → ℕ → ℕ → ℕ
uses_both d a f p r = uses d a p r + uses_free a f r

-- ---- a tree by its top; of no levels there is none

abbrev pub pairs_of_levels : ℕ → List Page → ℕ → List Pair
pairs_of_levels zero a p = []
pairs_of_levels (suc d) a p = pairs_under d a p

abbrev pub uses_of_levels : ℕ → List Page → ℕ → ℕ → ℕ
uses_of_levels zero a p r = 0
uses_of_levels (suc d) a p r = uses d a p r

abbrev pub IsTreeOfLevels : ℕ → List Page → ℕ → Type 0
IsTreeOfLevels zero a p = Unit {0}
IsTreeOfLevels (suc d) a p = IsTree d a p

abbrev pub pairs_in : List Page → Root → List Pair
pairs_in a t = pairs_of_levels t.levels a t.page

abbrev pub uses_in : List Page → Root → ℕ → ℕ
uses_in a t r = uses_of_levels t.levels a t.page r

abbrev pub IsTreeIn : List Page → Root → Type 0
IsTreeIn a t = IsTreeOfLevels t.levels a t.page

-- a tree that has each page once
pub record IsPlain (a : List Page) (t : Root) : Type 0 where
  pub tree : IsTreeIn a t
  pub apart : (r : ℕ) → uses_in a t r ≤ 1
  pub once : (r : ℕ) → r < length a → uses_in a t r ≡ 1
  pub deep : t.levels ≤ length a
  pub count_bounded : length a < 2 ^ 32
