-- Pages of sixteen places.
use Rattle.std.specs.Prelude.{◌≡◌, ℕ, ◌+◌, ◌*◌, ◌^◌, ◌<◌, ◌≤◌, List, [], ◌∷◌, length, take, drop, slice_set, slice_index_or, vec_capacity}
use Rattle.std.specs.List.{AllByRecursion}
use Rattle.ndx_index.specs.declared.pair.Pair.{Pair}
use Rattle.ndx_index.specs.declared.pages.pair_pages.PairPages.TheInside.{Inside}
use Rattle.ndx_index.specs.declared.pages.pair_pages.TheConstants.{PLACES}

-- pages of pairs with keys of one length, and how many more can be put after them without taking memory
pub record Pages : Type 0 where
  pub key_len : ℕ
  pub pages : List (List Pair)
  pub spare : ℕ

-- sixteen slots as a page: the pairs of each page stand in the first of its slots
abbrev pub pages_of : List ℕ → List Pair → List (List Pair)
pages_of [] ps = []
pages_of (c ∷ cs) ps = take c ps ∷ pages_of cs (drop PLACES ps)

abbrev pub page_at : List (List Pair) → ℕ → List Pair
page_at pages p = slice_index_or pages p []

-- the pages, when the pairs of one from a place on have gone to another, in place of what was there
abbrev pub split_page : List (List Pair) → ℕ → ℕ → ℕ → List (List Pair)
split_page pages p at to = slice_set (slice_set pages to (drop at (page_at pages p))) p (take at (page_at pages p))

-- no count is above a page's places
abbrev pub AreSmall : List ℕ → Type 0
AreSmall cs = AllByRecursion (λ c. c ≤ PLACES) cs

abbrev pub pages_view : Inside → Pages
pages_view x = record { key_len = x.slots.key_len; pages = pages_of x.counts.items x.slots.pairs; spare = x.spare }

-- sixteen slots a page, and room for the spare ones
pub record ArePages (x : Inside) : Type 0 where
  pub fit : length x.slots.pairs ≡ length x.counts.items * PLACES
  pub bounded : AreSmall x.counts.items
  pub slots_room : x.spare * PLACES ≤ x.slots.spare
  pub count_bounded : length x.counts.items + x.spare < 2 ^ 32
  pub counts_room : length x.counts.items + x.spare ≤ vec_capacity x.counts
