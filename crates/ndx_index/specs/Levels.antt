-- The levels of a written index.
use Rattle.std.specs.Prelude.{◌≡◌, ℕ, zero, suc, ◌+◌, ◌*◌, ◌^◌, ◌<◌, ◌≤◌, List, [], length, slice_index, get_or, take, drop}
use Rattle.ndx_index.specs.declared.pair.Pair.{Pair}
use Rattle.ndx_index.specs.Image.{ChildEntry, child_entries, last_key, last_entry_key, leaves, next_level}

-- child i of m is the last one of page j above them
pub record IsLast (k m j i : ℕ) : Type 0 where
  pub final : m ≤ j * (k + 1) + k + 1 → i + 1 ≡ m
  pub shorter : m ≡ j * (k + 1) + k + 2 → i + 1 ≡ j * (k + 1) + k
  pub full : j * (k + 1) + k + 2 < m → i ≡ j * (k + 1) + k

-- the number of a level's first page, and its pages
pub record Level : Type 0 where
  pub first : ℕ
  pub pages : List ChildEntry

abbrev pub above : ℕ → Level → Level
above k below = let n = below.first + length below.pages in record { first = n; pages = child_entries last_entry_key n (next_level k below.pages) }

-- the levels, the leaves as level 0
abbrev pub level : ℕ → List Pair → ℕ → Level
level k pairs zero = record { first = 1; pages = child_entries last_key 1 (leaves k pairs) }
level k pairs (suc l) = above k (level k pairs l)

-- the pages of the next level, each by its children
abbrev pub parent_pages : ℕ → List Pair → ℕ → List (List ChildEntry)
parent_pages k pairs l = next_level k (level k pairs l).pages

-- these are the numbers of pages of the first n levels, and each of these levels has several
pub record AreSizes (k : ℕ) (pairs : List Pair) (n : ℕ) (sizes : List ℕ) : Type 0 where
  pub each : (l : ℕ) → l < n → slice_index sizes l ≡ length (level k pairs l).pages
  pub several : (l : ℕ) → l < n → 2 ≤ length (level k pairs l).pages

-- the greatest key under this page of this level
abbrev pub key_under : ℕ → List Pair → ℕ → ℕ → List ℕ
key_under k pairs l page = (get_or (level k pairs l).pages page (record { page = 0; key = [] })).key

abbrev pub no_child : ChildEntry
no_child = record { page = 0; key = [] }

-- these children of a page, from index `at` of this level on
abbrev pub children_from : ℕ → List Pair → ℕ → ℕ → ℕ → List ChildEntry
children_from k pairs l at count = take count (drop at (level k pairs l).pages)

-- this is the number of a level's first page and how many pages it has, and there is a level above it
pub record IsLevel (k : ℕ) (pairs : List Pair) (height first count : ℕ) : Type 0 where
  pub first_is : first ≡ (level k pairs height).first
  pub count_is : count ≡ length (level k pairs height).pages
  pub several : 2 ≤ count
  pub numbered : first + count < 2 ^ 32

-- the level has one page, the root
pub record IsRootLevel (k : ℕ) (pairs : List Pair) (height root : ℕ) : Type 0 where
  pub one : length (level k pairs height).pages ≡ 1
  pub root_is : root ≡ (level k pairs height).first
  pub numbered : root ≤ 4000000000
