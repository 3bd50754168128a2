-- Places of pairs in a tree's leaves.
use Rattle.std.specs.Prelude.{ℕ, ◌-◌, ◌<◌, List, length, slice_get, Option}
use Rattle.ndx_index.specs.declared.pair.Pair.{Pair}
use Rattle.ndx_index.specs.declared.pages.place.Place.{Place}
use Rattle.ndx_index.specs.PageStore.{Page, page_in}
use Rattle.ndx_index.specs.Slots.{slot_at}

-- the pair at a place
abbrev pub pair_at_place : List Page → Place → Pair
pair_at_place pages p = slot_at (page_in pages p.page).pairs p.at

-- the last place of a leaf
abbrev pub last_of_leaf : List Page → ℕ → Place
last_of_leaf pages leaf = record { page = leaf; at = length (page_in pages leaf).pairs - 1 }

-- the last of the pairs, where there are some
abbrev pub last_in : List Pair → Option Pair
last_in ps = slice_get ps (length ps - 1)

-- there is a pair at the place
abbrev pub IsPlace : List Page → Place → Type 0
IsPlace pages p = (p.page < length pages) × (p.at < length (page_in pages p.page).pairs)
