-- Pages of a tree: the pairs of a leaf, or the links of an inner page and the pairs between them.
use Rattle.std.specs.Prelude.{◌≡◌, ℕ, zero, suc, List, [], ◌∷◌, length, map, take, drop, slice_set, slice_index_or}
use Rattle.std.specs.List.{remove}
use Rattle.ndx_index.specs.declared.pair.Pair.{Pair}
use Rattle.ndx_index.specs.declared.pages.store.PageStore.TheInside.{Inside}

-- a page of pairs and links
pub record Page : Type 0 where
  pub pairs : List Pair
  pub links : List ℕ

-- pages of pairs and links, with keys of one length
pub record Store : Type 0 where
  pub key_len : ℕ
  pub pages : List Page

abbrev pub no_page : Page
no_page = record { pairs = []; links = [] }

abbrev pub page_in : List Page → ℕ → Page
page_in pages p = slice_index_or pages p no_page

-- links are kept as pairs without a key
abbrev pub links_of : List Pair → List ℕ
links_of ls = map (λ q. q.number) ls

abbrev pub zipped : List (List Pair) → List (List Pair) → List Page
zipped [] lss = []
zipped (ps ∷ pss) [] = []
zipped (ps ∷ pss) (ls ∷ lss) = record { pairs = ps; links = links_of ls } ∷ zipped pss lss

-- a page with other pairs, and with other links
abbrev pub with_pairs : List Pair → Page → Page
with_pairs ps g = record { pairs = ps; links = g.links }

abbrev pub with_links : List ℕ → Page → Page
with_links ls g = record { pairs = g.pairs; links = ls }

-- the pages, where one has these pairs now
abbrev pub with_pairs_at : List Page → ℕ → List Pair → List Page
with_pairs_at pages p ps = slice_set pages p (with_pairs ps (page_in pages p))

-- the pages, where one has these links now
abbrev pub with_links_at : List Page → ℕ → List ℕ → List Page
with_links_at pages p ls = slice_set pages p (with_links ls (page_in pages p))

-- the pages, when the pairs of one from a place on have gone to another, in place of the pairs there
abbrev pub pairs_split : List Page → ℕ → ℕ → ℕ → List Page
pairs_split pages p at to =
    let own = (page_in pages p).pairs in
    slice_set (slice_set pages to (with_pairs (drop at own) (page_in pages to))) p (with_pairs (take at own) (page_in pages p))

-- the pages, when the links of one from a place on have gone to another, in place of the links there
abbrev pub links_split : List Page → ℕ → ℕ → ℕ → List Page
links_split pages p at to =
    let own = (page_in pages p).links in
    slice_set (slice_set pages to (with_links (drop at own) (page_in pages to))) p (with_links (take at own) (page_in pages p))

abbrev pub store_view : Inside → Store
store_view x = record { key_len = x.pair_pages.key_len; pages = zipped x.pair_pages.pages x.link_pages.pages }

pub record AreTwins (x : Inside) : Type 0 where
  pub same : length x.pair_pages.pages ≡ length x.link_pages.pages
  pub bare : x.link_pages.key_len ≡ 0

-- the keys of a page whose i-th child goes: one beside it goes too, where there is one
abbrev pub keys_without : ℕ → List Pair → List Pair
keys_without zero ks = remove ks 0
keys_without (suc i) ks = remove ks i

abbrev pub without_child : ℕ → Page → Page
without_child i g = record { pairs = keys_without i g.pairs; links = remove g.links i }
