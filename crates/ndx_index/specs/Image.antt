-- The file that is written of an index: a header page, the leaves, and each higher level, the root last.
use Rattle.std.specs.Prelude.{◌≡◌, ℕ, zero, suc, ◌+◌, ◌-◌, ◌*◌, ◌/◌, ◌^◌, ◌<◌, ◌≤◌, ◌==◌, List, [], ◌∷◌, ◌++◌, map, length, refl, replicate, take, drop, flat_map, if◌then◌else◌, slice_range}
use Rattle.std.specs.List.{AllByRecursion}
use Rattle.byteorder.specs.Endian.{little_bytes}
use Rattle.key_expr.specs.declared.format.TheConstants.{MAX_KEY_BYTES, MAX_EXPRESSION_BYTES}
use Rattle.ndx_index.specs.declared.format.TheConstants.{PAGE, MAX_RECORDS_BYTES, MAX_PAIRS}
use Rattle.ndx_index.specs.declared.pair.Pair.{Pair}

-- ---- layout

-- the size of a key record: eight bytes and the key, up to a multiple of four
abbrev pub record_size : ℕ → ℕ
record_size key_len = 4 * ((key_len + 11) / 4)

-- the most key records of a page
abbrev pub page_keys : ℕ → ℕ
page_keys key_len = MAX_RECORDS_BYTES / record_size key_len

-- ---- groups

-- the elements in groups from the front, the next as long as `group_size` says of how many are left
abbrev pub groups : {X : Type 0} → (ℕ → ℕ) → ℕ → List X → List (List X)
groups group_size zero xs = []
groups group_size (suc fuel) [] = []
groups group_size (suc fuel) (x ∷ xs) =
    take (group_size (length (x ∷ xs))) (x ∷ xs) ∷ groups group_size fuel (drop (group_size (length (x ∷ xs))) (x ∷ xs))

-- a leaf takes k pairs
abbrev pub leaf_group_size : ℕ → ℕ → ℕ
leaf_group_size k left = k

-- an inner page takes k + 1 children, and one less where else the last page would have one child
abbrev pub inner_group_size : ℕ → ℕ → ℕ
inner_group_size k left = if left == k + 2 then k else k + 1

-- an empty index has one empty leaf
abbrev pub leaves : ℕ → List Pair → List (List Pair)
leaves k [] = [] ∷ []
leaves k (p ∷ ps) = groups (leaf_group_size k) (length (p ∷ ps)) (p ∷ ps)

-- ---- levels

-- a page's number and the greatest key under it
pub record ChildEntry : Type 0 where
  pub page : ℕ
  pub key : List ℕ

-- what f reads off the last element, and d where there is none
abbrev pub last_of : {X Y : Type 0} → (X → Y) → Y → List X → Y
last_of f d [] = d
last_of f d (x ∷ []) = f x
last_of f d (x ∷ y ∷ xs) = last_of f d (y ∷ xs)

abbrev pub last_key : List Pair → List ℕ
last_key ps = last_of (λ p. p.key) [] ps

abbrev pub last_entry_key : List ChildEntry → List ℕ
last_entry_key ts = last_of (λ t. t.key) [] ts

-- pages numbered from n on, each with its greatest key
abbrev pub child_entries : {X : Type 0} → (List X → List ℕ) → ℕ → List (List X) → List ChildEntry
child_entries greatest n [] = []
child_entries greatest n (g ∷ gs) = record { page = n; key = greatest g } ∷ child_entries greatest (n + 1) gs

abbrev pub next_level : ℕ → List ChildEntry → List (List ChildEntry)
next_level k ts = groups (inner_group_size k) (length ts) ts

-- the pages above these, from number n on, level by level up to a level of one page
abbrev pub levels_above : ℕ → ℕ → ℕ → List ChildEntry → List (List ChildEntry)
levels_above zero k n ts = []
levels_above (suc fuel) k n [] = []
levels_above (suc fuel) k n (t ∷ []) = []
levels_above (suc fuel) k n (t ∷ u ∷ ts) =
    let gs = next_level k (t ∷ u ∷ ts) in
    gs ++ levels_above fuel k (n + length gs) (child_entries last_entry_key n gs)

abbrev pub inner_pages : ℕ → List Pair → List (List ChildEntry)
inner_pages k pairs =
    let gs = leaves k pairs in
    levels_above (length gs) k (length gs + 1) (child_entries last_key 1 gs)

-- ---- bytes

-- filled up to a page with zeros
unfoldable pub filled_page : List ℕ → List ℕ
filled_page xs = xs ++ replicate (PAGE - length xs) 0

-- a key record: child page, record number, key, and zeros up to its size
unfoldable pub key_record : ℕ → ℕ → ℕ → List ℕ → List ℕ
key_record size child number key = little_bytes 4 child ++ (little_bytes 4 number ++ (key ++ replicate (size - 8 - length key) 0))

unfoldable pub leaf_record : ℕ → Pair → List ℕ
leaf_record size p = key_record size 0 p.number p.key

-- the last child has a pointer alone
unfoldable pub inner_records : ℕ → List ChildEntry → List ℕ
inner_records size [] = []
inner_records size (t ∷ []) = little_bytes 4 t.page
inner_records size (t ∷ u ∷ ts) = key_record size t.page 0 t.key ++ inner_records size (u ∷ ts)

unfoldable pub leaf_page : ℕ → List Pair → List ℕ
leaf_page size g = filled_page (little_bytes 4 (length g) ++ flat_map (leaf_record size) g)

unfoldable pub inner_page : ℕ → List ChildEntry → List ℕ
inner_page size g = filled_page (little_bytes 4 (length g - 1) ++ inner_records size g)

-- root, number of pages, key length, keys of a page, kind, size of a key record, unique flag, key expression
unfoldable pub header_page : List ℕ → ℕ → ℕ → List ℕ
header_page text key_len pages =
    filled_page (little_bytes 4 (pages - 1) ++ (little_bytes 4 pages ++ (replicate 4 0 ++ (little_bytes 2 key_len ++ (little_bytes 2 (page_keys key_len)
    ++ (0 ∷ 0 ∷ (little_bytes 2 (record_size key_len) ++ (0 ∷ 0 ∷ 0 ∷ 0 ∷ text))))))))

-- all pages but the header
abbrev pub image_pages : ℕ → List Pair → List (List ℕ)
image_pages key_len pairs =
    map (leaf_page (record_size key_len)) (leaves (page_keys key_len) pairs)
    ++ map (inner_page (record_size key_len)) (inner_pages (page_keys key_len) pairs)

-- the whole file; the last page is the root
abbrev pub ndx_image : List ℕ → ℕ → List Pair → List ℕ
ndx_image text key_len pairs =
    header_page text key_len (1 + length (image_pages key_len pairs)) ++ flat_map (λ page. page) (image_pages key_len pairs)

-- what can be written: a key expression that fits the header page, and keys of one length
pub record IsWritable (text : List ℕ) (key_len : ℕ) (pairs : List Pair) : Type 0 where
  pub text_short : length text ≤ MAX_EXPRESSION_BYTES
  pub key_some : 1 ≤ key_len
  pub key_short : key_len ≤ MAX_KEY_BYTES
  pub count_bounded : length pairs ≤ MAX_PAIRS
  pub each : AllByRecursion (λ p. (length p.key ≡ key_len) × (p.number < 2 ^ 32)) pairs

-- ---- worked sizes
pair : Pair
pair = record { key = 65 ∷ 66 ∷ 67 ∷ 68 ∷ 69 ∷ 70 ∷ 71 ∷ 72 ∷ 73 ∷ 74 ∷ []; number = 1 }

leaves_26 : map length (leaves 25 (replicate 26 pair)) ≡ 25 ∷ 1 ∷ []
unfolding pair
leaves_26 = refl

inner_26 : map length (inner_pages 25 (replicate 26 pair)) ≡ 2 ∷ []
unfolding pair
inner_26 = refl

inner_17 : map length (inner_pages 4 (replicate 17 pair)) ≡ 5 ∷ []
unfolding pair
inner_17 = refl

inner_21 : map length (inner_pages 4 (replicate 21 pair)) ≡ 4 ∷ 2 ∷ 2 ∷ []
unfolding pair
inner_21 = refl

leaves_0 : leaves 25 [] ≡ [] ∷ []
leaves_0 = refl

bytes_26 : take 20 (ndx_image (78 ∷ 65 ∷ 77 ∷ 69 ∷ []) 10 (replicate 26 pair)) ≡ 3 ∷ 0 ∷ 0 ∷ 0 ∷ 4 ∷ 0 ∷ 0 ∷ 0 ∷ 0 ∷ 0 ∷ 0 ∷ 0 ∷ 10 ∷ 0 ∷ 25 ∷ 0 ∷ 0 ∷ 0 ∷ 20 ∷ 0 ∷ []
unfolding pair header_page filled_page
bytes_26 = refl

root_26 : slice_range (ndx_image (78 ∷ 65 ∷ 77 ∷ 69 ∷ []) 10 (replicate 26 pair)) 1536 1566 ≡ 1 ∷ 0 ∷ 0 ∷ 0 ∷ 1 ∷ 0 ∷ 0 ∷ 0 ∷ 0 ∷ 0 ∷ 0 ∷ 0 ∷ 65 ∷ 66 ∷ 67 ∷ 68 ∷ 69 ∷ 70 ∷ 71 ∷ 72 ∷ 73 ∷ 74 ∷ 0 ∷ 0 ∷ 2 ∷ 0 ∷ 0 ∷ 0 ∷ 0 ∷ 0 ∷ []
unfolding pair header_page filled_page leaf_page inner_page leaf_record inner_records key_record
root_26 = refl

length_26 : length (ndx_image (78 ∷ 65 ∷ 77 ∷ 69 ∷ []) 10 (replicate 26 pair)) ≡ 2048
unfolding pair header_page filled_page leaf_page inner_page leaf_record inner_records key_record
length_26 = refl
