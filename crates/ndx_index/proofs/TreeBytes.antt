-- From level to level up to the root, and the whole file.
use Rattle.std.proofs.Common.{◌≡◌, ℕ, zero, suc, ◌+◌, ◌<◌, ◌≤◌, inl, inr, List, [], ◌∷◌, ◌++◌, length, map, refl, ap, sym, ◌∙◌, arith, length-append, append_assoc}
use Rattle.std.specs.Prelude.{flat_map, slice_index}
use Rattle.std.proofs.lemmas.Bool.{cases_eq}
use Rattle.std.proofs.lemmas.List.{length-map}
use Rattle.std.proofs.lemmas.List.Concat.{flat_map-append}
use Rattle.std.proofs.lemmas.List.Folds.{flat_map-map}
use Rattle.ndx_index.specs.declared.pair.Pair.{Pair}
use Rattle.ndx_index.specs.Image.{ChildEntry, child_entries, last_entry_key, last_key, leaves, leaf_page, inner_page, inner_pages, next_level, levels_above, header_page, page_keys, record_size, image_pages, ndx_image}
use Rattle.ndx_index.specs.Levels.{AreSizes, IsLevel, IsRootLevel, level}
use Rattle.ndx_index.proofs.LevelLaws.{levels-next}
use Rattle.ndx_index.proofs.ReadBack.{length-child_entries}

-- all pages above a level
abbrev pub pages_above : ℕ → List Pair → ℕ → List (List ChildEntry)
pages_above k pairs l = levels_above (length (level k pairs l).pages) k ((level k pairs l).first + length (level k pairs l).pages) (level k pairs l).pages

pub above_leaves : (k : ℕ) (pairs : List Pair) → pages_above k pairs 0 ≡ inner_pages k pairs
above_leaves k pairs =
    let gs : List (List Pair) = leaves k pairs in
    let ts : List ChildEntry = child_entries last_key 1 gs in
    let turned : 1 + length gs ≡ length gs + 1 = omega arith in
    ap (λ (m : ℕ). levels_above m k (1 + m) ts) (length-child_entries last_key 1 gs) ∙ ap (λ (n : ℕ). levels_above (length gs) k n ts) turned

pub above_level : (k : ℕ) (pairs : List Pair) (l : ℕ) → 2 ≤ k → 2 ≤ length (level k pairs l).pages
    → pages_above k pairs l ≡ next_level k (level k pairs l).pages ++ pages_above k pairs (suc l)
above_level k pairs l two many =
    let ts : List ChildEntry = (level k pairs l).pages in
    let n : ℕ = (level k pairs l).first + length ts in
    let gs : List (List ChildEntry) = next_level k ts in
    let ups : List ChildEntry = child_entries last_entry_key n gs in
    levels-next k n ts two many ∙ ap (λ (m : ℕ). gs ++ levels_above (length ups) k (n + m) ups) (sym (length-child_entries last_entry_key n gs))

above_one : (f k n : ℕ) (ts : List ChildEntry) → length ts ≡ 1 → levels_above f k n ts ≡ []
above_one zero k n ts e = refl
above_one (suc f) k n [] e = refl
above_one (suc f) k n (t ∷ []) e = refl
above_one (suc f) k n (t ∷ u ∷ ts) e = absurd (omega arith)

pub above_root : (k : ℕ) (pairs : List Pair) (l : ℕ) → length (level k pairs l).pages ≡ 1 → pages_above k pairs l ≡ []
above_root k pairs l e = above_one (length (level k pairs l).pages) k ((level k pairs l).first + length (level k pairs l).pages) (level k pairs l).pages e

-- a level's numbers are below those of the levels above it
pub level_before : (k : ℕ) (pairs : List Pair) (l h : ℕ) → l < h → (level k pairs l).first + length (level k pairs l).pages ≤ (level k pairs h).first
level_before k pairs l zero lt = absurd (omega arith)
level_before k pairs l (suc h) lt = elim (cases_eq l h) [
  | inl e ↦ rw e (omega arith)
  | inr ne ↦ omega (arith, level_before k pairs l h (omega arith))
]

pub is_level : (k : ℕ) (pairs : List Pair) (l h first count root : ℕ) (sizes : List ℕ) → l < h → AreSizes k pairs h sizes → IsRootLevel k pairs h root → first ≡ (level k pairs l).first
    → count ≡ slice_index sizes l → IsLevel k pairs l first count
is_level k pairs l h first count root sizes lt are top first_is count_is =
    let count : count ≡ length (level k pairs l).pages = count_is ∙ are.each l lt in
    record {
      first_is = first_is;
      count_is = count;
      several = omega (arith, are.several l lt);
      numbered = omega (arith, level_before k pairs l h lt, top.root_is, top.numbered);
    }

-- ---- the number of pages

count_above : (k : ℕ) (pairs : List Pair) (d l h : ℕ) (sizes : List ℕ) → 2 ≤ k → d + l ≡ h → AreSizes k pairs h sizes → length (level k pairs h).pages ≡ 1
    → (level k pairs l).first + length (level k pairs l).pages + length (pages_above k pairs l) ≡ (level k pairs h).first + 1
count_above k pairs zero l h sizes two e are one =
    let same : h ≡ l = omega arith in
    let single : length (level k pairs l).pages ≡ 1 = rw same at one in
    let none : length (pages_above k pairs l) ≡ 0 = ap (λ (gs : List (List ChildEntry)). length gs) (above_root k pairs l single) in
    rw same (omega arith)
count_above k pairs (suc d) l h sizes two e are one =
    let ts : List ChildEntry = (level k pairs l).pages in
    let n : ℕ = (level k pairs l).first + length ts in
    let gs : List (List ChildEntry) = next_level k ts in
    let more = count_above k pairs d (suc l) h sizes two (omega arith) are one in
    let many : 2 ≤ length ts = are.several l (omega arith) in
    let split : length (pages_above k pairs l) ≡ length gs + length (pages_above k pairs (suc l)) = ap (λ (qs : List (List ChildEntry)). length qs) (above_level k pairs l two many) ∙ length-append gs (pages_above k pairs (suc l)) in
    let long : length (child_entries last_entry_key n gs) ≡ length gs = length-child_entries last_entry_key n gs in
    omega arith

pub pages_counted : (key_len : ℕ) (pairs : List Pair) (h root : ℕ) (sizes : List ℕ) → 2 ≤ page_keys key_len → AreSizes (page_keys key_len) pairs h sizes → IsRootLevel (page_keys key_len) pairs h root
    → 1 + length (image_pages key_len pairs) ≡ root + 1
pages_counted key_len pairs h root sizes two are top =
    let k : ℕ = page_keys key_len in
    let size : ℕ = record_size key_len in
    let gs : List (List Pair) = leaves k pairs in
    let ups : List (List ChildEntry) = inner_pages k pairs in
    let all = count_above k pairs h 0 h sizes two (omega arith) are top.one in
    let same : length (pages_above k pairs 0) ≡ length ups = ap (λ (qs : List (List ChildEntry)). length qs) (above_leaves k pairs) in
    let bottom : length (child_entries last_key 1 gs) ≡ length gs = length-child_entries last_key 1 gs in
    omega (arith, length-append (map (leaf_page size) gs) (map (inner_page size) ups), length-map gs (leaf_page size), length-map ups (inner_page size), top.root_is)

-- ---- the bytes

-- the pages of the level above, and then those above it
pub level_and_above : (size k : ℕ) (pairs : List Pair) (l : ℕ) → 2 ≤ k → 2 ≤ length (level k pairs l).pages
    → flat_map (inner_page size) (pages_above k pairs l) ≡ flat_map (inner_page size) (next_level k (level k pairs l).pages) ++ flat_map (inner_page size) (pages_above k pairs (suc l))
level_and_above size k pairs l two many =
    ap (λ qs. flat_map (inner_page size) qs) (above_level k pairs l two many) ∙ flat_map-append (inner_page size) (next_level k (level k pairs l).pages) (pages_above k pairs (suc l))

pub none_above : (size k : ℕ) (pairs : List Pair) (l : ℕ) → length (level k pairs l).pages ≡ 1 → flat_map (inner_page size) (pages_above k pairs l) ≡ []
none_above size k pairs l one = ap (λ qs. flat_map (inner_page size) qs) (above_root k pairs l one)

-- the header, the leaves, and the inner pages
pub image_parts : (text : List ℕ) (key_len pages : ℕ) (pairs : List Pair) → 1 + length (image_pages key_len pairs) ≡ pages
    → (header_page text key_len pages ++ flat_map (leaf_page (record_size key_len)) (leaves (page_keys key_len) pairs)) ++ flat_map (inner_page (record_size key_len)) (inner_pages (page_keys key_len) pairs)
    ≡ ndx_image text key_len pairs
image_parts text key_len pages pairs e =
    let size : ℕ = record_size key_len in
    let gs : List (List Pair) = leaves (page_keys key_len) pairs in
    let ups : List (List ChildEntry) = inner_pages (page_keys key_len) pairs in
    let header : List ℕ = header_page text key_len pages in
    let low : List ℕ = flat_map (leaf_page size) gs in
    let high : List ℕ = flat_map (inner_page size) ups in
    let body : flat_map (λ page. page) (image_pages key_len pairs) ≡ low ++ high = flat_map-append (λ page. page) (map (leaf_page size) gs) (map (inner_page size) ups)
    ∙ rw (flat_map-map (λ (page : List ℕ). page) (leaf_page size) gs, flat_map-map (λ (page : List ℕ). page) (inner_page size) ups) refl in
    let whole : header ++ (low ++ high) ≡ ndx_image text key_len pairs = ap (λ bytes. header ++ bytes) (sym body) ∙ ap (λ (n : ℕ). header_page text key_len n ++ flat_map (λ page. page) (image_pages key_len pairs)) (sym e) in
    append_assoc header low high ∙ whole
