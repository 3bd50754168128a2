-- Writing an inner page.
use Rattle.std.proofs.Common.{◌≡◌, ℕ, zero, suc, ◌+◌, ◌-◌, ◌*◌, ◌<◌, ◌≤◌, min, List, [], ◌∷◌, ◌++◌, length, take, drop, replicate, get_or, refl, ap, sym, ◌∙◌, arith, length-drop, get_or-drop}
use Rattle.std.proofs.lemmas.List.{length-take, length-append, get_or-take}
use Rattle.ndx_index.specs.declared.pair.Pair.{Pair}
use Rattle.byteorder.specs.Endian.{little_bytes}
use Rattle.ndx_index.specs.Image.{ChildEntry, child_entries, last_key, last_entry_key, leaves, next_level, key_record, inner_records, inner_page, filled_page}
use Rattle.std.specs.List.{AllByRecursion}
use Rattle.ndx_index.proofs.PageBytes.{length_children}
use Rattle.ndx_index.specs.Levels.{level, key_under, no_child, children_from}
use Rattle.std.specs.Prelude.{flat_map}
use Rattle.std.proofs.lemmas.List.{drop-drop}
use Rattle.ndx_index.specs.declared.format.TheConstants.{MAX_RECORDS_BYTES, PAGE}
use Rattle.ndx_index.specs.Image.{groups, inner_group_size}
use Rattle.ndx_index.proofs.Grouped.{group_size_some}
use Rattle.ndx_index.proofs.Writing.{groups_step, all_parts}

records_step : (size i : ℕ) (g : List ChildEntry) (d : ChildEntry) → i + 1 < length g → inner_records size (drop i g) ≡ key_record size (get_or g i d).page 0 (get_or g i d).key ++ inner_records size (drop (suc i) g)
unfolding inner_records
records_step size i [] d h = absurd (omega arith)
records_step size zero (t ∷ []) d h = absurd (omega arith)
records_step size zero (t ∷ u ∷ g) d h = refl
records_step size (suc i) (t ∷ g) d h = records_step size i g d (omega arith)

records_last : (size i : ℕ) (g : List ChildEntry) (d : ChildEntry) → i + 1 ≡ length g → inner_records size (drop i g) ≡ little_bytes 4 (get_or g i d).page
unfolding inner_records
records_last size i [] d h = absurd (omega arith)
records_last size zero (t ∷ []) d h = refl
records_last size zero (t ∷ u ∷ g) d h = absurd (omega arith)
records_last size (suc i) (t ∷ g) d h = records_last size i g d (omega arith)

child_entry_page : {X : Type 0} (f : List X → List ℕ) (n j : ℕ) (gs : List (List X)) (d : ChildEntry) → j < length (child_entries f n gs) → (get_or (child_entries f n gs) j d).page ≡ n + j
child_entry_page f n j [] d h = absurd (omega arith)
child_entry_page f n zero (g ∷ gs) d h = omega arith
child_entry_page f n (suc j) (g ∷ gs) d h = child_entry_page f (n + 1) j gs d (omega arith) ∙ shift n j
  where
    shift : (n j : ℕ) → n + 1 + j ≡ n + suc j
    shift n j = omega arith

level_page : (k : ℕ) (pairs : List Pair) (l j : ℕ) → j < length (level k pairs l).pages → (get_or (level k pairs l).pages j no_child).page ≡ (level k pairs l).first + j
level_page k pairs zero j h = child_entry_page last_key 1 j (leaves k pairs) no_child h
level_page k pairs (suc l) j h = child_entry_page last_entry_key ((level k pairs l).first + length (level k pairs l).pages) j (next_level k (level k pairs l).pages) no_child h

child_is : (k : ℕ) (pairs : List Pair) (l at count i : ℕ) → i < count → get_or (children_from k pairs l at count) i no_child ≡ get_or (level k pairs l).pages (at + i) no_child
child_is k pairs l at count i lt = get_or-take count (drop at (level k pairs l).pages) i no_child lt ∙ get_or-drop at (level k pairs l).pages i no_child

count_is : (k : ℕ) (pairs : List Pair) (l at count : ℕ) → at + count ≤ length (level k pairs l).pages → length (children_from k pairs l at count) ≡ count
count_is k pairs l at count h = omega (arith, length-take count (drop at (level k pairs l).pages), length-drop at (level k pairs l).pages)

-- one key record more
pub child_step : (k : ℕ) (pairs : List Pair) (l at count i size page : ℕ) (key : List ℕ) → i + 1 < count → at + count ≤ length (level k pairs l).pages
    → key ≡ key_under k pairs l (at + i) → page ≡ (level k pairs l).first + (at + i)
    → inner_records size (drop i (children_from k pairs l at count)) ≡ key_record size page 0 key ++ inner_records size (drop (suc i) (children_from k pairs l at count))
child_step k pairs l at count i size page key lt within key_is page_is =
    let g : List ChildEntry = children_from k pairs l at count in
    let long : length g ≡ count = count_is k pairs l at count within in
    let t = child_is k pairs l at count i (omega arith) in
    let p : (get_or g i no_child).page ≡ page = ap (λ w. w.page) t ∙ level_page k pairs l (at + i) (omega arith) ∙ sym page_is in
    let q : (get_or g i no_child).key ≡ key = ap (λ w. w.key) t ∙ sym key_is in
    records_step size i g no_child (omega arith) ∙ ap (λ n. key_record size n 0 (get_or g i no_child).key ++ inner_records size (drop (suc i) g)) p ∙ ap (λ w. key_record size page 0 w ++ inner_records size (drop (suc i) g)) q

-- the last child
pub child_last : (k : ℕ) (pairs : List Pair) (l at count i size page : ℕ) → i + 1 ≡ count → at + count ≤ length (level k pairs l).pages → page ≡ (level k pairs l).first + (at + i)
    → little_bytes 4 page ≡ inner_records size (drop i (children_from k pairs l at count))
child_last k pairs l at count i size page last within page_is =
    let g : List ChildEntry = children_from k pairs l at count in
    let long : length g ≡ count = count_is k pairs l at count within in
    let p : (get_or g i no_child).page ≡ page = ap (λ w. w.page) (child_is k pairs l at count i (omega arith)) ∙ level_page k pairs l (at + i) (omega arith) ∙ sym page_is in
    sym (records_last size i g no_child (omega arith) ∙ ap (λ (n : ℕ). little_bytes 4 n) p)

inner_parts_of : (size count : ℕ) (g : List ChildEntry) → length g ≡ count → 1 ≤ count → AllByRecursion (λ u. length u.key + 8 ≤ size) g
    → (little_bytes 4 (count - 1) ++ inner_records size g) ++ replicate (MAX_RECORDS_BYTES - (count - 1) * size) 0 ≡ inner_page size g
unfolding inner_page filled_page
inner_parts_of size count [] e some h = absurd (omega arith)
inner_parts_of size count (t ∷ g) e some h =
    let same : count ≡ length (t ∷ g) = sym e in
    let less : length (t ∷ g) - 1 ≡ length g = omega arith in
    let front : List ℕ = little_bytes 4 (length (t ∷ g) - 1) in
    let body : List ℕ = inner_records size (t ∷ g) in
    let product : (length (t ∷ g) - 1) * size ≡ length g * size = ap (λ (n : ℕ). n * size) less in
    let long : PAGE - length (front ++ body) ≡ MAX_RECORDS_BYTES - (length (t ∷ g) - 1) * size = omega (arith, length-append front body, length_children size t g h) in
    rw same (ap (λ (n : ℕ). (front ++ body) ++ replicate n 0) (sym long))

pub inner_parts : (k : ℕ) (pairs : List Pair) (l at count size : ℕ) → 1 ≤ count → at + count ≤ length (level k pairs l).pages
    → AllByRecursion (λ u. length u.key + 8 ≤ size) (children_from k pairs l at count)
    → (little_bytes 4 (count - 1) ++ inner_records size (children_from k pairs l at count)) ++ replicate (MAX_RECORDS_BYTES - (count - 1) * size) 0 ≡ inner_page size (children_from k pairs l at count)
inner_parts k pairs l at count size some within h = inner_parts_of size count (children_from k pairs l at count) (count_is k pairs l at count within) some h

-- ---- all pages above a level

pub level_step : (size k at n : ℕ) (ts : List ChildEntry) → n ≡ min (inner_group_size k (length (drop at ts))) (length (drop at ts)) → 1 ≤ length (drop at ts) → 1 ≤ k
    → flat_map (inner_page size) (groups (inner_group_size k) (length (drop at ts)) (drop at ts))
    ≡ inner_page size (take n (drop at ts)) ++ flat_map (inner_page size) (groups (inner_group_size k) (length (drop (at + n) ts)) (drop (at + n) ts))
level_step size k at n ts e some one =
    rw (sym (drop-drop n at ts)) (groups_step (inner_page size) (inner_group_size k) n (drop at ts) e some (group_size_some k one))

pub children_short : (size at n : ℕ) (ts : List ChildEntry) → AllByRecursion (λ u. length u.key + 8 ≤ size) ts → AllByRecursion (λ u. length u.key + 8 ≤ size) (take n (drop at ts))
children_short size at n ts h = (all_parts _ n (drop at ts) (all_parts _ at ts h).1).0
