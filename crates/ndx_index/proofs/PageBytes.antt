-- What a written page reads as.
use Rattle.std.proofs.Common.{◌≡◌, ℕ, suc, ◌+◌, ◌-◌, ◌*◌, ◌^◌, ◌<◌, ◌≤◌, Bool, true, false, not, List, [], ◌∷◌, ◌++◌, length, map, drop, replicate, refl, ap, sym, ◌∙◌, append_assoc, append-nil, arith, Ok}
use Rattle.std.proofs.Math.Nat.{mul-le-mul_right}
use Rattle.std.specs.Prelude.{flat_map, slice_range, nat_le}
use Rattle.std.specs.List.{AllByRecursion}
use Rattle.std.proofs.lemmas.Bool.{ne_eqb, le-leb}
use Rattle.std.proofs.lemmas.List.{take_at, drop_at, length-append, length-replicate}
use Rattle.ndx_index.specs.declared.format.TheConstants.{MAX_RECORDS_BYTES, PAGE}
use Rattle.byteorder.specs.Endian.{little_bytes}
use Rattle.byteorder.specs.Numbers.{little_number-reads_back}
use Rattle.ndx_index.specs.declared.pair.Pair.{Pair}
use Rattle.ndx_index.specs.declared.read.page.PageLayout.{PageLayout}
use Rattle.ndx_index.specs.Pages.{leaf, inner, node_of, page_tests, page_node, u32_at, child, leaf_pair, children, leaf_pairs, some_child, is_null}
use Rattle.ndx_index.specs.Image.{ChildEntry, filled_page, key_record, leaf_record, inner_records, leaf_page, inner_page}
use Rattle.ndx_index.specs.Laws.Lists.{all_weaker}

pub length-filled_page : (xs : List ℕ) → length xs ≤ PAGE → length (filled_page xs) ≡ PAGE
unfolding filled_page
length-filled_page xs h = omega (arith, length-append xs (replicate (PAGE - length xs) 0), length-replicate {A = ℕ} (PAGE - length xs) 0)

pub length-key_record : (size c n : ℕ) (key : List ℕ) → length key + 8 ≤ size → length (key_record size c n key) ≡ size
unfolding key_record
length-key_record size c n key h = omega (arith, length-append key (replicate (size - 8 - length key) 0), length-replicate {A = ℕ} (size - 8 - length key) 0)

pub u32_reads : (front rest : List ℕ) (x at : ℕ) → length front ≡ at → x < 2 ^ 32 → u32_at (front ++ (little_bytes 4 x ++ rest)) at ≡ x
unfolding u32_at
u32_reads front rest x at e h = rw (drop_at front (little_bytes 4 x ++ rest) at e) (little_number-reads_back 4 x rest h)

-- a key record as it is read
pub record Fits (s : PageLayout) (p : Pair) : Type 0 where
  pub long : length p.key ≡ s.key_len
  pub number : p.number < 2 ^ 32

pub leaf_pair_at : (s : PageLayout) (front rest : List ℕ) (p : Pair) (i : ℕ) → length front ≡ 4 + s.size * i → Fits s p → leaf_pair s (front ++ (leaf_record s.size p ++ rest)) i ≡ p
unfolding leaf_record key_record
leaf_pair_at s front rest p i e fits =
    let at : ℕ = s.size * i in
    let zs : List ℕ = replicate (s.size - 8 - length p.key) 0 in
    let zero_bytes : List ℕ = little_bytes 4 0 in
    let number_bytes : List ℕ = little_bytes 4 p.number in
    let whole : List ℕ = front ++ (leaf_record s.size p ++ rest) in
    let third : whole ≡ (front ++ zero_bytes) ++ (number_bytes ++ ((p.key ++ zs) ++ rest)) = sym (append_assoc front zero_bytes (number_bytes ++ ((p.key ++ zs) ++ rest))) in
    let number : u32_at whole (8 + at) ≡ p.number =
    rw third (u32_reads (front ++ zero_bytes) ((p.key ++ zs) ++ rest) p.number (8 + at) (omega (arith, length-append front zero_bytes)) fits.number) in
    let fourth : whole ≡ (front ++ (zero_bytes ++ number_bytes)) ++ (p.key ++ (zs ++ rest)) =
    ap (λ (xs : List ℕ). front ++ ((zero_bytes ++ number_bytes) ++ xs)) (append_assoc p.key zs rest) ∙ sym (append_assoc front (zero_bytes ++ number_bytes) (p.key ++ (zs ++ rest))) in
    let after : drop (12 + at) whole ≡ p.key ++ (zs ++ rest) =
    rw fourth (drop_at (front ++ (zero_bytes ++ number_bytes)) (p.key ++ (zs ++ rest)) (12 + at) (omega (arith, length-append front (zero_bytes ++ number_bytes)))) in
    let long : 12 + at + s.key_len - (12 + at) ≡ s.key_len = omega arith in
    let key : slice_range whole (12 + at) (12 + at + s.key_len) ≡ p.key = rw (long, after) (take_at p.key (zs ++ rest) s.key_len fits.long) in
    rw (key, number) refl

pub child_at : (s : PageLayout) (front rest : List ℕ) (x i : ℕ) → length front ≡ 4 + s.size * i → x < 2 ^ 32 → child s (front ++ (little_bytes 4 x ++ rest)) i ≡ x
child_at s front rest x i e h = u32_reads front rest x (4 + s.size * i) e h

pub null_at : (s : PageLayout) (front rest : List ℕ) (p : Pair) (i : ℕ) → length front ≡ 4 + s.size * i → child s (front ++ (leaf_record s.size p ++ rest)) i ≡ 0
unfolding leaf_record key_record
null_at s front rest p i e =
    child_at s front ((little_bytes 4 p.number ++ (p.key ++ replicate (s.size - 8 - length p.key) 0)) ++ rest) 0 i e (omega arith)

abbrev pub is_there : ℕ → Bool
is_there p = not (is_null p)

pub length_leaf_record : (size : ℕ) (p : Pair) → length p.key + 8 ≤ size → length (leaf_record size p) ≡ size
unfolding leaf_record
length_leaf_record size p h = length-key_record size 0 p.number p.key h

pub leaf_reads : (s : PageLayout) (g : List Pair) (front zs page : List ℕ) (j n : ℕ) → s.key_len + 8 ≤ s.size → page ≡ front ++ (flat_map (leaf_record s.size) g ++ zs)
    → length front ≡ 4 + s.size * j → j + length g ≡ n → AllByRecursion (Fits s) g → some_child is_there s page j ≡ false
    → (leaf_pairs s page j ++ g ≡ leaf_pairs s page n) × (some_child is_there s page n ≡ false)
leaf_reads s [] front zs page j n room is long e fits before =
    let same : n ≡ j = omega arith in
    rw same (append-nil (leaf_pairs s page j), before)
leaf_reads s (p ∷ g) front zs page j n room is long e fits before =
    let r : List ℕ = leaf_record s.size p in
    let rest : List ℕ = flat_map (leaf_record s.size) g ++ zs in
    let here : page ≡ front ++ (r ++ rest) = is ∙ ap (λ (xs : List ℕ). front ++ xs) (append_assoc r (flat_map (leaf_record s.size) g) zs) in
    let next : page ≡ (front ++ r) ++ rest = here ∙ sym (append_assoc front r rest) in
    let at : leaf_pair s page j ≡ p = rw here (leaf_pair_at s front rest p j long fits.0) in
    let null : child s page j ≡ 0 = rw here (null_at s front rest p j long) in
    let size : length r ≡ s.size = length_leaf_record s.size p (omega (arith, fits.0.long)) in
    let after : some_child is_there s page (suc j) ≡ false = rw (before, null) refl in
    let more = leaf_reads s g (front ++ r) zs page (suc j) n room next (omega (arith, length-append front r)) (omega arith) fits.1 after in
    let shift : leaf_pairs s page j ++ p ∷ g ≡ leaf_pairs s page (suc j) ++ g = sym (append_assoc (leaf_pairs s page j) (leaf_pair s page j ∷ []) g ∙ ap (λ q. leaf_pairs s page j ++ q ∷ g) at) in
    (shift ∙ more.0, more.1)

pub zeros_u32 : (n : ℕ) → u32_at (little_bytes 4 0 ++ replicate (suc (suc (suc (suc n)))) 0) 4 ≡ 0
unfolding u32_at
zeros_u32 n = refl

-- the first child pointer of a leaf, also of an empty one
pub first_null : (s : PageLayout) (g : List Pair) → child s (leaf_page s.size g) 0 ≡ 0
unfolding leaf_page filled_page
first_null s [] = rw at no_child
  where
    at : 4 + s.size * 0 ≡ 4
    at = omega arith

    no_child : u32_at (little_bytes 4 0 ++ replicate (PAGE - 4) 0) 4 ≡ 0
    no_child = zeros_u32 MAX_RECORDS_BYTES
first_null s (p ∷ g) =
    let front : List ℕ = little_bytes 4 (length (p ∷ g)) in
    let r : List ℕ = leaf_record s.size p in
    let more : List ℕ = flat_map (leaf_record s.size) g in
    let zs : List ℕ = replicate (PAGE - length (front ++ (r ++ more))) 0 in
    let is : (front ++ (r ++ more)) ++ zs ≡ front ++ (r ++ (more ++ zs)) = append_assoc front (r ++ more) zs ∙ ap (λ (xs : List ℕ). front ++ xs) (append_assoc r more zs) in
    rw is (null_at s front (more ++ zs) p 0 (omega arith))

pub leaf_node : (s : PageLayout) (g : List Pair) → s.key_len + 8 ≤ s.size → length g * s.size ≤ MAX_RECORDS_BYTES → length g < 2 ^ 32 → AllByRecursion (Fits s) g → node_of s (leaf_page s.size g) ≡ Ok (leaf g)
unfolding node_of page_tests page_node leaf_page filled_page
leaf_node s g room count_bounded bounded fits =
    let front : List ℕ = little_bytes 4 (length g) in
    let body : List ℕ = flat_map (leaf_record s.size) g in
    let zs : List ℕ = replicate (PAGE - length (front ++ body)) 0 in
    let page : List ℕ = (front ++ body) ++ zs in
    let is : page ≡ front ++ (body ++ zs) = append_assoc front body zs in
    let count : u32_at page 0 ≡ length g = rw is (u32_reads [] (body ++ zs) (length g) 0 refl bounded) in
    let reads = leaf_reads s g front zs page 0 (length g) room is (omega arith) (omega arith) fits refl in
    let first : child s page 0 ≡ 0 = first_null s g in
    let fit : nat_le (4 + length g * s.size) PAGE ≡ true = le-leb (4 + length g * s.size) PAGE (omega arith) in
    rw (first, count, fit, reads.1, ← reads.0) refl

-- a child pointer as it is read
pub record IsChild (s : PageLayout) (t : ChildEntry) : Type 0 where
  pub some : 1 ≤ t.page
  pub bounded : t.page < 2 ^ 32
  pub short : length t.key + 8 ≤ s.size

not_null : (p : ℕ) → 1 ≤ p → is_null p ≡ false
not_null p h = ne_eqb p 0 (λ e. absurd (omega arith))

record_child : (s : PageLayout) (front rest : List ℕ) (x n : ℕ) (key : List ℕ) (i : ℕ) → length front ≡ 4 + s.size * i → x < 2 ^ 32 → child s (front ++ (key_record s.size x n key ++ rest)) i ≡ x
unfolding key_record
record_child s front rest x n key i e h = child_at s front ((little_bytes 4 n ++ (key ++ replicate (s.size - 8 - length key) 0)) ++ rest) x i e h

pub inner_reads : (s : PageLayout) (t : ChildEntry) (g : List ChildEntry) (front zs page : List ℕ) (j n : ℕ) → page ≡ front ++ (inner_records s.size (t ∷ g) ++ zs)
    → length front ≡ 4 + s.size * j → j + suc (length g) ≡ n → AllByRecursion (IsChild s) (t ∷ g) → some_child is_null s page j ≡ false
    → (children s page j ++ map (λ t. t.page) (t ∷ g) ≡ children s page n) × (some_child is_null s page n ≡ false)
unfolding inner_records
inner_reads s t [] front zs page j n is long e fits before =
    let same : n ≡ suc j = omega arith in
    let at : child s page j ≡ t.page = rw is (child_at s front zs t.page j long fits.0.bounded) in
    let there : is_null (child s page j) ≡ false = rw at (not_null t.page fits.0.some) in
    let after : some_child is_null s page (suc j) ≡ false = rw (before, there) refl in
    rw same (ap (λ q. children s page j ++ q ∷ []) (sym at), after)
inner_reads s t (u ∷ g) front zs page j n is long e fits before =
    let r : List ℕ = key_record s.size t.page 0 t.key in
    let rest : List ℕ = inner_records s.size (u ∷ g) ++ zs in
    let here : page ≡ front ++ (r ++ rest) = is ∙ ap (λ (xs : List ℕ). front ++ xs) (append_assoc r (inner_records s.size (u ∷ g)) zs) in
    let next : page ≡ (front ++ r) ++ rest = here ∙ sym (append_assoc front r rest) in
    let at : child s page j ≡ t.page = rw here (record_child s front rest t.page 0 t.key j long fits.0.bounded) in
    let there : is_null (child s page j) ≡ false = rw at (not_null t.page fits.0.some) in
    let after : some_child is_null s page (suc j) ≡ false = rw (before, there) refl in
    let size : length r ≡ s.size = length-key_record s.size t.page 0 t.key fits.0.short in
    let more = inner_reads s u g (front ++ r) zs page (suc j) n next (omega (arith, length-append front r)) (omega arith) fits.1 after in
    let shift : children s page j ++ map (λ t. t.page) (t ∷ u ∷ g) ≡ children s page (suc j) ++ map (λ t. t.page) (u ∷ g) =
    sym (append_assoc (children s page j) (child s page j ∷ []) (map (λ t. t.page) (u ∷ g)) ∙ ap (λ q. children s page j ++ q ∷ map (λ t. t.page) (u ∷ g)) at) in
    (shift ∙ more.0, more.1)

first_child : (s : PageLayout) (t u : ChildEntry) (g : List ChildEntry) (zs front page : List ℕ) → page ≡ front ++ (inner_records s.size (t ∷ u ∷ g) ++ zs) → length front ≡ 4 + s.size * 0 → t.page < 2 ^ 32 → child s page 0 ≡ t.page
unfolding inner_records
first_child s t u g zs front page is long bounded =
    let r : List ℕ = key_record s.size t.page 0 t.key in
    let rest : List ℕ = inner_records s.size (u ∷ g) in
    rw (is ∙ ap (λ (xs : List ℕ). front ++ xs) (append_assoc r rest zs)) (record_child s front (rest ++ zs) t.page 0 t.key 0 long bounded)

pub inner_node : (s : PageLayout) (t u : ChildEntry) (g : List ChildEntry) → (length g + 1) * s.size ≤ MAX_RECORDS_BYTES → length g + 1 < 2 ^ 32 → AllByRecursion (IsChild s) (t ∷ u ∷ g)
    → node_of s (inner_page s.size (t ∷ u ∷ g)) ≡ Ok (inner (map (λ t. t.page) (t ∷ u ∷ g)))
unfolding node_of page_tests page_node inner_page filled_page
inner_node s t u g count_bounded bounded fits =
    let front : List ℕ = little_bytes 4 (length (t ∷ u ∷ g) - 1) in
    let body : List ℕ = inner_records s.size (t ∷ u ∷ g) in
    let zs : List ℕ = replicate (PAGE - length (front ++ body)) 0 in
    let page : List ℕ = (front ++ body) ++ zs in
    let is : page ≡ front ++ (body ++ zs) = append_assoc front body zs in
    let keys : length (t ∷ u ∷ g) - 1 ≡ length g + 1 = omega arith in
    let count : u32_at page 0 ≡ length g + 1 = rw is (u32_reads [] (body ++ zs) (length (t ∷ u ∷ g) - 1) 0 refl (omega arith)) ∙ keys in
    let reads = inner_reads s t (u ∷ g) front zs page 0 (length g + 1 + 1) is (omega arith) (omega arith) fits refl in
    let first : child s page 0 ≡ t.page = first_child s t u g zs front page is (omega arith) fits.0.bounded in
    let there : is_null t.page ≡ false = not_null t.page fits.0.some in
    let fit : nat_le (8 + (length g + 1) * s.size) PAGE ≡ true = le-leb (8 + (length g + 1) * s.size) PAGE (omega arith) in
    rw (first, there, count, fit, reads.1, ← reads.0) refl

-- ---- lengths

pub pairs_short : (s : PageLayout) (g : List Pair) → s.key_len + 8 ≤ s.size → AllByRecursion (Fits s) g → AllByRecursion (λ p. length p.key + 8 ≤ s.size) g
pairs_short s g room = all_weaker (Fits s) (λ p. length p.key + 8 ≤ s.size) (λ p fits. omega (arith, fits.long)) g

pub entries_short : (s : PageLayout) (g : List ChildEntry) → AllByRecursion (IsChild s) g → AllByRecursion (λ t. length t.key + 8 ≤ s.size) g
entries_short s = all_weaker (IsChild s) (λ t. length t.key + 8 ≤ s.size) (λ t fits. fits.short)

pub length_pairs : (size : ℕ) (g : List Pair) → AllByRecursion (λ p. length p.key + 8 ≤ size) g → length (flat_map (leaf_record size) g) ≡ length g * size
length_pairs size [] h = omega arith
length_pairs size (p ∷ g) h =
    omega (arith, length-append (leaf_record size p) (flat_map (leaf_record size) g), length_leaf_record size p h.0, length_pairs size g h.1)

pub length_leaf_page : (size k : ℕ) (g : List Pair) → k * size ≤ MAX_RECORDS_BYTES → length g ≤ k → AllByRecursion (λ p. length p.key + 8 ≤ size) g → length (leaf_page size g) ≡ PAGE
unfolding leaf_page
length_leaf_page size k g fit count_bounded short =
    let front : List ℕ = little_bytes 4 (length g) in
    let body : List ℕ = flat_map (leaf_record size) g in
    length-filled_page (front ++ body) (omega (arith, length-append front body, length_pairs size g short, mul-le-mul_right size count_bounded))

pub length_children : (size : ℕ) (t : ChildEntry) (g : List ChildEntry) → AllByRecursion (λ u. length u.key + 8 ≤ size) (t ∷ g) → length (inner_records size (t ∷ g)) ≡ length g * size + 4
unfolding inner_records
length_children size t [] h = omega arith
length_children size t (u ∷ g) h =
    let r : List ℕ = key_record size t.page 0 t.key in
    omega (arith, length-append r (inner_records size (u ∷ g)), length-key_record size t.page 0 t.key h.0, length_children size u g h.1)

pub length_inner_page : (size k : ℕ) (g : List ChildEntry) → k * size ≤ MAX_RECORDS_BYTES → 1 ≤ length g → length g ≤ k + 1 → AllByRecursion (λ t. length t.key + 8 ≤ size) g → length (inner_page size g) ≡ PAGE
unfolding inner_page
length_inner_page size k [] fit some count_bounded short = absurd (omega arith)
length_inner_page size k (t ∷ g) fit some count_bounded short =
    let front : List ℕ = little_bytes 4 (length (t ∷ g) - 1) in
    let body : List ℕ = inner_records size (t ∷ g) in
    let within : length g ≤ k = omega arith in
    length-filled_page (front ++ body) (omega (arith, length-append front body, length_children size t g short, mul-le-mul_right size within))
