-- What is done to a page's slots is done to the page.
use Rattle.std.proofs.Common.{◌≡◌, ◌≢◌, ℕ, zero, suc, ◌+◌, ◌-◌, ◌*◌, ◌^◌, ◌<◌, ◌≤◌, List, [], ◌∷◌, ◌++◌, length, take, drop, set, get_or, refl, sym, ap, ◌∙◌, append_assoc, arith}
use Rattle.std.specs.List.{insert, remove, copy_within}
use Rattle.std.proofs.lemmas.List.{length-drop, length-take-le, take-take, drop-take, drop-drop, take-append-le, drop-append-le, take_at, nil_from_length, set_split, drop_at, get_or-take, get_or-drop, get_or_read, get_or-set_other, length-set}
use Rattle.std.proofs.lemmas.List.Edits.{take-paste, drop-paste, length-paste}
use lib.Seq.{paste}
use Rattle.ndx_index.specs.declared.pair.Pair.{Pair}
use Rattle.ndx_index.specs.Slots.{slot_at, no_pair}
use Rattle.ndx_index.specs.declared.pages.pair_pages.PairPages.TheInside.{Inside}
use Rattle.ndx_index.specs.PairPages.{Pages, pages_of, page_at, AreSmall, pages_view, ArePages}

pub length-pages : (cs : List ℕ) (ps : List Pair) → length (pages_of cs ps) ≡ length cs
length-pages [] ps = refl
length-pages (c ∷ cs) ps = ap suc (length-pages cs (drop 16 ps))

step : (p : ℕ) → suc p * 16 ≡ 16 + p * 16
step p = omega arith

pub page_there : (cs : List ℕ) (ps : List Pair) (p : ℕ) → p < length cs → page_at (pages_of cs ps) p ≡ take (get_or cs p 0) (drop (p * 16) ps)
page_there [] ps p lt = absurd (omega arith)
page_there (c ∷ cs) ps zero lt = refl
page_there (c ∷ cs) ps (suc p) lt = rw (step p, ← drop-drop (p * 16) 16 ps) (page_there cs (drop 16 ps) p (omega arith))

pub small_there : (cs : List ℕ) (p : ℕ) → AreSmall cs → p < length cs → get_or cs p 0 ≤ 16
small_there [] p bounded lt = absurd (omega arith)
small_there (c ∷ cs) zero bounded lt = bounded.0
small_there (c ∷ cs) (suc p) bounded lt = small_there cs p bounded.1 (omega arith)

pub small_set : (cs : List ℕ) (p c : ℕ) → AreSmall cs → c ≤ 16 → AreSmall (set cs p c)
small_set [] p c bounded le = tt
small_set (d ∷ cs) zero c bounded le = (le, bounded.1)
small_set (d ∷ cs) (suc p) c bounded le = (bounded.0, small_set cs p c bounded.1 le)

-- one page's slots changed, and no others
pub page_changed : (cs : List ℕ) (ps qs : List Pair) (p c : ℕ) → AreSmall cs → p < length cs → take (p * 16) qs ≡ take (p * 16) ps → drop (p * 16 + 16) qs ≡ drop (p * 16 + 16) ps
    → pages_of (set cs p c) qs ≡ set (pages_of cs ps) p (take c (drop (p * 16) qs))
page_changed [] ps qs p c bounded lt front back = absurd (omega arith)
page_changed (d ∷ cs) ps qs zero c bounded lt front back = ap (λ (l : List Pair). take c qs ∷ pages_of cs l) back
page_changed (d ∷ cs) ps qs (suc p) c bounded lt front back =
    let front' : take (16 + p * 16) qs ≡ take (16 + p * 16) ps = rw (← step p) front in
    let first : take d qs ≡ take d ps =
    sym (take-take d (16 + p * 16) qs (omega (arith, bounded.0))) ∙ ap (take d) front' ∙ take-take d (16 + p * 16) ps (omega (arith, bounded.0)) in
    let rest : take (p * 16) (drop 16 qs) ≡ take (p * 16) (drop 16 ps) = sym (drop-take 16 (p * 16) qs) ∙ ap (drop 16) front' ∙ drop-take 16 (p * 16) ps in
    let more : suc p * 16 + 16 ≡ 16 + (p * 16 + 16) = omega arith in
    let behind : drop (p * 16 + 16) (drop 16 qs) ≡ drop (p * 16 + 16) (drop 16 ps) =
    drop-drop (p * 16 + 16) 16 qs ∙ ap (λ (n : ℕ). drop n qs) (sym more) ∙ back ∙ ap (λ (n : ℕ). drop n ps) more ∙ sym (drop-drop (p * 16 + 16) 16 ps) in
    rw (step p, first, ← drop-drop (p * 16) 16 qs) (ap (λ (l : List (List Pair)). take d ps ∷ l) (page_changed cs (drop 16 ps) (drop 16 qs) p c bounded.1 (omega arith) rest behind))

-- m pairs written over the slots of a page from its i-th on
pub page_pasted : (cs : List ℕ) (ps more : List Pair) (p i m : ℕ) → AreSmall cs → p < length cs → length ps ≡ length cs * 16 → i + m ≤ 16 → m ≤ length more
    → pages_of (set cs p (i + m)) (paste ps (p * 16 + i) more m) ≡ set (pages_of cs ps) p (take i (drop (p * 16) ps) ++ take m more)
page_pasted cs ps more p i m bounded lt fit le enough =
    let within : p * 16 + 16 ≤ length ps = omega (arith, lt, fit) in
    let qs = paste ps (p * 16 + i) more m in
    let up : take (p * 16 + i + m) qs ≡ take (p * 16 + i) ps ++ take m more = take-paste ps (p * 16 + i) more m (omega (arith, within, le)) enough in
    let past : drop (p * 16 + i + m) qs ≡ drop (p * 16 + i + m) ps = drop-paste ps (p * 16 + i) more m (omega (arith, within, le)) enough in
    let long : length (take (p * 16 + i) ps) ≡ p * 16 + i = length-take-le (p * 16 + i) ps (omega (arith, within, le)) in
    let front : take (p * 16) qs ≡ take (p * 16) ps =
    sym (take-take (p * 16) (p * 16 + i + m) qs (omega arith)) ∙ ap (take (p * 16)) up ∙ take-append-le (p * 16) (take (p * 16 + i) ps) (take m more) (omega (arith, long)) ∙ take-take (p * 16) (p * 16 + i) ps (omega arith) in
    let sum : p * 16 + i + m + (16 - (i + m)) ≡ p * 16 + 16 = omega (arith, le) in
    let back : drop (p * 16 + 16) qs ≡ drop (p * 16 + 16) ps =
    ap (λ (n : ℕ). drop n qs) (sym sum) ∙ sym (drop-drop (16 - (i + m)) (p * 16 + i + m) qs) ∙ ap (drop (16 - (i + m))) past ∙ drop-drop (16 - (i + m)) (p * 16 + i + m) ps ∙ ap (λ (n : ℕ). drop n ps) sum in
    let assoc : p * 16 + i + m ≡ p * 16 + (i + m) = omega arith in
    let here : take (i + m) (drop (p * 16) qs) ≡ take i (drop (p * 16) ps) ++ take m more =
    sym (drop-take (p * 16) (i + m) qs) ∙ ap (λ (n : ℕ). drop (p * 16) (take n qs)) (sym assoc) ∙ ap (drop (p * 16)) up
    ∙ drop-append-le (p * 16) (take (p * 16 + i) ps) (take m more) (omega (arith, long)) ∙ ap (λ (l : List Pair). l ++ take m more) (drop-take (p * 16) i ps) in
    page_changed cs ps qs p (i + m) bounded lt front back ∙ ap (set (pages_of cs ps) p) here

-- slots moved up by one place, and a pair put before them
pub moved_up : (ps : List Pair) (a m : ℕ) (x : Pair) → a + m < length ps → set (paste ps (a + 1) (drop a ps) m) a x ≡ paste ps a (x ∷ drop a ps) (suc m)
moved_up ps a m x lt =
    let enough : m ≤ length (drop a ps) = omega (arith, length-drop a ps) in
    let front = take (a + 1) ps in
    let moved = take m (drop a ps) in
    let back = drop (a + 1 + m) ps in
    let long : length front ≡ a + 1 = length-take-le (a + 1) ps (omega arith) in
    let same : length (front ++ moved ++ back) ≡ length ps = length-paste ps (a + 1) (drop a ps) m (omega arith) enough in
    let first : take a (front ++ moved ++ back) ≡ take a ps =
    ap (take a) (append_assoc front moved back) ∙ take-append-le a front (moved ++ back) (omega (arith, long)) ∙ take-take a (a + 1) ps (omega arith) in
    let next : a + 1 ≡ suc a = omega arith in
    let rest : drop (suc a) (front ++ moved ++ back) ≡ moved ++ back =
    ap (drop (suc a)) (append_assoc front moved back) ∙ drop_at front (moved ++ back) (suc a) (long ∙ next) in
    let ends : a + 1 + m ≡ a + suc m = omega arith in
    let joined : take a ps ++ x ∷ (moved ++ back) ≡ take a ps ++ (x ∷ moved) ++ drop (a + suc m) ps =
    ap (λ (n : ℕ). take a ps ++ x ∷ (moved ++ drop n ps)) ends ∙ sym (append_assoc (take a ps) (x ∷ moved) (drop (a + suc m) ps)) in
    set_split (front ++ moved ++ back) a x (omega (arith, same)) ∙ rw (first, rest) joined

-- a pair put into a page of n pairs
pub page_inserted : (cs : List ℕ) (ps : List Pair) (p i n : ℕ) (x : Pair) → AreSmall cs → p < length cs → length ps ≡ length cs * 16 → i ≤ n → n < 16
    → pages_of (set cs p (n + 1)) (set (copy_within ps (p * 16 + i) (p * 16 + n) (p * 16 + i + 1)) (p * 16 + i) x) ≡ set (pages_of cs ps) p (insert (take n (drop (p * 16) ps)) i x)
page_inserted cs ps p i n x bounded lt fit le room =
    let within : p * 16 + 16 ≤ length ps = omega (arith, lt, fit) in
    let m = n - i in
    let low = p * 16 in
    let ys = drop low ps in
    let many : low + n - (low + i) ≡ m = omega arith in
    let count : n + 1 ≡ i + suc m = omega (arith, le) in
    let whole : i + m ≡ n = omega (arith, le) in
    let up : set (paste ps (low + i + 1) (drop (low + i) ps) m) (low + i) x ≡ paste ps (low + i) (x ∷ drop (low + i) ps) (suc m) = moved_up ps (low + i) m x (omega (arith, within, le, room)) in
    let enough : suc m ≤ length (x ∷ drop (low + i) ps) = omega (arith, length-drop (low + i) ps, within, le, room) in
    let law = page_pasted cs ps (x ∷ drop (low + i) ps) p i (suc m) bounded lt fit (omega (arith, le, room)) enough in
    let behind : take m (drop (low + i) ps) ≡ drop i (take n ys) =
    ap (take m) (sym (drop-drop i low ps)) ∙ sym (drop-take i m ys) ∙ ap (λ (k : ℕ). drop i (take k ys)) whole in
    let before : take i ys ≡ take i (take n ys) = sym (take-take i n ys le) in
    let page : take i ys ++ x ∷ take m (drop (low + i) ps) ≡ insert (take n ys) i x =
    ap (λ (l : List Pair). l ++ x ∷ take m (drop (low + i) ps)) before ∙ ap (λ (l : List Pair). take i (take n ys) ++ x ∷ l) behind in
    ap (λ (k : ℕ). pages_of (set cs p (n + 1)) (set (paste ps (low + i + 1) (drop (low + i) ps) k) (low + i) x)) many
    ∙ ap (pages_of (set cs p (n + 1))) up
    ∙ ap (λ (k : ℕ). pages_of (set cs p k) (paste ps (low + i) (x ∷ drop (low + i) ps) (suc m))) count
    ∙ law ∙ ap (set (pages_of cs ps) p) page

-- a pair taken out of a page of n pairs
pub page_removed : (cs : List ℕ) (ps : List Pair) (p i n : ℕ) → AreSmall cs → p < length cs → length ps ≡ length cs * 16 → i < n → n ≤ 16
    → pages_of (set cs p (n - 1)) (copy_within ps (p * 16 + i + 1) (p * 16 + n) (p * 16 + i)) ≡ set (pages_of cs ps) p (remove (take n (drop (p * 16) ps)) i)
page_removed cs ps p i n bounded lt fit le room =
    let within : p * 16 + 16 ≤ length ps = omega (arith, lt, fit) in
    let m = n - suc i in
    let low = p * 16 in
    let ys = drop low ps in
    let many : low + n - (low + i + 1) ≡ m = omega arith in
    let count : n - 1 ≡ i + m = omega (arith, le) in
    let whole : suc i + m ≡ n = omega (arith, le) in
    let place : low + i + 1 ≡ low + suc i = omega arith in
    let enough : m ≤ length (drop (low + suc i) ps) = omega (arith, length-drop (low + suc i) ps, within, le, room) in
    let law = page_pasted cs ps (drop (low + suc i) ps) p i m bounded lt fit (omega (arith, le, room)) enough in
    let behind : take m (drop (low + suc i) ps) ≡ drop (suc i) (take n ys) =
    ap (take m) (sym (drop-drop (suc i) low ps)) ∙ sym (drop-take (suc i) m ys) ∙ ap (λ (k : ℕ). drop (suc i) (take k ys)) whole in
    let before : take i ys ≡ take i (take n ys) = sym (take-take i n ys (omega (arith, le))) in
    let page : take i ys ++ take m (drop (low + suc i) ps) ≡ remove (take n ys) i =
    ap (λ (l : List Pair). l ++ take m (drop (low + suc i) ps)) before ∙ ap (λ (l : List Pair). take i (take n ys) ++ l) behind in
    ap (λ (k : ℕ). pages_of (set cs p (n - 1)) (paste ps (low + i) (drop (low + i + 1) ps) k)) many
    ∙ ap (λ (k : ℕ). pages_of (set cs p (n - 1)) (paste ps (low + i) (drop k ps) m)) place
    ∙ ap (λ (k : ℕ). pages_of (set cs p k) (paste ps (low + i) (drop (low + suc i) ps) m)) count
    ∙ law ∙ ap (set (pages_of cs ps) p) page

-- the pairs of a page of n pairs from its i-th on moved to another page
pub page_split : (cs : List ℕ) (ps : List Pair) (p q i n : ℕ) → AreSmall cs → p < length cs → q < length cs → q ≢ p → length ps ≡ length cs * 16 → get_or cs p 0 ≡ n → i ≤ n → n ≤ 16
    → pages_of (set (set cs q (n - i)) p i) (copy_within ps (p * 16 + i) (p * 16 + n) (q * 16))
    ≡ set (set (pages_of cs ps) q (drop i (take n (drop (p * 16) ps)))) p (take i (take n (drop (p * 16) ps)))
page_split cs ps p q i n bounded lt lt2 apart fit is le room =
    let within : p * 16 + 16 ≤ length ps = omega (arith, lt, fit) in
    let m = n - i in
    let low = p * 16 in
    let ys = drop low ps in
    let many : low + n - (low + i) ≡ m = omega arith in
    let whole : i + m ≡ n = omega (arith, le) in
    let start : q * 16 + 0 ≡ q * 16 = omega arith in
    let none : 0 + m ≡ m = omega arith in
    let qs = paste ps (q * 16) (drop (low + i) ps) m in
    let ds = set cs q m in
    let enough : m ≤ length (drop (low + i) ps) = omega (arith, length-drop (low + i) ps, within, le, room) in
    let behind : take m (drop (low + i) ps) ≡ drop i (take n ys) =
    ap (take m) (sym (drop-drop i low ps)) ∙ sym (drop-take i m ys) ∙ ap (λ (k : ℕ). drop i (take k ys)) whole in
    let law : pages_of (set cs q (0 + m)) (paste ps (q * 16 + 0) (drop (low + i) ps) m) ≡ set (pages_of cs ps) q (take m (drop (low + i) ps)) =
    page_pasted cs ps (drop (low + i) ps) q 0 m bounded lt2 fit (omega (arith, room)) enough in
    let moved : pages_of ds qs ≡ set (pages_of cs ps) q (drop i (take n ys)) =
    ap (λ (k : ℕ). pages_of (set cs q k) (paste ps (q * 16) (drop (low + i) ps) m)) (sym none)
    ∙ ap (λ (k : ℕ). pages_of (set cs q (0 + m)) (paste ps k (drop (low + i) ps) m)) (sym start) ∙ law ∙ ap (set (pages_of cs ps) q) behind in
    let same_count : length ds ≡ length cs = length-set cs q m in
    let lt3 : p < length ds = rw same_count lt in
    let other : p ≢ q = λ e. apart (sym e) in
    let stays : get_or ds p 0 ≡ n = get_or-set_other cs q p m 0 other ∙ is in
    let kept : take n (drop low qs) ≡ take n ys =
    ap (λ (k : ℕ). take k (drop low qs)) (sym stays) ∙ sym (page_there ds qs p lt3) ∙ ap (λ (l : List (List Pair)). page_at l p) moved
    ∙ get_or-set_other (pages_of cs ps) q p (drop i (take n ys)) [] other ∙ page_there cs ps p lt ∙ ap (λ (k : ℕ). take k ys) is in
    let front : take i (drop low qs) ≡ take i (take n ys) = sym (take-take i n (drop low qs) le) ∙ ap (take i) kept in
    let smaller : AreSmall ds = small_set cs q m bounded (omega (arith, room)) in
    ap (λ (k : ℕ). pages_of (set ds p i) (paste ps (q * 16) (drop (low + i) ps) k)) many
    ∙ page_changed ds qs qs p i smaller lt3 refl refl
    ∙ ap (set (pages_of ds qs) p) front ∙ ap (λ (l : List (List Pair)). set l p (take i (take n ys))) moved

-- one more page
pub page_pushed : (cs : List ℕ) (ps new more : List Pair) → AreSmall cs → length ps ≡ length cs * 16 → pages_of (cs ++ length new ∷ []) (ps ++ (new ++ more)) ≡ pages_of cs ps ++ new ∷ []
page_pushed [] ps new more bounded fit =
    let none : ps ≡ [] = nil_from_length ps fit in
    rw (none, take_at new more (length new) refl) refl
page_pushed (c ∷ cs) ps new more bounded fit =
    let long : length ps ≡ 16 + length cs * 16 = fit ∙ step (length cs) in
    let rest : length (drop 16 ps) ≡ length cs * 16 = length-drop 16 ps ∙ omega (arith, long) in
    rw (take-append-le c ps (new ++ more) (omega (arith, long, bounded.0)), drop-append-le 16 ps (new ++ more) (omega (arith, long)), page_pushed cs (drop 16 ps) new more bounded.1 rest) refl

-- where page p stands
pub record IsThere (x : Inside) (pages : List (List Pair)) (p : ℕ) : Type 0 where
  pub index : p < length x.counts.items
  pub slots : p * 16 + 16 ≤ length x.slots.pairs
  pub near : p * 16 + 16 < 2 ^ 64
  pub bounded : get_or x.counts.items p 0 ≤ 16
  pub page : page_at pages p ≡ take (get_or x.counts.items p 0) (drop (p * 16) x.slots.pairs)
  pub count : length (page_at pages p) ≡ get_or x.counts.items p 0

pub pages_count : (x : Inside) {now : Pages} → pages_view x ≡ now → length now.pages ≡ length x.counts.items
pages_count x e = rw (← e) (length-pages x.counts.items x.slots.pairs)

pub is_there : {x : Inside} {now : Pages} {p : ℕ} → pages_view x ≡ now → ArePages x → p < length now.pages → IsThere x now.pages p
is_there {x = x} {now = now} {p = p} e h lt =
    let index : p < length x.counts.items = omega (arith, lt, pages_count x e) in
    let bounded = small_there x.counts.items p h.bounded index in
    let slots : p * 16 + 16 ≤ length x.slots.pairs = omega (arith, index, h.fit) in
    let page : page_at now.pages p ≡ take (get_or x.counts.items p 0) (drop (p * 16) x.slots.pairs) = rw (← e) (page_there x.counts.items x.slots.pairs p index) in
    record {
      index = index;
      slots = slots;
      near = omega (arith, index, h.count_bounded);
      bounded = bounded;
      page = page;
      count = ap length page ∙ length-take-le (get_or x.counts.items p 0) (drop (p * 16) x.slots.pairs) (omega (arith, bounded, slots, length-drop (p * 16) x.slots.pairs));
    }

-- a pair of a page, by its slot
pub pair_in_page : {x : Inside} {pages : List (List Pair)} {p i : ℕ} → IsThere x pages p → i < length (page_at pages p) → slot_at x.slots.pairs (p * 16 + i) ≡ slot_at (page_at pages p) i
pair_in_page {x = x} {p = p} {i = i} t lt =
    let count = get_or x.counts.items p 0 in
    sym (ap (λ (l : List Pair). slot_at l i) t.page ∙ get_or-take count (drop (p * 16) x.slots.pairs) i no_pair (omega (arith, lt, t.count)) ∙ get_or-drop (p * 16) x.slots.pairs i no_pair)

-- what a page's count reads
pub count_read : {x : Inside} {pages : List (List Pair)} {p n : ℕ} → IsThere x pages p → n ≡ get_or x.counts.items p n → n ≡ length (page_at pages p)
count_read {x = x} {p = p} {n = n} t is = get_or_read x.counts.items p n t.index is 0 ∙ sym t.count

-- a page's slots are its pairs
pub page_slots : {x : Inside} {pages : List (List Pair)} {p : ℕ} → IsThere x pages p → take (length (page_at pages p)) (drop (p * 16) x.slots.pairs) ≡ page_at pages p
page_slots {x = x} {p = p} t = ap (λ (k : ℕ). take k (drop (p * 16) x.slots.pairs)) t.count ∙ sym t.page

-- what is done to the slots of a page is done to the page
pub page_edited : {x : Inside} {now : Pages} {p : ℕ} (f : List Pair → List Pair) → pages_view x ≡ now → IsThere x now.pages p
    → set (pages_of x.counts.items x.slots.pairs) p (f (take (length (page_at now.pages p)) (drop (p * 16) x.slots.pairs))) ≡ set now.pages p (f (page_at now.pages p))
page_edited {x = x} {now = now} {p = p} f e t = ap (λ (s : Pages). set s.pages p (f (take (length (page_at now.pages p)) (drop (p * 16) x.slots.pairs)))) e ∙ ap (λ (g : List Pair). set now.pages p (f g)) (page_slots t)
