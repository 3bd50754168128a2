-- The file that is written of an index is an index file with its pairs.
use Rattle.std.proofs.Common.{◌≡◌, ◌≢◌, ℕ, zero, suc, ◌+◌, ◌-◌, ◌*◌, ◌^◌, ◌<◌, ◌≤◌, true, false, cond, nat_eq, List, [], ◌∷◌, ◌++◌, length, map, drop, refl, ap, sym, ◌∙◌, subst, inl, inr, ◌⊎◌, append_assoc, arith}
use Rattle.std.specs.List.{AllByRecursion, IsDistinct}
use Rattle.std.proofs.lemmas.Bool.{cases_eq, cases_lt, ne_eqb, eq-eqb}
use Rattle.std.proofs.lemmas.Bool.Decides.{nat_tests}
use Rattle.std.proofs.lemmas.List.{take_at, drop_at, length-append, length-map, map-append}
use Rattle.ndx_index.specs.declared.pair.Pair.{Pair}
use Rattle.ndx_index.specs.declared.read.page.PageLayout.{PageLayout}
use Rattle.ndx_index.specs.Pages.{inner, page_of, is_page}
use Rattle.ndx_index.specs.NdxTree.{Trees, none, at_leaf, at_inner, Holds}
use Rattle.ndx_index.specs.Image.{ChildEntry, child_entries, last_of, last_key, last_entry_key, leaf_page, inner_page, next_level, levels_above}
use Rattle.ndx_index.proofs.Laws.{trees_split}
use Rattle.ndx_index.proofs.Grouped.{joined, next-join, next_half, short_groups, HasSize, inner_groups, all_groups}
use Rattle.ndx_index.proofs.PageBytes.{Fits, IsChild, leaf_node, inner_node, pairs_short, entries_short, length_leaf_page, length_inner_page}
use Rattle.std.proofs.Math.Nat.{mul-le-mul_right}
use Rattle.ndx_index.specs.declared.format.TheConstants.{MAX_RECORDS_BYTES, PAGE}

-- ---- pages at their places

-- the pages of the file from number n on begin with these
abbrev pub AreAt : List ℕ → ℕ → List (List ℕ) → Type 0
AreAt bytes n [] = Unit {0}
AreAt bytes n (p ∷ ps) = (page_of bytes n ≡ p) × (PAGE * n + PAGE ≤ length bytes) × AreAt bytes (n + 1) ps

pub pages_at : (bytes front : List ℕ) (ps : List (List ℕ)) (n : ℕ) → bytes ≡ front ++ joined ps → length front ≡ PAGE * n → AllByRecursion (λ p. length p ≡ PAGE) ps → AreAt bytes n ps
pages_at bytes front [] n is long h = tt
pages_at bytes front (p ∷ ps) n is long h =
    let width : PAGE * n + PAGE - PAGE * n ≡ PAGE = omega arith in
    let after : drop (PAGE * n) bytes ≡ p ++ joined ps = rw is (drop_at front (p ++ joined ps) (PAGE * n) long) in (
      rw (width, after) (take_at p (joined ps) PAGE h.0),
      rw is (omega (arith, length-append front (p ++ joined ps), length-append p (joined ps), h.0)),
      pages_at bytes (front ++ p) ps (n + 1) (is ∙ sym (append_assoc front p (joined ps))) (omega (arith, length-append front p, h.0)) h.1,
    )

pub at_append : (bytes : List ℕ) (n m : ℕ) (ps qs : List (List ℕ)) → n + length ps ≡ m → AreAt bytes n (ps ++ qs) → AreAt bytes n ps × AreAt bytes m qs
at_append bytes n m [] qs e h =
    let same : m ≡ n = omega arith in
    (tt, rw same h)
at_append bytes n m (p ∷ ps) qs e h =
    let r = at_append bytes (n + 1) m ps qs (omega arith) h.2 in
    ((h.0, h.1, r.0), r.1)

page_there : (bytes : List ℕ) (p : ℕ) → 1 ≤ p → PAGE * p + PAGE ≤ length bytes → is_page bytes p ≡ true
page_there bytes p some whole = grind (arith, nat_tests)

-- ---- how often a page is among pages

abbrev pub hit : ℕ → ℕ → ℕ
hit r p = cond (nat_eq r p) 1 0

abbrev pub times : ℕ → List ℕ → ℕ
times r [] = 0
times r (p ∷ ps) = hit r p + times r ps

pub times-append : (r : ℕ) (ps qs : List ℕ) → times r (ps ++ qs) ≡ times r ps + times r qs
times-append r [] qs = omega arith
times-append r (p ∷ ps) qs = omega (arith, times-append r ps qs)

hit_cases : (r p : ℕ) → ((r ≡ p) × (hit r p ≡ 1)) ⊎ ((r ≢ p) × (hit r p ≡ 0))
hit_cases r p = elim (cases_eq r p) [
  | inl e ↦ inl (e, rw (eq-eqb r p e) refl)
  | inr ne ↦ inr (ne, rw (ne_eqb r p ne) refl)
]

not_among : (p : ℕ) (ps : List ℕ) → times p ps ≡ 0 → AllByRecursion (λ q. nat_eq p q ≡ false) ps
not_among p [] h = tt
not_among p (q ∷ qs) h = (ne_eqb p q (λ e. absurd (omega (arith, hit_cases p q))), not_among p qs (omega arith))

pub once_distinct : (ps : List ℕ) → ((r : ℕ) → times r ps ≤ 1) → IsDistinct nat_eq ps
unfolding IsDistinct
once_distinct [] h = tt
once_distinct (p ∷ ps) h = (not_among p ps (omega (arith, hit_cases p p, h p)), once_distinct ps (λ r. omega (arith, h r)))

abbrev pub numbers : List ChildEntry → List ℕ
numbers ts = map (λ t. t.page) ts

pub length-child_entries : {X : Type 0} (f : List X → List ℕ) (n : ℕ) (gs : List (List X)) → length (child_entries f n gs) ≡ length gs
length-child_entries f n [] = refl
length-child_entries f n (g ∷ gs) = ap suc (length-child_entries f (n + 1) gs)

pub record Run (n m : ℕ) (ps : List ℕ) : Type 0 where
  pub under : (r : ℕ) → r < n → times r ps ≡ 0
  pub over : (r : ℕ) → m ≤ r → times r ps ≡ 0
  pub once : (r : ℕ) → times r ps ≤ 1

pub child_entries_run : {X : Type 0} (f : List X → List ℕ) (n m : ℕ) (gs : List (List X)) → n + length gs ≡ m → Run n m (numbers (child_entries f n gs))
child_entries_run f n m [] e = record { under = λ r lt. refl; over = λ r le. refl; once = λ r. omega arith }
child_entries_run f n m (g ∷ gs) e =
    let rest = child_entries_run f (n + 1) m gs (omega arith) in
    record {
      under = λ r lt. omega (arith, hit_cases r n, rest.under r (omega arith));
      over = λ r le. omega (arith, hit_cases r n, rest.over r le);
      once = λ r. elim (cases_lt r (n + 1)) [
        | inl lt ↦ omega (arith, hit_cases r n, rest.under r lt)
        | inr le ↦ omega (arith, hit_cases r n, rest.once r)
      ];
    }

-- ---- one level above another

abbrev pub last_number : List ChildEntry → ℕ
last_number ts = last_of (λ t. t.page) 0 ts

pub last_of_child_entries : {X : Type 0} (f : List X → List ℕ) (n : ℕ) (gs : List (List X)) → 1 ≤ length gs → last_number (child_entries f n gs) + 1 ≡ n + length gs
last_of_child_entries f n [] some = absurd (omega arith)
last_of_child_entries f n (g ∷ []) some = omega arith
last_of_child_entries f n (g ∷ h ∷ gs) some = omega (arith, last_of_child_entries f (n + 1) (h ∷ gs) (omega arith))

pub child_entries_fit : {X : Type 0} (s : PageLayout) (f : List X → List ℕ) (n : ℕ) (gs : List (List X)) → 1 ≤ n → n + length gs ≤ 2 ^ 32 → AllByRecursion (λ g. length (f g) + 8 ≤ s.size) gs → AllByRecursion (IsChild s) (child_entries f n gs)
child_entries_fit s f n [] some bounded h = tt
child_entries_fit s f n (g ∷ gs) some bounded h = (record { some = some; bounded = omega arith; short = h.0 }, child_entries_fit s f (n + 1) gs (omega arith) (omega arith) h.1)

next_fits : (s : PageLayout) (k n : ℕ) (ts : List ChildEntry) → 1 ≤ n → 1 ≤ k → 8 ≤ s.size → n + length (next_level k ts) ≤ 2 ^ 32 → AllByRecursion (IsChild s) ts → AllByRecursion (IsChild s) (child_entries last_entry_key n (next_level k ts))
next_fits s k n ts some one eight bounded fits =
    let join : joined (next_level k ts) ≡ ts = next-join k ts one in
    child_entries_fit s last_entry_key n (next_level k ts) some bounded (short_groups (λ t. t.key) s.size (next_level k ts) eight (rw join (entries_short s ts fits)))

record Up (s : PageLayout) (bytes : List ℕ) (roots pages : List ℕ) (pairs : List Pair) : Type 0 where
  all : List ℕ
  tree : Trees s bytes roots all pairs
  times_are : (r : ℕ) → times r all ≡ times r pages + times r roots

module _ (s : PageLayout) (bytes : List ℕ) where
  holds_inner : (k n : ℕ) (g : List ChildEntry) → 1 ≤ n → k * s.size ≤ MAX_RECORDS_BYTES → k ≤ MAX_RECORDS_BYTES → HasSize 2 (k + 1) g → AllByRecursion (IsChild s) g
      → page_of bytes n ≡ inner_page s.size g → PAGE * n + PAGE ≤ length bytes → Holds s bytes n (inner (numbers g))
  holds_inner k n [] some room count_bounded size fits is whole = absurd (omega (arith, size.low))
  holds_inner k n (t ∷ []) some room count_bounded size fits is whole = absurd (omega (arith, size.low))
  holds_inner k n (t ∷ u ∷ g) some room count_bounded size fits is whole =
      let high : length g + 1 ≤ k = omega (arith, size.high) in
      let fit : (length g + 1) * s.size ≤ k * s.size = mul-le-mul_right s.size high in
      record { whole = page_there bytes n some whole; keeps = rw is (inner_node s t u g (omega arith) (omega arith) fits) }

  up_trees : (k n : ℕ) (gs : List (List ChildEntry)) (pages : List ℕ) (pairs : List Pair) → 1 ≤ n → k * s.size ≤ MAX_RECORDS_BYTES → k ≤ MAX_RECORDS_BYTES
      → AllByRecursion (HasSize 2 (k + 1)) gs → AllByRecursion (AllByRecursion (IsChild s)) gs → AreAt bytes n (map (inner_page s.size) gs)
      → Trees s bytes (numbers (joined gs)) pages pairs → Up s bytes (numbers (child_entries last_entry_key n gs)) pages pairs
  up_trees k n [] pages pairs some room count_bounded sizes fits at t = record { all = pages; tree = t; times_are = λ r. omega arith }
  up_trees k n (g ∷ gs) pages pairs some room count_bounded sizes fits at t =
      let parted : Trees s bytes (numbers g ++ numbers (joined gs)) pages pairs = subst (λ rs. Trees s bytes rs pages pairs) (map-append (λ t. t.page) g (joined gs)) t in
      let parts = trees_split s bytes (numbers g) (numbers (joined gs)) parted in
      let more = up_trees k (n + 1) gs parts.rest parts.others (omega arith) room count_bounded sizes.1 fits.1 at.2 parts.right in
      let holds = holds_inner k n g some room count_bounded sizes.0 fits.0 at.0 at.1 in
      let whole : Trees s bytes (n ∷ numbers (child_entries last_entry_key (n + 1) gs)) (n ∷ (parts.below ++ more.all)) (parts.own ++ parts.others) = at_inner holds parts.left more.tree in
      record {
        all = n ∷ (parts.below ++ more.all);
        tree = subst (λ qs. Trees s bytes (n ∷ numbers (child_entries last_entry_key (n + 1) gs)) (n ∷ (parts.below ++ more.all)) qs) (sym parts.pairs_are) whole;
        times_are = λ r.
            let a : times r pages ≡ times r parts.below + times r parts.rest = ap (λ ps. times r ps) parts.pages_are ∙ times-append r parts.below parts.rest in
            let b : times r (parts.below ++ more.all) ≡ times r parts.below + times r more.all = times-append r parts.below more.all in
            let c : times r more.all ≡ times r parts.rest + times r (numbers (child_entries last_entry_key (n + 1) gs)) = more.times_are r in
            omega arith;
      }

  -- the trees of a level whose pages are numbered below n
  pub record LevelTrees (n : ℕ) (ts : List ChildEntry) (pairs : List Pair) : Type 0 where
    pub pages : List ℕ
    pub tree : Trees s bytes (numbers ts) pages pairs
    pub once : (r : ℕ) → times r pages ≤ 1
    pub under : (r : ℕ) → n ≤ r → times r pages ≡ 0

  pub record Rooted (root : ℕ) (pairs : List Pair) : Type 0 where
    pub pages : List ℕ
    pub tree : Trees s bytes (root ∷ []) pages pairs
    pub once : (r : ℕ) → times r pages ≤ 1

  next : (k n m : ℕ) (ts : List ChildEntry) (pairs : List Pair) → 1 ≤ n → 2 ≤ k → k * s.size ≤ MAX_RECORDS_BYTES → k ≤ MAX_RECORDS_BYTES → length ts ≢ 1 → AllByRecursion (IsChild s) ts
      → n + length (next_level k ts) ≡ m → AreAt bytes n (map (inner_page s.size) (next_level k ts)) → LevelTrees n ts pairs → LevelTrees m (child_entries last_entry_key n (next_level k ts)) pairs
  next k n m ts pairs some two room count_bounded many fits e at level =
      let gs : List (List ChildEntry) = next_level k ts in
      let join : joined gs ≡ ts = next-join k ts (omega arith) in
      let up = up_trees k n gs level.pages pairs some room count_bounded (inner_groups k (length ts) ts two many) (all_groups (IsChild s) gs (rw join fits)) at (rw join level.tree) in
      let run = child_entries_run last_entry_key n m gs e in
      record {
        pages = up.all;
        tree = up.tree;
        once = λ r. elim (cases_lt r n) [
          | inl lt ↦ omega (arith, up.times_are r, level.once r, run.under r lt)
          | inr le ↦ omega (arith, up.times_are r, level.under r le, run.once r)
        ];
        under = λ r le. omega (arith, up.times_are r, level.under r (omega arith), run.over r le);
      }

  pub levels_tree : (fuel k n root : ℕ) (ts : List ChildEntry) (pairs : List Pair) → 1 ≤ n → 2 ≤ k → 8 ≤ s.size → k * s.size ≤ MAX_RECORDS_BYTES → k ≤ MAX_RECORDS_BYTES → 1 ≤ length ts → length ts ≤ fuel
      → n + length ts ≤ 2 ^ 32 → AllByRecursion (IsChild s) ts → last_number ts + 1 ≡ n → n + length (levels_above fuel k n ts) ≡ root + 1
      → AreAt bytes n (map (inner_page s.size) (levels_above fuel k n ts)) → LevelTrees n ts pairs → Rooted root pairs
  levels_tree zero k n root ts pairs some two eight room count_bounded one enough bounded fits last e at level = absurd (omega arith)
  levels_tree (suc f) k n root [] pairs some two eight room count_bounded one enough bounded fits last e at level = absurd (omega arith)
  levels_tree (suc f) k n root (t ∷ []) pairs some two eight room count_bounded one enough bounded fits last e at level =
      let same : root ≡ t.page = omega arith in
      rw same (record { pages = level.pages; tree = level.tree; once = level.once })
  levels_tree (suc f) k n root (t ∷ u ∷ ts) pairs some two eight room count_bounded one enough bounded fits last e at level =
      let all : List ChildEntry = t ∷ u ∷ ts in
      let gs : List (List ChildEntry) = next_level k all in
      let m : ℕ = n + length gs in
      let ups : List ChildEntry = child_entries last_entry_key n gs in
      let above : List (List ChildEntry) = levels_above f k m ups in
      let many : length all ≢ 1 = λ h. absurd (omega arith) in
      let half : length gs + length gs ≤ length all = next_half k all two many in
      let parts = at_append bytes n m (map (inner_page s.size) gs) (map (inner_page s.size) above) (omega (arith, length-map gs (inner_page s.size))) (subst (λ ps. AreAt bytes n ps) (map-append (inner_page s.size) gs above) at) in
      let up = next k n m all pairs some two room count_bounded many fits refl parts.0 level in
      let long : length ups ≡ length gs = length-child_entries last_entry_key n gs in
      levels_tree f k m root ups pairs (omega arith) two eight room count_bounded (omega arith) (omega arith) (omega arith)
      (next_fits s k n all some (omega arith) eight (omega arith) fits) (last_of_child_entries last_entry_key n gs (omega arith))
      (omega (arith, length-append gs above)) parts.1 up

  -- ---- the leaves

  pub leaf_trees : (k n : ℕ) (gs : List (List Pair)) → 1 ≤ n → s.key_len + 8 ≤ s.size → k * s.size ≤ MAX_RECORDS_BYTES → k ≤ MAX_RECORDS_BYTES → AllByRecursion (HasSize 0 k) gs → AllByRecursion (AllByRecursion (Fits s)) gs
      → AreAt bytes n (map (leaf_page s.size) gs) → Trees s bytes (numbers (child_entries last_key n gs)) (numbers (child_entries last_key n gs)) (joined gs)
  leaf_trees k n [] some room fit count_bounded sizes fits at = none
  leaf_trees k n (g ∷ gs) some room fit count_bounded sizes fits at =
      let product : length g * s.size ≤ k * s.size = mul-le-mul_right s.size sizes.0.high in
      let node = leaf_node s g room (omega arith) (omega (arith, sizes.0.high)) fits.0 in
      at_leaf (record { whole = page_there bytes n some at.1; keeps = rw at.0 node }) (leaf_trees k (n + 1) gs (omega arith) room fit count_bounded sizes.1 fits.1 at.2)

-- ---- the pages' lengths

module _ (s : PageLayout) where
  pub leaves_long : (k : ℕ) (gs : List (List Pair)) → s.key_len + 8 ≤ s.size → k * s.size ≤ MAX_RECORDS_BYTES → AllByRecursion (HasSize 0 k) gs → AllByRecursion (AllByRecursion (Fits s)) gs
      → AllByRecursion (λ p. length p ≡ PAGE) (map (leaf_page s.size) gs)
  leaves_long k [] room fit sizes fits = tt
  leaves_long k (g ∷ gs) room fit sizes fits = (length_leaf_page s.size k g fit sizes.0.high (pairs_short s g room fits.0), leaves_long k gs room fit sizes.1 fits.1)

  groups_long : (k : ℕ) (gs : List (List ChildEntry)) → k * s.size ≤ MAX_RECORDS_BYTES → AllByRecursion (HasSize 2 (k + 1)) gs → AllByRecursion (AllByRecursion (IsChild s)) gs
      → AllByRecursion (λ p. length p ≡ PAGE) (map (inner_page s.size) gs)
  groups_long k [] fit sizes fits = tt
  groups_long k (g ∷ gs) fit sizes fits = (length_inner_page s.size k g fit (omega (arith, sizes.0.low)) sizes.0.high (entries_short s g fits.0), groups_long k gs fit sizes.1 fits.1)

  pub all_both : (P : List ℕ → Type 0) (ps qs : List (List ℕ)) → AllByRecursion P ps → AllByRecursion P qs → AllByRecursion P (ps ++ qs)
  all_both P [] qs h k = k
  all_both P (p ∷ ps) qs h k = (h.0, all_both P ps qs h.1 k)

  pub record Above (k : ℕ) (ts : List ChildEntry) (above : List (List ChildEntry)) : Type 0 where
    pub long : AllByRecursion (λ p. length p ≡ PAGE) (map (inner_page s.size) above)
    pub count_bounded : length above ≤ length ts

  pub levels_long : (fuel k n : ℕ) (ts : List ChildEntry) → 1 ≤ n → 2 ≤ k → 8 ≤ s.size → k * s.size ≤ MAX_RECORDS_BYTES → n + length ts ≤ 2 ^ 32 → AllByRecursion (IsChild s) ts → Above k ts (levels_above fuel k n ts)
  levels_long zero k n ts some two eight fit bounded fits = record { long = tt; count_bounded = omega arith }
  levels_long (suc f) k n [] some two eight fit bounded fits = record { long = tt; count_bounded = omega arith }
  levels_long (suc f) k n (t ∷ []) some two eight fit bounded fits = record { long = tt; count_bounded = omega arith }
  levels_long (suc f) k n (t ∷ u ∷ ts) some two eight fit bounded fits =
      let all : List ChildEntry = t ∷ u ∷ ts in
      let gs : List (List ChildEntry) = next_level k all in
      let ups : List ChildEntry = child_entries last_entry_key n gs in
      let above : List (List ChildEntry) = levels_above f k (n + length gs) ups in
      let many : length all ≢ 1 = λ h. absurd (omega arith) in
      let join : joined gs ≡ all = next-join k all (omega arith) in
      let half : length gs + length gs ≤ length all = next_half k all two many in
      let long : length ups ≡ length gs = length-child_entries last_entry_key n gs in
      let more = levels_long f k (n + length gs) ups (omega arith) two eight fit (omega arith) (next_fits s k n all some (omega arith) eight (omega arith) fits) in
      let pages = groups_long k gs fit (inner_groups k (length all) all two many) (all_groups (IsChild s) gs (rw join fits)) in
      record {
        long = subst (λ ps. AllByRecursion (λ p. length p ≡ PAGE) ps) (sym (map-append (inner_page s.size) gs above)) (all_both (λ p. length p ≡ PAGE) (map (inner_page s.size) gs) (map (inner_page s.size) above) pages more.long);
        count_bounded = omega (arith, length-append gs above, more.count_bounded);
      }
