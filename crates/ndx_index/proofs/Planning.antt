-- How many pages each level has.
use Rattle.std.proofs.Common.{◌≡◌, ℕ, zero, suc, ◌+◌, ◌-◌, ◌*◌, ◌/◌, ◌^◌, ◌<◌, ◌≤◌, inl, inr, List, [], ◌∷◌, length, set, refl, ap, sym, ◌∙◌, subst, arith, add-one}
use Rattle.std.specs.List.{AllByRecursion}
use Rattle.std.proofs.Math.Nat.{le-div_iff_mul-le, div-lt_iff_lt-mul, pow-le-pow_right, mul-le-mul_right}
use Rattle.std.proofs.lemmas.Bool.{cases_eq, cases_lt}
use Rattle.std.proofs.lemmas.List.{length-append, length-set, get_or-set_same, get_or-set_other}
use Rattle.ndx_index.specs.declared.format.TheConstants.{MAX_PAIRS}
use Rattle.ndx_index.specs.declared.write.plan.TheConstants.{LEVELS}
use Rattle.ndx_index.specs.declared.pair.Pair.{Pair}
use Rattle.ndx_index.specs.Image.{ChildEntry, child_entries, last_entry_key, last_key, leaves, leaf_group_size, next_level}
use Rattle.ndx_index.specs.Levels.{AreSizes, level}
use Rattle.ndx_index.proofs.Grouped.{joined, next-join, groups-join, leaf_groups, inner_groups, HasSize}
use Rattle.ndx_index.proofs.ReadBack.{length-child_entries}
use Rattle.ndx_index.proofs.ImageLaw.{leaves_few, leaves_some}
use Rattle.ndx_index.proofs.GreatestKeys.{times_suc, leaf_group_start, group_start, leaf_start}
use Rattle.ndx_index.proofs.LevelLaws.{half_as_many}

quotient : (n k c : ℕ) → zero < k → c * k ≤ n → n < (c + 1) * k → n / k ≡ c
quotient n k c some low high =
    let a : c ≤ n / k = (le-div_iff_mul-le {k = k} {x = c} {y = n} some).1 low in
    let b : n / k < c + 1 = (div-lt_iff_lt-mul {k = k} {x = n} {y = c + 1} some).1 high in
    omega arith

add_times : (c k : ℕ) → (c + 1) * k ≡ c * k + k
add_times c k = grind arith

count_high : {X : Type 0} (low high : ℕ) (gs : List (List X)) → AllByRecursion (HasSize low high) gs → length (joined gs) ≤ length gs * high
count_high low high [] h = omega arith
count_high low high (g ∷ gs) h = omega (arith, length-append g (joined gs), count_high low high gs h.1, h.0.high, times_suc (length gs) high)

-- the number of leaves
pub leaves_counted : (k : ℕ) (p : Pair) (ps : List Pair) → 1 ≤ k → length (leaves k (p ∷ ps)) ≡ length ps / k + 1
leaves_counted k p ps some =
    let gs : List (List Pair) = leaves k (p ∷ ps) in
    let n : ℕ = length (p ∷ ps) in
    let c : ℕ = length gs - 1 in
    let there : 1 ≤ length gs = leaves_some k (p ∷ ps) in
    let total : length (joined gs) ≡ n = ap (λ (xs : List Pair). length xs) (groups-join (leaf_group_size k) n (p ∷ ps) (omega arith) (λ m. some)) in
    let high : length (joined gs) ≤ length gs * k = count_high 1 k gs (leaf_groups k n (p ∷ ps) some) in
    let low : c * k < n = leaf_group_start k n c (p ∷ ps) some (omega arith) in
    let e : length gs ≡ c + 1 = omega arith in
    let wide : length gs * k ≡ (c + 1) * k = ap (λ (m : ℕ). m * k) e in
    let q : length ps / k ≡ c = quotient (length ps) k c (omega arith) (omega arith) (omega arith) in
    omega arith

-- the number of pages above these
pub level_counted : (k : ℕ) (ts : List ChildEntry) → 2 ≤ k → 2 ≤ length ts → length (next_level k ts) ≡ (length ts + k) / (k + 1)
level_counted k ts two many =
    let gs : List (List ChildEntry) = next_level k ts in
    let n : ℕ = length ts in
    let c : ℕ = length gs - 1 in
    let total : length (joined gs) ≡ n = ap (λ (xs : List ChildEntry). length xs) (next-join k ts (omega arith)) in
    let high : length (joined gs) ≤ length gs * (k + 1) = count_high 2 (k + 1) gs (inner_groups k n ts two (λ h. absurd (omega arith))) in
    let there : 1 ≤ length gs = some_group gs (k + 1) (omega arith) in
    let low : c * (k + 1) < n = group_start k n c ts two (λ h. absurd (omega arith)) (omega arith) in
    let e : length gs ≡ c + 1 = omega arith in
    let wide : length gs * (k + 1) ≡ c * (k + 1) + (k + 1) = ap (λ (m : ℕ). m * (k + 1)) e ∙ add_times c (k + 1) in
    let over : (length gs + 1) * (k + 1) ≡ length gs * (k + 1) + (k + 1) = add_times (length gs) (k + 1) in
    let q : (n + k) / (k + 1) ≡ length gs = quotient (n + k) (k + 1) (length gs) (omega arith) (omega arith) (omega arith) in
    sym q
  where
    some_group : {X : Type 0} (gs : List X) (m : ℕ) → 1 ≤ length gs * m → 1 ≤ length gs
    some_group [] m h = absurd (omega arith)
    some_group (g ∷ gs) m h = omega arith

-- what is known of a level and of the sizes below it, on the way up
pub record Reached (k : ℕ) (pairs : List Pair) (height first count : ℕ) (sizes : List ℕ) : Type 0 where
  pub below : AreSizes k pairs height sizes
  pub first_is : first ≡ (level k pairs height).first
  pub count_is : count ≡ length (level k pairs height).pages
  pub some : 1 ≤ count
  pub narrow : 2 ^ height * count ≤ 2 ^ 30
  pub depth : height ≤ 30
  pub low : first + 2 * count ≤ 2000000003
  pub long : length sizes ≡ LEVELS

pub reach_leaves : (k : ℕ) (pairs : List Pair) (count : ℕ) (sizes : List ℕ) → 1 ≤ k → length pairs ≤ MAX_PAIRS → count ≡ length (leaves k pairs) → length sizes ≡ LEVELS
    → Reached k pairs 0 1 count sizes
reach_leaves k pairs count sizes one count_bounded e long =
    let most : length (leaves k pairs) ≤ length pairs + 1 = leaves_few k pairs one in
    let there : 1 ≤ length (leaves k pairs) = leaves_some k pairs in
    let same : length (child_entries last_key 1 (leaves k pairs)) ≡ length (leaves k pairs) = length-child_entries last_key 1 (leaves k pairs) in
    record {
      below = record { each = λ l lt. absurd (omega arith); several = λ l lt. absurd (omega arith) };
      first_is = refl;
      count_is = e ∙ sym same;
      some = omega arith;
      narrow = omega arith;
      depth = omega arith;
      low = omega arith;
      long = long;
    }

power : (h : ℕ) → 2 ^ (h + 1) ≡ 2 ^ h + 2 ^ h
power h = rw (add-one) (omega arith)

halved : (h a c : ℕ) → a + a ≤ c → (h + h) * a ≤ h * c
halved h a c e =
    let left : (h + h) * a ≡ (a + a) * h = grind arith in
    let right : h * c ≡ c * h = grind arith in
    rw (left, right) (mul-le-mul_right h e)

shallow : (h c : ℕ) → 2 ≤ c → 2 ^ h * c ≤ 2 ^ 30 → h < 30
shallow h c two narrow = elim (cases_lt h 30) [
  | inl lt ↦ lt
  | inr le ↦
      let high : 2 ^ 30 ≤ 2 ^ h = pow-le-pow_right {n = 2} (omega arith) {i = 30} {j = h} le in
      let more : (1 + 1) * 2 ^ h ≤ c * 2 ^ h = mul-le-mul_right (2 ^ h) two in
      let swap : 2 ^ h * c ≡ c * 2 ^ h = grind arith in
      absurd (omega arith)
]

pub reach_up : (k : ℕ) (pairs : List Pair) (height first count above : ℕ) (sizes : List ℕ) → 2 ≤ k → 2 ≤ count → Reached k pairs height first count sizes
    → above ≡ (count + k) / (k + 1) → Reached k pairs (height + 1) (first + count) above (set sizes height count)
reach_up k pairs height first count above sizes two many r e =
    let ts : List ChildEntry = (level k pairs height).pages in
    let n : ℕ = (level k pairs height).first + length ts in
    let gs : List (List ChildEntry) = next_level k ts in
    let ups : List ChildEntry = child_entries last_entry_key n gs in
    let h : ℕ = 2 ^ height in
    let several : 2 ≤ length ts = omega (arith, r.count_is) in
    let counted : length gs ≡ (length ts + k) / (k + 1) = level_counted k ts two several in
    let same : (count + k) / (k + 1) ≡ (length ts + k) / (k + 1) = ap (λ (m : ℕ). (m + k) / (k + 1)) r.count_is in
    let long_ups : length ups ≡ length gs = length-child_entries last_entry_key n gs in
    let is : above ≡ length ups = e ∙ same ∙ sym counted ∙ sym long_ups in
    let half : length ups + length ups ≤ length ts = half_as_many k n ts two several in
    let some : 1 ≤ length ups = subst (λ (m : ℕ). 1 ≤ m) (sym counted ∙ sym long_ups) ((le-div_iff_mul-le {k = k + 1} {x = 1} {y = length ts + k} (omega arith)).1 (omega arith)) in
    let double : 2 ^ (height + 1) ≡ h + h = power height in
    let wide : h * count ≤ 2 ^ 30 = r.narrow in
    let narrow : (h + h) * above ≤ h * count = halved h above count (omega (arith, r.count_is)) in
    let low : height < 30 = shallow height count many r.narrow in
    let next : suc height ≡ height + 1 = omega arith in
    let lv : level k pairs (height + 1) ≡ level k pairs (suc height) = ap (λ (l : ℕ). level k pairs l) (sym next) in
    record {
      below = record {
        each = λ l lt. elim (cases_eq l height) [
          | inl at ↦ rw at (get_or-set_same sizes height count 0 (omega (arith, r.long)) ∙ r.count_is)
          | inr ne ↦ get_or-set_other sizes height l count 0 ne ∙ r.below.each l (omega arith)
        ];
        several = λ l lt. elim (cases_eq l height) [
          | inl at ↦ rw at several
          | inr ne ↦ r.below.several l (omega arith)
        ];
      };
      first_is = ap (λ (m : ℕ). m + count) r.first_is ∙ ap (λ (m : ℕ). (level k pairs height).first + m) r.count_is ∙ ap (λ v. v.first) (sym lv);
      count_is = is ∙ ap (λ v. length v.pages) (sym lv);
      some = omega arith;
      narrow = subst (λ (m : ℕ). m * above ≤ 2 ^ 30) (sym double) (omega arith);
      depth = omega arith;
      low = omega (arith, r.low, r.count_is);
      long = length-set sizes height count ∙ r.long;
    }

-- an index of several levels has pairs
pub some_pairs : (k : ℕ) (pairs : List Pair) (n : ℕ) (sizes : List ℕ) → 0 < n → AreSizes k pairs n sizes → 1 ≤ length pairs
some_pairs k [] n sizes lt are =
    let two : 2 ≤ length (level k [] 0).pages = are.several 0 lt in
    absurd (omega arith)
some_pairs k (p ∷ ps) n sizes lt are = omega arith

pub leaves_of_some : (k : ℕ) (pairs : List Pair) → 1 ≤ k → 1 ≤ length pairs → (length pairs - 1) / k + 1 ≡ length (leaves k pairs)
leaves_of_some k [] some there = absurd (omega arith)
leaves_of_some k (p ∷ ps) some there =
    let less : length (p ∷ ps) - 1 ≡ length ps = omega arith in
    rw less (sym (leaves_counted k p ps some))

-- a leaf's first pair is there
pub leaf_low : (k : ℕ) (pairs : List Pair) (n : ℕ) (sizes : List ℕ) (below at : ℕ) → 0 < n → 2 ≤ k → below ≤ 0 → AreSizes k pairs n sizes → at < length (level k pairs below).pages → at * k < length pairs
leaf_low k pairs n sizes below at some two none are inside = leaf_start k below at pairs (omega arith) (some_pairs k pairs n sizes some are) none inside
