-- The pairs of records: each has the number that its record has, and that number keeps it apart from the others.
use Rattle.std.proofs.Common.{◌≡◌, ℕ, zero, suc, ◌+◌, ◌<◌, ◌≤◌, false, List, [], ◌∷◌, ◌++◌, length, get_or, set, Contains, refl, ap, sym, ◌∙◌, arith}
use Rattle.std.specs.List.{remove, AllByRecursion, IsDistinct}
use Rattle.std.specs.Ordering.{nat_cmp, ordering_then, is_eq}
use Rattle.std.specs.declared.cmp.Ordering.{Ordering}
use Rattle.std.specs.declared.cmp.Ordering.TheVariants.{Less, Equal, Greater}
use Rattle.std.specs.Cmp.{nat_cmp_is}
use Rattle.std.specs.Cmp.Lexicographic.{slice_cmp}
use Rattle.dbf_image.specs.Table.{Row}
use Rattle.key_expr.specs.Grammar.{Expr}
use Rattle.key_expr.specs.Keys.{key}
use Rattle.ndx_index.specs.declared.pair.Pair.{Pair}
use Rattle.ndx_index.specs.Order.{same}
use Rattle.table_order.specs.TableOrder.{pairs_from}

abbrev pub pair : ℕ → Row → Expr → Pair
pair number r e = record { key = key r.cells e; number = number }

pub length-pairs : (rows : List Row) (e : Expr) (n : ℕ) → length (pairs_from n rows e) ≡ length rows
length-pairs [] e n = refl
length-pairs (r ∷ rs) e n = ap suc (length-pairs rs e (n + 1))

pub get-pairs : (rows : List Row) (e : Expr) (n i : ℕ) (d : Pair) (blank : Row) → i < length rows → get_or (pairs_from n rows e) i d ≡ pair (n + i) (get_or rows i blank) e
get-pairs [] e n i d blank lt = absurd (omega arith)
get-pairs (r ∷ rs) e n zero d blank lt =
    let k : n ≡ n + 0 = omega arith in
    ap (λ (m : ℕ). pair m r e) k
get-pairs (r ∷ rs) e n (suc i) d blank lt =
    let k : n + 1 + i ≡ n + suc i = omega arith in
    get-pairs rs e (n + 1) i d blank (omega arith) ∙ ap (λ (m : ℕ). pair m (get_or rs i blank) e) k

pub set-pairs : (rows : List Row) (e : Expr) (n i : ℕ) (r : Row) → pairs_from n (set rows i r) e ≡ set (pairs_from n rows e) i (pair (n + i) r e)
set-pairs [] e n i r = refl
set-pairs (x ∷ rs) e n zero r =
    let k : n ≡ n + 0 = omega arith in
    ap (λ (m : ℕ). pair m r e ∷ pairs_from (n + 1) rs e) k
set-pairs (x ∷ rs) e n (suc i) r =
    let k : n + 1 + i ≡ n + suc i = omega arith in
    ap (λ (ps : List Pair). pair n x e ∷ ps) (set-pairs rs e (n + 1) i r ∙ ap (λ (m : ℕ). set (pairs_from (n + 1) rs e) i (pair m r e)) k)

pub push-pairs : (rows : List Row) (e : Expr) (n : ℕ) (r : Row) → pairs_from n (rows ++ r ∷ []) e ≡ pairs_from n rows e ++ pair (n + length rows) r e ∷ []
push-pairs [] e n r =
    let k : n ≡ n + 0 = omega arith in
    ap (λ (m : ℕ). pair m r e ∷ []) k
push-pairs (x ∷ rs) e n r =
    let k : n + 1 + length rs ≡ n + suc (length rs) = omega arith in
    ap (λ (ps : List Pair). pair n x e ∷ ps) (push-pairs rs e (n + 1) r ∙ ap (λ (m : ℕ). pairs_from (n + 1) rs e ++ pair m r e ∷ []) k)

-- ---- the numbers

at-least : (rows : List Row) (e : Expr) (n k : ℕ) (p : Pair) → k < length (pairs_from n rows e) → get_or (pairs_from n rows e) k p ≡ p → n ≤ p.number
at-least [] e n k p lt is = absurd (omega arith)
at-least (r ∷ rs) e n zero p lt is = let h : n ≡ p.number = ap (λ (q : Pair). q.number) is in omega arith
at-least (r ∷ rs) e n (suc k) p lt is = let h = at-least rs e (n + 1) k p (omega arith) is in omega arith

pub number-least : (rows : List Row) (e : Expr) (n : ℕ) (p : Pair) → Contains (pairs_from n rows e) p → n ≤ p.number
number-least rows e n p h = at-least rows e n h.0 p h.1 h.2

at-most : (rows : List Row) (e : Expr) (n k : ℕ) (p : Pair) → k < length (pairs_from n rows e) → get_or (pairs_from n rows e) k p ≡ p → p.number < n + length rows
at-most [] e n k p lt is = absurd (omega arith)
at-most (r ∷ rs) e n zero p lt is = let h : n ≡ p.number = ap (λ (q : Pair). q.number) is in omega arith
at-most (r ∷ rs) e n (suc k) p lt is = let h = at-most rs e (n + 1) k p (omega arith) is in omega arith

pub number-most : (rows : List Row) (e : Expr) (n : ℕ) (p : Pair) → Contains (pairs_from n rows e) p → p.number < n + length rows
number-most rows e n p h = at-most rows e n h.0 p h.1 h.2

-- a pair of the number of a record is the record's
pub pair_of_number : (rows : List Row) (e : Expr) (n i k : ℕ) (p : Pair) (blank : Row) → k < length (pairs_from n rows e) → get_or (pairs_from n rows e) k p ≡ p → p.number ≡ n + i → p ≡ pair (n + i) (get_or rows i blank) e
pair_of_number [] e n i k p blank lt at is = absurd (omega arith)
pair_of_number (r ∷ rs) e n zero zero p blank lt at is =
    let m : n ≡ n + 0 = omega arith in
    sym at ∙ ap (λ (x : ℕ). pair x r e) m
pair_of_number (r ∷ rs) e n (suc i) zero p blank lt at is = let h : n ≡ p.number = ap (λ (q : Pair). q.number) at in absurd (omega arith)
pair_of_number (r ∷ rs) e n zero (suc k) p blank lt at is = let h = number-least rs e (n + 1) p (k, omega arith, at) in absurd (omega arith)
pair_of_number (r ∷ rs) e n (suc i) (suc k) p blank lt at is =
    let m : n + 1 + i ≡ n + suc i = omega arith in
    pair_of_number rs e (n + 1) i k p blank (omega arith) at (omega arith) ∙ ap (λ (x : ℕ). pair x (get_or rs i blank) e) m

-- without the pair of a record, no pair has its number
pub absent_from : (rows : List Row) (e : Expr) (n i k : ℕ) (p : Pair) → p.number ≡ n + i → k < length (remove (pairs_from n rows e) i) → get_or (remove (pairs_from n rows e) i) k p ≡ p → ⊥
absent_from [] e n zero k p is lt at = absurd (omega arith)
absent_from [] e n (suc i) k p is lt at = absurd (omega arith)
absent_from (r ∷ rs) e n zero k p is lt at = let h = at-least rs e (n + 1) k p lt at in omega arith
absent_from (r ∷ rs) e n (suc i) zero p is lt at = let h : n ≡ p.number = ap (λ (q : Pair). q.number) at in omega arith
absent_from (r ∷ rs) e n (suc i) (suc k) p is lt at = absent_from rs e (n + 1) i k p (omega arith) (omega arith) at

less_then : (o : Ordering) → is_eq (ordering_then o Less) ≡ false
less_then Less = refl
less_then Equal = refl
less_then Greater = refl

lower_apart : (p q : Pair) → p.number < q.number → same p q ≡ false
lower_apart p q lt = ap (λ (o : Ordering). is_eq (ordering_then (slice_cmp nat_cmp p.key q.key) o)) (sym (nat_cmp_is p.number q.number Less lt)) ∙ less_then (slice_cmp nat_cmp p.key q.key)

later_apart : (rows : List Row) (e : Expr) (p : Pair) (n : ℕ) → p.number < n → AllByRecursion (λ q. same p q ≡ false) (pairs_from n rows e)
later_apart [] e p n lt = tt
later_apart (r ∷ rs) e p n lt = (lower_apart p (pair n r e) lt, later_apart rs e p (n + 1) (omega arith))

-- no pair comes twice
pub pairs_distinct : (rows : List Row) (e : Expr) (n : ℕ) → IsDistinct same (pairs_from n rows e)
unfolding IsDistinct
pairs_distinct [] e n = tt
pairs_distinct (r ∷ rs) e n = (later_apart rs e (pair n r e) (n + 1) (omega arith), pairs_distinct rs e (n + 1))
