-- The order of a table without the records that are marked as deleted is the old order without them, by new numbers.
use Rattle.std.proofs.Common.{◌≡◌, ◌≢◌, ℕ, zero, suc, ◌+◌, ◌-◌, ◌<◌, ◌≤◌, Bool, true, false, not, cond, eqb, List, [], ◌∷◌, ◌++◌, length, get_or, refl, ap, sym, ◌∙◌, append_assoc, arith}
use Rattle.std.specs.declared.cmp.Ordering.TheVariants.{Less}
use Rattle.std.specs.List.Sorted.{IsStrictlySortedBy}
use Rattle.std.proofs.lemmas.Bool.{ne_eqb}
use Rattle.std.proofs.lemmas.List.{get_or_at, length-append}
use Rattle.dbf_image.specs.Table.{Row, Table, kept_rows, packed}
use Rattle.key_expr.specs.Grammar.{Expr}
use Rattle.key_expr.specs.Keys.{key}
use Rattle.ndx_index.specs.declared.pair.Pair.{Pair}
use Rattle.ndx_index.specs.Order.{pair_cmp, before, AreInOrder}
use Rattle.ndx_index.specs.Renumbered.{renumbered, HaveNewNumbers}
use Rattle.table_order.specs.Packing.{packed_numbers}
use Rattle.table_order.specs.TableOrder.{pairs_from, pairs_of, order, IsRecordPair}
use Rattle.ndx_index.specs.Laws.Renumbered.{Rise, renumbered_order, times_moved}
use Rattle.ndx_index.specs.Laws.Lists.{all_weaker}
use Rattle.ndx_index.specs.Laws.Sorting.{Ascends, ascends-in_order, times, times-in_order, not_after, one_order, IsPermutation-in_order}
use Rattle.table_order.specs.Laws.RecordOrders.{table_in_order}
use Rattle.table_order.specs.Laws.Given.{order_own}

-- ---- new numbers rise with the old ones

-- the numbers from a record on, by whether it is marked
abbrev numbers_by : Bool → ℕ → List Row → List ℕ
numbers_by b next rs = cond b (0 ∷ packed_numbers next rs) (next ∷ packed_numbers (next + 1) rs)

-- those that are kept have a number from the first on
low : (rows : List Row) (next i : ℕ) → get_or (packed_numbers next rows) i 0 ≢ 0 → next ≤ get_or (packed_numbers next rows) i 0
low [] next i ne = absurd (ne refl)
low (r ∷ rs) next zero ne = elim r.deleted as (λ b. get_or (numbers_by b next rs) 0 0 ≢ 0 → next ≤ get_or (numbers_by b next rs) 0 0) [
  | true ↦ λ h. absurd (h refl)
  | false ↦ λ h. omega arith
] ne
low (r ∷ rs) next (suc i) ne = elim r.deleted as (λ b. get_or (numbers_by b next rs) (suc i) 0 ≢ 0 → next ≤ get_or (numbers_by b next rs) (suc i) 0) [
  | true ↦ λ h. low rs next i h
  | false ↦ λ h. let up = low rs (next + 1) i h in omega arith
] ne

pub packed_numbers_rise : (rows : List Row) (next : ℕ) → Rise (packed_numbers next rows)
packed_numbers_rise [] next i j lt ni nj = absurd (ni refl)
packed_numbers_rise (r ∷ rs) next i zero lt ni nj = absurd (omega arith)
packed_numbers_rise (r ∷ rs) next zero (suc j) lt ni nj =
    elim r.deleted as (λ b. get_or (numbers_by b next rs) 0 0 ≢ 0 → get_or (numbers_by b next rs) (suc j) 0 ≢ 0 → get_or (numbers_by b next rs) 0 0 < get_or (numbers_by b next rs) (suc j) 0) [
      | true ↦ λ h k. absurd (h refl)
      | false ↦ λ h k. let up = low rs (next + 1) j k in omega arith
    ] ni nj
packed_numbers_rise (r ∷ rs) next (suc i) (suc j) lt ni nj =
    elim r.deleted as (λ b. get_or (numbers_by b next rs) (suc i) 0 ≢ 0 → get_or (numbers_by b next rs) (suc j) 0 ≢ 0 → get_or (numbers_by b next rs) (suc i) 0 < get_or (numbers_by b next rs) (suc j) 0) [
      | true ↦ λ h k. packed_numbers_rise rs next i j (omega arith) h k
      | false ↦ λ h k. packed_numbers_rise rs (next + 1) i j (omega arith) h k
    ] ni nj

-- ---- the pairs are those of the records that stay

-- the records before those that are left have their numbers in the list
renumbered_rows : (rows : List Row) (e : Expr) (done : List ℕ) (number next : ℕ) → 1 ≤ next → number ≡ length done + 1
    → renumbered (done ++ packed_numbers next rows) (pairs_from number rows e) ≡ pairs_from next (kept_rows rows) e
renumbered_rows [] e done number next one at = refl
renumbered_rows (r ∷ rs) e done number next one at =
    let shift : (m : ℕ) → number + 1 ≡ length (done ++ m ∷ []) + 1 = λ m. omega (arith, length-append done (m ∷ [])) in
    let gone : renumbered (done ++ 0 ∷ packed_numbers next rs) (pairs_from (number + 1) rs e) ≡ pairs_from next (kept_rows rs) e =
    ap (λ (ns : List ℕ). renumbered ns (pairs_from (number + 1) rs e)) (sym (append_assoc done (0 ∷ []) (packed_numbers next rs)))
    ∙ renumbered_rows rs e (done ++ 0 ∷ []) (number + 1) next one (shift 0) in
    let stays : renumbered (done ++ next ∷ packed_numbers (next + 1) rs) (pairs_from (number + 1) rs e) ≡ pairs_from (next + 1) (kept_rows rs) e =
    ap (λ (ns : List ℕ). renumbered ns (pairs_from (number + 1) rs e)) (sym (append_assoc done (next ∷ []) (packed_numbers (next + 1) rs)))
    ∙ renumbered_rows rs e (done ++ next ∷ []) (number + 1) (next + 1) (omega arith) (shift next) in
    let some : eqb next 0 ≡ false = ne_eqb next 0 (λ z. omega arith) in
    let here : (m : ℕ) (ms : List ℕ) → get_or (done ++ m ∷ ms) (number - 1) 0 ≡ m = λ m ms. get_or_at done m ms 0 (number - 1) (omega arith) in
    elim r.deleted as (λ b. renumbered (done ++ numbers_by b next rs) (pairs_from number (r ∷ rs) e) ≡ pairs_from next (cond (not b) (r ∷ kept_rows rs) (kept_rows rs)) e) [
      | true ↦ rw (here 0 (packed_numbers next rs)) gone
      | false ↦ rw (here next (packed_numbers (next + 1) rs), some) (ap (λ (ps : List Pair). record { key = key r.cells e; number = next } ∷ ps) stays)
    ]

ascends : (ps : List Pair) → AreInOrder ps → Ascends ps
unfolding IsStrictlySortedBy
ascends [] sorted = tt
ascends (p ∷ ps) sorted = (all_weaker (λ q. pair_cmp p q ≡ Less) (λ q. before q p ≡ false) (λ q less. not_after p q less) ps sorted.0, ascends ps sorted.1)

-- the order of the packed table
pub order_packed : (table : Table) (e : Expr) → renumbered (packed_numbers 1 table.rows) (order table e) ≡ order (packed table) e
order_packed table e =
    let ns : List ℕ = packed_numbers 1 table.rows in
    let old : List Pair = pairs_of table e in
    let new : List Pair = pairs_of (packed table) e in
    let rows : renumbered ns old ≡ new = renumbered_rows table.rows e [] 1 1 (omega arith) refl in
    let one = all_weaker (IsRecordPair table e) (λ p. 1 ≤ p.number) (λ p is. is.some) (order table e) (order_own table e) in
    let sorted = renumbered_order ns (packed_numbers_rise table.rows 1) (order table e) one (table_in_order table e) in
    one_order (renumbered ns (order table e)) (order (packed table) e) (ascends (renumbered ns (order table e)) sorted) (ascends-in_order new) (λ x.
    times_moved ns x old (order table e) (IsPermutation-in_order old) ∙ ap (λ (ps : List Pair). times x ps) rows ∙ sym (times-in_order x new))

-- ---- the list of new numbers

-- as many as records
pub length-packed_numbers : (rows : List Row) (next : ℕ) → length (packed_numbers next rows) ≡ length rows
length-packed_numbers [] next = refl
length-packed_numbers (r ∷ rs) next = elim r.deleted as (λ b. length (numbers_by b next rs) ≡ suc (length rs)) [
  | true ↦ ap suc (length-packed_numbers rs next)
  | false ↦ ap suc (length-packed_numbers rs (next + 1))
]

-- one more record
pub packed_numbers_more : (rows : List Row) (next : ℕ) (r : Row) → packed_numbers next (rows ++ r ∷ []) ≡ packed_numbers next rows ++ cond r.deleted 0 (next + length (kept_rows rows)) ∷ []
packed_numbers_more [] next r = elim r.deleted as (λ b. cond b (0 ∷ []) (next ∷ []) ≡ cond b 0 (next + 0) ∷ []) [
  | true ↦ refl
  | false ↦ let e : next ≡ next + 0 = omega arith in ap (λ (n : ℕ). n ∷ []) e
]
packed_numbers_more (x ∷ xs) next r =
    let up : next + 1 + length (kept_rows xs) ≡ next + suc (length (kept_rows xs)) = omega arith in
    elim x.deleted as (λ b. numbers_by b next (xs ++ r ∷ []) ≡ numbers_by b next xs ++ cond r.deleted 0 (next + length (cond (not b) (x ∷ kept_rows xs) (kept_rows xs))) ∷ []) [
      | true ↦ ap (λ (ns : List ℕ). 0 ∷ ns) (packed_numbers_more xs next r)
      | false ↦ ap (λ (ns : List ℕ). next ∷ ns) (packed_numbers_more xs (next + 1) r ∙ ap (λ (n : ℕ). packed_numbers (next + 1) xs ++ cond r.deleted 0 n ∷ []) up)
    ]

-- each record of the order has a new number
pub have_new_numbers : (table : Table) (e : Expr) → HaveNewNumbers (packed_numbers 1 table.rows) (order table e)
have_new_numbers table e =
    all_weaker (IsRecordPair table e) (λ p. (1 ≤ p.number) × (p.number ≤ length (packed_numbers 1 table.rows))) (λ p is. (is.some, omega (arith, is.inside, length-packed_numbers table.rows 1))) (order table e) (order_own table e)
