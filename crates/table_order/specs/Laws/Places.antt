-- Where the records stand in the order of a table, and what stands a number of places before or after a record.
use Rattle.std.proofs.Common.{◌≡◌, ℕ, zero, suc, ◌+◌, ◌-◌, ◌<◌, ◌≤◌, Bool, true, false, cond, eqb, List, [], ◌∷◌, length, map, get_or, Contains, Option, Some, None, refl, ap, sym, subst, ◌∙◌, arith}
use Rattle.std.specs.List.{slice_get}
use Rattle.std.specs.Prelude.{nat_le}
use Rattle.std.specs.Option.{option_map}
use Rattle.std.proofs.lemmas.Bool.{eq-eqb, eqb-true, false≢true}
use Rattle.std.proofs.lemmas.Bool.Decides.{nat_tests}
use Rattle.std.proofs.lemmas.List.{length-map, get_or_default}
use Rattle.std.proofs.lemmas.Option.{slice_get-map, slice_get-get_or, slice_get_within}
use Rattle.dbf_image.specs.Table.{Table}
use Rattle.key_expr.specs.Grammar.{Expr}
use Rattle.ndx_index.specs.declared.pair.Pair.{Pair}
use Rattle.ndx_index.specs.Places.{back_from, place_in}
use Rattle.table_order.specs.TableOrder.{pair_at, order, ordered}
use Rattle.table_order.specs.Laws.RecordOrders.{pair_there, record_there}

place_step : (m number : ℕ) (ns : List ℕ) (d : ℕ) (b : Bool) → eqb m number ≡ b → (b ≡ false → (place_in number ns < length ns) × (get_or ns (place_in number ns) d ≡ number))
    → (cond b 0 (suc (place_in number ns)) < suc (length ns)) × (get_or (m ∷ ns) (cond b 0 (suc (place_in number ns))) d ≡ number)
place_step m number ns d true e ih = (omega arith, eqb-true m number e)
place_step m number ns d false e ih = let h = ih refl in (omega (arith, h.0), h.1)

-- of a number that stands in a list, its place is one where it stands
pub place_found : (ns : List ℕ) (j number d : ℕ) → j < length ns → get_or ns j d ≡ number → (place_in number ns < length ns) × (get_or ns (place_in number ns) d ≡ number)
place_found [] j number d lt at = absurd (omega arith)
place_found (m ∷ ns) zero number d lt at = place_step m number ns d (eqb m number) refl (λ e. absurd (false≢true (sym e ∙ eq-eqb m number at)))
place_found (m ∷ ns) (suc j) number d lt at = place_step m number ns d (eqb m number) refl (λ e. place_found ns j number d (omega arith) at)

get-map : {X Y : Type 0} (f : X → Y) (xs : List X) (j : ℕ) (d : X) (e : Y) → j < length xs → get_or (map f xs) j e ≡ f (get_or xs j d)
get-map f [] j d e lt = absurd (omega arith)
get-map f (x ∷ xs) zero d e lt = refl
get-map f (x ∷ xs) (suc j) d e lt = get-map f xs j d e (omega arith)

-- as many places as pairs
pub length-ordered : (table : Table) (e : Expr) → length (ordered table e) ≡ length (order table e)
length-ordered table e = length-map (order table e) (λ (q : Pair). q.number)

-- the pair of a record stands where its number does
pub place_of_record : (table : Table) (e : Expr) (number : ℕ) → 1 ≤ number → number ≤ length table.rows
    → (place_in number (ordered table e) < length (order table e)) × (get_or (order table e) (place_in number (ordered table e)) (pair_at table number e) ≡ pair_at table number e)
place_of_record table e number one inside =
    let qs : List Pair = order table e in
    let p : Pair = pair_at table number e in
    let there : Contains qs p = pair_there table e number one inside in
    let long = length-ordered table e in
    let number_at : get_or (ordered table e) there.0 0 ≡ number = get-map (λ (q : Pair). q.number) qs there.0 p 0 there.1 ∙ ap (λ (q : Pair). q.number) there.2 in
    let found = place_found (ordered table e) there.0 number 0 (omega (arith, there.1, long)) number_at in
    let k : ℕ = place_in number (ordered table e) in
    let within : k < length qs = omega (arith, found.0, long) in
    let q : Pair = get_or qs k p in
    let its : q.number ≡ number = sym (get-map (λ (x : Pair). x.number) qs k p 0 within) ∙ found.1 in
    let own = record_there table e q (k, within, get_or_default qs k q p within) in
    (within, own.own ∙ ap (λ (n : ℕ). pair_at table n e) its)

-- ---- a number of places on, and back

standing : (table : Table) (e : Expr) (number : ℕ) (ps : List Pair) (p : Pair) → 1 ≤ number → number ≤ length table.rows → ps ≡ order table e → p ≡ pair_at table number e
    → (place_in number (ordered table e) < length ps) × (get_or ps (place_in number (ordered table e)) p ≡ p)
standing table e number ps p one inside same own =
    let k : ℕ = place_in number (ordered table e) in
    let stands = place_of_record table e number one inside in (
      subst (λ (qs : List Pair). k < length qs) (sym same) stands.0,
      ap (λ (qs : List Pair). get_or qs k p) same ∙ ap (get_or (order table e) k) own ∙ stands.1 ∙ sym own,
    )

-- what stands a number of places after the place of a pair stands as many after that of its record
pub after_record : (table : Table) (e : Expr) (number steps : ℕ) (ps : List Pair) (p : Pair) (r : Option Pair) → 1 ≤ number → number ≤ length table.rows
    → ps ≡ order table e → p ≡ pair_at table number e → ((i : ℕ) → i < length ps → get_or ps i p ≡ p → r ≡ slice_get ps (i + steps))
    → option_map (λ (q : Pair). q.number) r ≡ slice_get (ordered table e) (place_in number (ordered table e) + steps)
after_record table e number steps ps p r one inside same own f =
    let k : ℕ = place_in number (ordered table e) in
    let stands = standing table e number ps p one inside same own in
    ap (option_map (λ (q : Pair). q.number)) (f k stands.0 stands.1 ∙ ap (λ (qs : List Pair). slice_get qs (k + steps)) same)
    ∙ sym (slice_get-map (λ (q : Pair). q.number) (order table e) (k + steps))

back-map : (ps : List Pair) (i steps : ℕ) → option_map (λ (q : Pair). q.number) (back_from ps i steps) ≡ back_from (map (λ (q : Pair). q.number) ps) i steps
back-map ps i steps = by (nat_le steps i)
  where
    by : (b : Bool) → option_map (λ (q : Pair). q.number) (cond b (slice_get ps (i - steps)) None) ≡ cond b (slice_get (map (λ (q : Pair). q.number) ps) (i - steps)) None
    by true = sym (slice_get-map (λ (q : Pair). q.number) ps (i - steps))
    by false = refl

-- and before it
pub before_record : (table : Table) (e : Expr) (number steps : ℕ) (ps : List Pair) (p : Pair) (r : Option Pair) → 1 ≤ number → number ≤ length table.rows
    → ps ≡ order table e → p ≡ pair_at table number e → ((i : ℕ) → i < length ps → get_or ps i p ≡ p → r ≡ back_from ps i steps)
    → option_map (λ (q : Pair). q.number) r ≡ back_from (ordered table e) (place_in number (ordered table e)) steps
before_record table e number steps ps p r one inside same own f =
    let k : ℕ = place_in number (ordered table e) in
    let stands = standing table e number ps p one inside same own in
    ap (option_map (λ (q : Pair). q.number)) (f k stands.0 stands.1 ∙ ap (λ (qs : List Pair). back_from qs k steps) same) ∙ back-map (order table e) k steps

-- the end is the place after the last
back-end : (ps : List Pair) (steps : ℕ) → 1 ≤ steps → 1 ≤ length ps → back_from ps (length ps - 1) (steps - 1) ≡ back_from ps (length ps) steps
back-end ps steps some there =
    let m : length ps - 1 - (steps - 1) ≡ length ps - steps = omega arith in
    let b : nat_le (steps - 1) (length ps - 1) ≡ nat_le steps (length ps) = grind (arith, nat_tests) in
    rw (m, b) refl

-- a number of places before the end is one less before the last pair
pub before_end : (table : Table) (e : Expr) (steps : ℕ) (ps : List Pair) (p : Pair) (r : Option Pair) → 1 ≤ steps → ps ≡ order table e
    → Some p ≡ slice_get ps (length ps - 1) → ((i : ℕ) → i < length ps → get_or ps i p ≡ p → r ≡ back_from ps i (steps - 1))
    → option_map (λ (q : Pair). q.number) r ≡ back_from (ordered table e) (length (ordered table e)) steps
before_end table e steps ps p r some same last f =
    let lt : length ps - 1 < length ps = slice_get_within ps (length ps - 1) p (sym last) in
    let is = slice_get-get_or ps (length ps - 1) p lt in
    let at : get_or ps (length ps - 1) p ≡ p = cc in
    ap (option_map (λ (q : Pair). q.number)) (f (length ps - 1) lt at ∙ back-end ps steps some (omega arith) ∙ ap (λ (qs : List Pair). back_from qs (length qs) steps) same)
    ∙ back-map (order table e) (length (order table e)) steps ∙ ap (λ (n : ℕ). back_from (ordered table e) n steps) (sym (length-ordered table e))

-- of no pairs there is none
pub before_end_none : (table : Table) (e : Expr) (steps : ℕ) (ps : List Pair) → 1 ≤ steps → ps ≡ order table e → None ≡ slice_get ps (length ps - 1)
    → None ≡ back_from (ordered table e) (length (ordered table e)) steps
before_end_none table e steps ps some same none =
    let empty : ps ≡ [] = nothing ps none in
    sym (lone steps some) ∙ ap (λ (qs : List Pair). back_from (map (λ (q : Pair). q.number) qs) (length (map (λ (q : Pair). q.number) qs)) steps) (sym empty ∙ same)
  where
    nothing : (ps : List Pair) → None ≡ slice_get ps (length ps - 1) → ps ≡ []
    nothing [] h = refl
    nothing (q ∷ qs) h = let is = slice_get-get_or (q ∷ qs) (length (q ∷ qs) - 1) q (omega arith) in cc

    lone : (steps : ℕ) → 1 ≤ steps → back_from {X = ℕ} [] 0 steps ≡ None
    lone steps some = let b : nat_le steps 0 ≡ false = grind (arith, nat_tests) in rw b refl
