-- Records that are matched: by number they are those of before, and each has its records in the tables.
use Rattle.std.proofs.Common.{◌≡◌, ℕ, zero, suc, ◌+◌, ◌<◌, ◌≤◌, Bool, true, false, cond, max, List, [], ◌∷◌, ◌++◌, length, map, get_or, refl, sym, ap, ◌∙◌, subst, arith}
use Rattle.std.specs.Prelude.{flat_map, nat_le}
use Rattle.std.specs.List.{range_with_len, All, AllByRecursion}
use Rattle.std.proofs.lemmas.Bool.Decides.{nat_tests}
use Rattle.std.proofs.lemmas.List.{get_or-map, length-map}
use Rattle.std.proofs.lemmas.List.FromFn.{get_or-range_with_len, length-range_with_len}
use Rattle.dbf_image.specs.Table.{Table, row_at}
use Rattle.key_expr.specs.Grammar.{Expr}
use Rattle.ndx_index.specs.declared.pair.Pair.{Pair}
use Rattle.table_order.specs.Laws.Given.{order_own}
use Rattle.table_order.specs.Laws.RecordOrders.{length-order}
use Rattle.table_order.specs.TableOrder.{order, IsRecordPair}
use Rattle.table_diff.specs.declared.matching.Match.{Match}
use Rattle.table_diff.specs.declared.matching.Match.TheVariants.{Both, Old, New}
use Rattle.table_diff.specs.ByKey.{changes_in}
use Rattle.table_diff.specs.Changes.{Change, changes, field_changes, in_both, match_changes, number_changes, record_added, record_removed, row_changes}
use Rattle.table_diff.specs.Matching.{all_matches, match_of_number, matches_by_key, matches_by_number, matches_with, new_numbers, numbers_with, old_numbers, side_by_side, HaveRecords}
use Rattle.table_diff.proofs.KeyMatching.{news_matched, olds_matched, table_keys}
use Rattle.table_diff.proofs.KeySame.{have_records, numbers_there}

-- ---- by numbers

chosen : (old new : Table) (a b : Bool) (number : ℕ)
    → match_changes old new (cond a (cond b (Both (in_both number)) (New number)) (Old number))
    ≡ cond a (cond b (row_changes old new (in_both number)) (record_added number new.schema (row_at new number) ∷ [])) (record_removed number old.schema (row_at old number) ∷ [])
chosen old new true true number = refl
chosen old new true false number = refl
chosen old new false b number = refl

numbered : (old new : Table) (ns : List ℕ)
    → flat_map (match_changes old new) (map (match_of_number (length old.rows) (length new.rows)) ns) ≡ flat_map (number_changes old new) ns
numbered old new [] = refl
numbered old new (n ∷ ns) =
    let of : ℕ → Match = match_of_number (length old.rows) (length new.rows) in
    ap (λ (cs : List Change). cs ++ flat_map (match_changes old new) (map of ns)) (chosen old new (nat_le n (length new.rows)) (nat_le n (length old.rows)) n)
    ∙ ap (λ (cs : List Change). number_changes old new n ++ cs) (numbered old new ns)

-- what has changed of the records by their numbers
pub changes_by_number : (old new : Table) (m n : ℕ) → m ≡ length old.rows → n ≡ length new.rows → changes_in old new (matches_by_number m n) ≡ changes old new
changes_by_number old new m n a b =
    ap (λ (k : ℕ). changes_in old new (matches_by_number k n)) a ∙ ap (λ (k : ℕ). changes_in old new (matches_by_number (length old.rows) k)) b
    ∙ ap (λ (cs : List Change). field_changes old.schema new.schema ++ cs) (numbered old new (range_with_len 1 (max (length old.rows) (length new.rows))))

at_most : (m n : ℕ) → nat_le m n ≡ true → m ≤ n
at_most m n e = grind (arith, nat_tests, e)

above : (m n : ℕ) → nat_le m n ≡ false → n < m
above m n e = grind (arith, nat_tests, e)

number_has : (old new : Table) (number : ℕ) → 1 ≤ number → number ≤ max (length old.rows) (length new.rows)
    → HaveRecords old new (match_of_number (length old.rows) (length new.rows) number)
number_has old new number some most =
    elim (nat_le number (length new.rows)) as (λ a. nat_le number (length new.rows) ≡ a
    → HaveRecords old new (cond a (cond (nat_le number (length old.rows)) (Both (in_both number)) (New number)) (Old number))) [
      | true ↦ λ e. elim (nat_le number (length old.rows)) as (λ b. nat_le number (length old.rows) ≡ b → HaveRecords old new (cond b (Both (in_both number)) (New number))) [
        | true ↦ λ h. (record { some = some; inside = at_most number (length old.rows) h }, record { some = some; inside = at_most number (length new.rows) e })
        | false ↦ λ h. record { some = some; inside = at_most number (length new.rows) e }
      ] refl
      | false ↦ λ e. let past = above number (length new.rows) e in record { some = some; inside = omega (arith, past, most) }
    ] refl

at_number : (old_count new_count k : ℕ) (d : Match) → k < max old_count new_count → get_or (matches_by_number old_count new_count) k d ≡ match_of_number old_count new_count (1 + k)
at_number old_count new_count k d lt =
    let most : ℕ = max old_count new_count in
    let inside : k < length (range_with_len 1 most) = omega (arith, lt, length-range_with_len 1 most) in
    get_or-map (match_of_number old_count new_count) (range_with_len 1 most) k 0 d inside ∙ ap (match_of_number old_count new_count) (get_or-range_with_len 1 most k 0 lt)

pub length_by_number : (old_count new_count : ℕ) → length (matches_by_number old_count new_count) ≡ max old_count new_count
length_by_number old_count new_count =
    length-map (range_with_len 1 (max old_count new_count)) (match_of_number old_count new_count) ∙ length-range_with_len 1 (max old_count new_count)

pub numbers_have : (old new : Table) (m n : ℕ) → m ≡ length old.rows → n ≡ length new.rows → All (HaveRecords old new) (matches_by_number m n)
numbers_have old new m n a b k d lt =
    let below : k < max m n = omega (arith, lt, length_by_number m n) in
    let has = number_has old new (1 + k) (omega arith) (omega (arith, below, a, b)) in
    let moved : match_of_number (length old.rows) (length new.rows) (1 + k) ≡ match_of_number m n (1 + k) =
    ap (λ (x : ℕ). match_of_number x (length new.rows) (1 + k)) (sym a) ∙ ap (λ (x : ℕ). match_of_number m x (1 + k)) (sym b) in
    subst (HaveRecords old new) (moved ∙ sym (at_number m n k d below)) has

-- the one at a place
pub number_at : (old_count new_count place : ℕ) (m d : Match) → place < length (matches_by_number old_count new_count) → m ≡ match_of_number old_count new_count (place + 1)
    → m ≡ get_or (matches_by_number old_count new_count) place d
number_at old_count new_count place m d lt is =
    let below : place < max old_count new_count = omega (arith, lt, length_by_number old_count new_count) in
    let next : place + 1 ≡ 1 + place = omega arith in
    is ∙ ap (match_of_number old_count new_count) next ∙ sym (at_number old_count new_count place d below)

-- ---- by keys

olds_have : (old new : Table) (os : List ℕ) → have_records old os → AllByRecursion (HaveRecords old new) (map Old os)
olds_have old new [] h = tt
olds_have old new (o ∷ os) h = (h.0, olds_have old new os h.1)

news_have : (old new : Table) (ns : List ℕ) → have_records new ns → AllByRecursion (HaveRecords old new) (map New ns)
news_have old new [] h = tt
news_have old new (n ∷ ns) h = (h.0, news_have old new ns h.1)

side_by_side_have : (old new : Table) (os ns : List ℕ) → have_records old os → have_records new ns → AllByRecursion (HaveRecords old new) (side_by_side os ns)
side_by_side_have old new [] ns a b = news_have old new ns b
side_by_side_have old new (o ∷ os) [] a b = olds_have old new (o ∷ os) a
side_by_side_have old new (o ∷ os) (n ∷ ns) a b = ((a.0, b.0), side_by_side_have old new os ns a.1 b.1)

both_all : {X : Type 0} (P : X → Type 0) (xs ys : List X) → AllByRecursion P xs → AllByRecursion P ys → AllByRecursion P (xs ++ ys)
both_all P [] ys h k = k
both_all P (x ∷ xs) ys h k = (h.0, both_all P xs ys h.1 k)

keys_have : (old new : Table) (e f : Expr) (ps qs : List Pair) (ks : List (List ℕ)) → AllByRecursion (IsRecordPair old e) ps → AllByRecursion (IsRecordPair new f) qs
    → AllByRecursion (HaveRecords old new) (flat_map (matches_with ps qs) ks)
keys_have old new e f ps qs [] a b = tt
keys_have old new e f ps qs (k ∷ ks) a b =
    both_all (HaveRecords old new) (matches_with ps qs k) (flat_map (matches_with ps qs) ks)
    (side_by_side_have old new (numbers_with ps k) (numbers_with qs k) (numbers_there old e ps k a) (numbers_there new f qs k b)) (keys_have old new e f ps qs ks a b)

at_each : {X : Type 0} (P : X → Type 0) (xs : List X) (k : ℕ) (d : X) → AllByRecursion P xs → k < length xs → P (get_or xs k d)
at_each P [] k d h lt = absurd (omega (arith, lt))
at_each P (x ∷ xs) zero d h lt = h.0
at_each P (x ∷ xs) (suc k) d h lt = at_each P xs k d h.1 (omega (arith, lt))

pub matches_have : (old new : Table) (e f : Expr) → All (HaveRecords old new) (matches_by_key old new e f)
unfolding all_matches
matches_have old new e f k d lt =
    at_each (HaveRecords old new) (matches_by_key old new e f) k d
    (keys_have old new e f (order old e) (order new f) (table_keys old new e f) (order_own old e) (order_own new f)) lt

few_matches : (ms : List Match) → length ms ≤ length (old_numbers ms) + length (new_numbers ms)
few_matches [] = omega arith
few_matches (m ∷ ms) = more m (few_matches ms)
  where
    more : (x : Match) → length ms ≤ length (old_numbers ms) + length (new_numbers ms) → suc (length ms) ≤ length (old_numbers (x ∷ ms)) + length (new_numbers (x ∷ ms))
    more (Both numbers) h = omega arith
    more (Old number) h = omega arith
    more (New number) h = omega arith

-- there are no more matches than records of both tables
pub few_by_key : (old new : Table) (e f : Expr) → length (matches_by_key old new e f) ≤ length old.rows + length new.rows
few_by_key old new e f =
    let ms : List Match = matches_by_key old new e f in
    let olds : length (old_numbers ms) ≡ length old.rows = ap (length {A = ℕ}) (olds_matched old new e f) ∙ length-map (order old e) (λ (p : Pair). p.number) ∙ length-order old e in
    let news : length (new_numbers ms) ≡ length new.rows = ap (length {A = ℕ}) (news_matched old new e f) ∙ length-map (order new f) (λ (p : Pair). p.number) ∙ length-order new f in
    omega (arith, few_matches ms, olds, news)
