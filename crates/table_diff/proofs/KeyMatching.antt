-- Records that are matched by their keys: the first match of pairs in order, and that each record is matched once.
use Rattle.std.proofs.Common.{◌≡◌, ℕ, zero, suc, ◌+◌, ◌≤◌, false, List, [], ◌∷◌, ◌++◌, length, map, drop, Some, None, refl, sym, ap, ◌∙◌, subst, arith}
use Rattle.std.specs.Prelude.{bytes_eq, flat_map}
use Rattle.std.specs.List.{AllByRecursion}
use Rattle.std.specs.List.Sorted.{IsStrictlySortedBy}
use Rattle.std.specs.Ordering.{nat_cmp, ordering_then}
use Rattle.std.specs.declared.cmp.Ordering.{Ordering}
use Rattle.std.specs.declared.cmp.Ordering.TheVariants.{Less, Equal, Greater}
use Rattle.std.specs.Cmp.Lexicographic.{slice_cmp}
use Rattle.std.proofs.lemmas.Bool.{false_from_ne_true}
use Rattle.std.proofs.lemmas.Grind.{flat_map-append}
use Rattle.std.proofs.lemmas.Map.Lookups.{exact_bytes}
use Rattle.std.proofs.lemmas.Slice.Eq.{bytes_eq-Decides}
use Rattle.dbf_image.specs.Table.{Table}
use Rattle.key_expr.specs.Grammar.{Expr}
use Rattle.ndx_index.specs.declared.pair.Pair.{Pair}
use Rattle.ndx_index.specs.Laws.Lists.{all_weaker}
use Rattle.ndx_index.specs.Order.{pair_cmp, AreInOrder}
use Rattle.table_order.specs.Laws.RecordOrders.{table_in_order}
use Rattle.table_order.specs.TableOrder.{order, ordered}
use Rattle.table_diff.specs.declared.matching.Match.{Match}
use Rattle.table_diff.specs.declared.matching.Match.TheVariants.{Both, Old, New}
use Rattle.table_diff.specs.declared.matching.RecordNumbers.{RecordNumbers}
use Rattle.table_diff.specs.KeySteps.{first_match, lesser_match}
use Rattle.table_diff.specs.Matching.{all_matches, in_new, in_old, keys_once, matches_by_key, matches_with, new_numbers, numbers_with, old_numbers, side_by_side}
use Rattle.table_diff.proofs.KeyOrder.{AreAmong, AreRising, Below, IsAmong, below_trans, first_of_key, keys_among, keys_rising, not_below_itself, turned, turned_back}

-- each pair stands before all later ones
abbrev pub AreSorted : List Pair → Type 0
AreSorted [] = Unit {0}
AreSorted (p ∷ ps) = AllByRecursion (λ q. pair_cmp p q ≡ Less) ps × AreSorted ps

pub sorted_from : (ps : List Pair) → AreInOrder ps → AreSorted ps
unfolding IsStrictlySortedBy
sorted_from [] h = tt
sorted_from (p ∷ ps) h = (h.0, sorted_from ps h.1)

pub sorted_left : (n : ℕ) (ps : List Pair) → AreSorted ps → AreSorted (drop n ps)
sorted_left zero ps h = h
sorted_left (suc n) [] h = tt
sorted_left (suc n) (p ∷ ps) h = sorted_left n ps h.1

pub among_left : (n : ℕ) (ks : List (List ℕ)) (ps : List Pair) → AreAmong ks ps → AreAmong ks (drop n ps)
among_left zero ks ps h = h
among_left (suc n) ks [] h = tt
among_left (suc n) ks (p ∷ ps) h = among_left n ks ps h.1

pub both_among : (ks : List (List ℕ)) (ps qs : List Pair) → AreAmong ks (ps ++ qs) → AreAmong ks ps × AreAmong ks qs
both_among ks [] qs h = (tt, h)
both_among ks (p ∷ ps) qs h = let rest = both_among ks ps qs h.1 in ((h.0, rest.0), rest.1)

-- ---- the numbers that have a key

-- no pair has the key
abbrev Lack : List ℕ → List Pair → Type 0
Lack key ps = AllByRecursion (λ p. p.key ≡ key → ⊥) ps

other_bytes : (a b : List ℕ) → (a ≡ b → ⊥) → bytes_eq a b ≡ false
other_bytes a b h = false_from_ne_true (bytes_eq a b) (λ e. h ((bytes_eq-Decides a b).0 e))

lack_none : (key : List ℕ) (ps : List Pair) → Lack key ps → numbers_with ps key ≡ []
lack_none key [] h = refl
lack_none key (p ∷ ps) h = rw (other_bytes p.key key h.0) (lack_none key ps h.1)

-- no later pair has a key that is below that of a pair
later_key : (p q : Pair) (key : List ℕ) → Below key p.key → pair_cmp p q ≡ Less → q.key ≡ key → ⊥
later_key p q key low before e =
    let above : slice_cmp nat_cmp p.key q.key ≡ Greater = turned_back q.key p.key (subst (λ (k : List ℕ). Below k p.key) (sym e) low) in
    let other : pair_cmp p q ≡ Greater = ap (λ (o : Ordering). ordering_then o (nat_cmp p.number q.number)) above in
    cc

lack_before : (p : Pair) (ps : List Pair) (key : List ℕ) → AreSorted (p ∷ ps) → Below key p.key → Lack key (p ∷ ps)
lack_before p ps key sorted low = (
  λ e. not_below_itself key (subst (λ (k : List ℕ). Below key k) e low),
  all_weaker (λ (q : Pair). pair_cmp p q ≡ Less) (λ (q : Pair). q.key ≡ key → ⊥) (λ q before. later_key p q key low before) ps sorted.0,
)

numbers_here : (p : Pair) (ps : List Pair) → numbers_with (p ∷ ps) p.key ≡ p.number ∷ numbers_with ps p.key
numbers_here p ps = rw ((bytes_eq-Decides p.key p.key).1 refl) refl

numbers_other : (p : Pair) (ps : List Pair) (key : List ℕ) → (p.key ≡ key → ⊥) → numbers_with (p ∷ ps) key ≡ numbers_with ps key
numbers_other p ps key ne = rw (other_bytes p.key key ne) refl

-- ---- the first match

by_numbers : (a b c d : List ℕ) → a ≡ b → c ≡ d → side_by_side a c ≡ side_by_side b d
by_numbers a b c d e h = ap (λ (x : List ℕ). side_by_side x c) e ∙ ap (side_by_side b) h

olds_alone : (os : List ℕ) → side_by_side os [] ≡ map Old os
olds_alone [] = refl
olds_alone (o ∷ os) = refl

old_step : (p : Pair) (ps qs : List Pair) (ks : List (List ℕ)) → AreSorted (p ∷ ps) → Lack p.key qs → ((k : List ℕ) → Below k p.key → Lack k qs)
    → AreRising ks → IsAmong p.key ks → flat_map (matches_with (p ∷ ps) qs) ks ≡ Old p.number ∷ flat_map (matches_with ps qs) ks
old_step p ps qs ks sorted lack lower rising there =
    let none : numbers_with qs p.key ≡ [] = lack_none p.key qs lack in
    let own : List ℕ = numbers_with ps p.key in
    first_of_key (matches_with (p ∷ ps) qs) (matches_with ps qs) (Old p.number) p.key ks rising there
    (by_numbers _ _ _ _ (numbers_here p ps) none ∙ ap (λ (ms : List Match). Old p.number ∷ ms) (sym (olds_alone own) ∙ ap (side_by_side own) (sym none)))
    (λ k low. by_numbers _ _ _ _ (lack_none k (p ∷ ps) (lack_before p ps k sorted low)) (lack_none k qs (lower k low)))
    (λ k ne. by_numbers _ _ _ _ (numbers_other p ps k (λ e. ne (sym e))) refl)

new_step : (q : Pair) (ps qs : List Pair) (ks : List (List ℕ)) → AreSorted (q ∷ qs) → Lack q.key ps → ((k : List ℕ) → Below k q.key → Lack k ps)
    → AreRising ks → IsAmong q.key ks → flat_map (matches_with ps (q ∷ qs)) ks ≡ New q.number ∷ flat_map (matches_with ps qs) ks
new_step q ps qs ks sorted lack lower rising there =
    let none : numbers_with ps q.key ≡ [] = lack_none q.key ps lack in
    let own : List ℕ = numbers_with qs q.key in
    first_of_key (matches_with ps (q ∷ qs)) (matches_with ps qs) (New q.number) q.key ks rising there
    (by_numbers _ _ _ _ none (numbers_here q qs) ∙ ap (λ (ms : List Match). New q.number ∷ ms) (ap (λ (x : List ℕ). side_by_side x own) (sym none)))
    (λ k low. by_numbers _ _ _ _ (lack_none k ps (lower k low)) (lack_none k (q ∷ qs) (lack_before q qs k sorted low)))
    (λ k ne. by_numbers _ _ _ _ refl (numbers_other q qs k (λ e. ne (sym e))))

abbrev of_both : Pair → Pair → RecordNumbers
of_both p q = record { old_number = p.number; new_number = q.number }

both_step : (p q : Pair) (ps qs : List Pair) (ks : List (List ℕ)) → AreSorted (p ∷ ps) → AreSorted (q ∷ qs) → p.key ≡ q.key
    → AreRising ks → IsAmong p.key ks → flat_map (matches_with (p ∷ ps) (q ∷ qs)) ks ≡ Both (of_both p q) ∷ flat_map (matches_with ps qs) ks
both_step p q ps qs ks sorted ordered e rising there =
    let too : numbers_with (q ∷ qs) p.key ≡ q.number ∷ numbers_with qs p.key =
    subst (λ (k : List ℕ). numbers_with (q ∷ qs) k ≡ q.number ∷ numbers_with qs k) (sym e) (numbers_here q qs) in
    first_of_key (matches_with (p ∷ ps) (q ∷ qs)) (matches_with ps qs) (Both (of_both p q)) p.key ks rising there
    (by_numbers _ _ _ _ (numbers_here p ps) too)
    (λ k low. by_numbers _ _ _ _ (lack_none k (p ∷ ps) (lack_before p ps k sorted low))
    (lack_none k (q ∷ qs) (lack_before q qs k ordered (subst (λ (x : List ℕ). Below k x) e low))))
    (λ k ne. by_numbers _ _ _ _ (numbers_other p ps k (λ x. ne (sym x))) (numbers_other q qs k (λ x. ne (sym x ∙ sym e))))

-- what is told of pairs in order is their first match, and what is told of those after it
abbrev pub IsFirst : List Pair → List Pair → List (List ℕ) → Match → Type 0
IsFirst ps qs ks m =
    flat_map (matches_with ps qs) ks ≡ m ∷ flat_map (matches_with (drop (length (in_old m)) ps) (drop (length (in_new m)) qs)) ks

pub first_step : (ps qs : List Pair) (ks : List (List ℕ)) (m : Match) → AreSorted ps → AreSorted qs → AreRising ks → AreAmong ks ps → AreAmong ks qs
    → first_match ps qs ≡ Some m → IsFirst ps qs ks m
first_step [] [] ks m a b rising c d e = absurd cc
first_step [] (q ∷ qs) ks m a b rising c d e =
    let is : New q.number ≡ m = cc in
    subst (IsFirst [] (q ∷ qs) ks) is (new_step q [] qs ks b tt (λ k low. tt) rising d.0)
first_step (p ∷ ps) [] ks m a b rising c d e =
    let is : Old p.number ≡ m = cc in
    subst (IsFirst (p ∷ ps) [] ks) is (old_step p ps [] ks a tt (λ k low. tt) rising c.0)
first_step (p ∷ ps) (q ∷ qs) ks m a b rising c d e =
    let is : lesser_match p.key q.key (of_both p q) ≡ m = cc in
    subst (IsFirst (p ∷ ps) (q ∷ qs) ks) is (elim (slice_cmp nat_cmp p.key q.key) as (λ o. slice_cmp nat_cmp p.key q.key ≡ o
    → IsFirst (p ∷ ps) (q ∷ qs) ks (elim o [ Less ↦ Old p.number | Equal ↦ Both (of_both p q) | Greater ↦ New q.number ])) [
      | Less ↦ λ o. old_step p ps (q ∷ qs) ks a (lack_before q qs p.key b o) (λ k low. lack_before q qs k b (below_trans k p.key q.key low o)) rising c.0
      | Equal ↦ λ o. both_step p q ps qs ks a b (exact_bytes p.key q.key o) rising c.0
      | Greater ↦ λ o.
          let low : Below q.key p.key = turned p.key q.key o in
          new_step q (p ∷ ps) qs ks b (lack_before p ps q.key a low) (λ k lower. lack_before p ps k a (below_trans k q.key p.key lower low)) rising d.0
    ] refl)

-- ---- how many records a match has

-- the match takes one record at least, and those that it takes are there
pub record Takes (ps qs : List Pair) (m : Match) : Type 0 where
  pub some : 1 ≤ length (in_old m) + length (in_new m)
  pub from_olds : length (in_old m) ≤ length ps
  pub from_news : length (in_new m) ≤ length qs

pub first_takes : (ps qs : List Pair) (m : Match) → first_match ps qs ≡ Some m → Takes ps qs m
first_takes [] [] m e = absurd cc
first_takes [] (q ∷ qs) m e =
    let is : New q.number ≡ m = cc in subst (Takes [] (q ∷ qs)) is (record { some = omega arith; from_olds = omega arith; from_news = omega arith })
first_takes (p ∷ ps) [] m e =
    let is : Old p.number ≡ m = cc in subst (Takes (p ∷ ps) []) is (record { some = omega arith; from_olds = omega arith; from_news = omega arith })
first_takes (p ∷ ps) (q ∷ qs) m e =
    let is : lesser_match p.key q.key (of_both p q) ≡ m = cc in
    subst (Takes (p ∷ ps) (q ∷ qs)) is (elim (slice_cmp nat_cmp p.key q.key) as (λ o.
    Takes (p ∷ ps) (q ∷ qs) (elim o [ Less ↦ Old p.number | Equal ↦ Both (of_both p q) | Greater ↦ New q.number ])) [
      | Less ↦ record { some = omega arith; from_olds = omega arith; from_news = omega arith }
      | Equal ↦ record { some = omega arith; from_olds = omega arith; from_news = omega arith }
      | Greater ↦ record { some = omega arith; from_olds = omega arith; from_news = omega arith }
    ])

-- of no pairs nothing is told
pub none_left : (ps qs : List Pair) (ks : List (List ℕ)) → first_match ps qs ≡ None → flat_map (matches_with ps qs) ks ≡ []
none_left [] [] [] e = refl
none_left [] [] (k ∷ ks) e = none_left [] [] ks e
none_left [] (q ∷ qs) ks e = absurd cc
none_left (p ∷ ps) [] ks e = absurd cc
none_left (p ∷ ps) (q ∷ qs) ks e = absurd cc

pub all_matches_are : (ps qs : List Pair) → all_matches ps qs ≡ flat_map (matches_with ps qs) (keys_once (ps ++ qs))
unfolding all_matches
all_matches_are ps qs = refl

-- ---- each record is matched once

olds_in_new : (ns : List ℕ) → old_numbers (map New ns) ≡ []
olds_in_new [] = refl
olds_in_new (n ∷ ns) = olds_in_new ns

olds_in_old : (os : List ℕ) → old_numbers (map Old os) ≡ os
olds_in_old [] = refl
olds_in_old (o ∷ os) = ap (λ (xs : List ℕ). o ∷ xs) (olds_in_old os)

news_in_old : (os : List ℕ) → new_numbers (map Old os) ≡ []
news_in_old [] = refl
news_in_old (o ∷ os) = news_in_old os

news_in_new : (ns : List ℕ) → new_numbers (map New ns) ≡ ns
news_in_new [] = refl
news_in_new (n ∷ ns) = ap (λ (xs : List ℕ). n ∷ xs) (news_in_new ns)

olds_side_by_side : (os ns : List ℕ) → old_numbers (side_by_side os ns) ≡ os
olds_side_by_side [] ns = olds_in_new ns
olds_side_by_side (o ∷ os) [] = olds_in_old (o ∷ os)
olds_side_by_side (o ∷ os) (n ∷ ns) = ap (λ (xs : List ℕ). o ∷ xs) (olds_side_by_side os ns)

news_side_by_side : (os ns : List ℕ) → new_numbers (side_by_side os ns) ≡ ns
news_side_by_side [] ns = news_in_new ns
news_side_by_side (o ∷ os) [] = news_in_old (o ∷ os)
news_side_by_side (o ∷ os) (n ∷ ns) = ap (λ (xs : List ℕ). n ∷ xs) (news_side_by_side os ns)

olds_of_keys : (ps qs : List Pair) (ks : List (List ℕ)) → old_numbers (flat_map (matches_with ps qs) ks) ≡ flat_map (numbers_with ps) ks
olds_of_keys ps qs [] = refl
olds_of_keys ps qs (k ∷ ks) =
    flat_map-append in_old (matches_with ps qs k) (flat_map (matches_with ps qs) ks)
    ∙ ap (λ (xs : List ℕ). xs ++ old_numbers (flat_map (matches_with ps qs) ks)) (olds_side_by_side (numbers_with ps k) (numbers_with qs k))
    ∙ ap (λ (xs : List ℕ). numbers_with ps k ++ xs) (olds_of_keys ps qs ks)

news_of_keys : (ps qs : List Pair) (ks : List (List ℕ)) → new_numbers (flat_map (matches_with ps qs) ks) ≡ flat_map (numbers_with qs) ks
news_of_keys ps qs [] = refl
news_of_keys ps qs (k ∷ ks) =
    flat_map-append in_new (matches_with ps qs k) (flat_map (matches_with ps qs) ks)
    ∙ ap (λ (xs : List ℕ). xs ++ new_numbers (flat_map (matches_with ps qs) ks)) (news_side_by_side (numbers_with ps k) (numbers_with qs k))
    ∙ ap (λ (xs : List ℕ). numbers_with qs k ++ xs) (news_of_keys ps qs ks)

no_numbers : (ks : List (List ℕ)) → flat_map (numbers_with []) ks ≡ []
no_numbers [] = refl
no_numbers (k ∷ ks) = no_numbers ks

-- the numbers that have each key, in order, are those of the pairs in their order
pub numbers_in_order : (ps : List Pair) (ks : List (List ℕ)) → AreSorted ps → AreRising ks → AreAmong ks ps → flat_map (numbers_with ps) ks ≡ map (λ (p : Pair). p.number) ps
numbers_in_order [] ks sorted rising among = no_numbers ks
numbers_in_order (p ∷ ps) ks sorted rising among =
    first_of_key (numbers_with (p ∷ ps)) (numbers_with ps) p.number p.key ks rising among.0 (numbers_here p ps)
    (λ k low. lack_none k (p ∷ ps) (lack_before p ps k sorted low)) (λ k ne. numbers_other p ps k (λ e. ne (sym e)))
    ∙ ap (λ (ns : List ℕ). p.number ∷ ns) (numbers_in_order ps ks sorted.1 rising among.1)

-- the keys of two tables
abbrev pub table_keys : Table → Table → Expr → Expr → List (List ℕ)
table_keys old new e f = keys_once (order old e ++ order new f)

pub old_order : (old new : Table) (e f : Expr) → flat_map (numbers_with (order old e)) (table_keys old new e f) ≡ ordered old e
old_order old new e f =
    let ks = table_keys old new e f in
    let among = both_among ks (order old e) (order new f) (keys_among (order old e ++ order new f)) in
    numbers_in_order (order old e) ks (sorted_from (order old e) (table_in_order old e)) (keys_rising (order old e ++ order new f)) among.0

pub new_order : (old new : Table) (e f : Expr) → flat_map (numbers_with (order new f)) (table_keys old new e f) ≡ ordered new f
new_order old new e f =
    let ks = table_keys old new e f in
    let among = both_among ks (order old e) (order new f) (keys_among (order old e ++ order new f)) in
    numbers_in_order (order new f) ks (sorted_from (order new f) (table_in_order new f)) (keys_rising (order old e ++ order new f)) among.1

pub olds_matched : (old new : Table) (e f : Expr) → old_numbers (matches_by_key old new e f) ≡ ordered old e
unfolding all_matches
olds_matched old new e f = olds_of_keys (order old e) (order new f) (table_keys old new e f) ∙ old_order old new e f

pub news_matched : (old new : Table) (e f : Expr) → new_numbers (matches_by_key old new e f) ≡ ordered new f
unfolding all_matches
news_matched old new e f = news_of_keys (order old e) (order new f) (table_keys old new e f) ∙ new_order old new e f
