-- Entries put in order stand for the pairs in order.
use Rattle.std.proofs.Common.{◌≡◌, ℕ, zero, suc, ◌+◌, ◌<◌, ◌≤◌, Bool, List, [], ◌∷◌, ◌++◌, length, map, take, drop, get_or, refl, ap, sym, subst, add-one, zero-add, ◌∙◌, arith}
use Rattle.std.specs.Prelude.{min, All}
use Rattle.std.specs.declared.cmp.Ordering.{Ordering}
use Rattle.std.specs.declared.cmp.Ordering.TheVariants.{Less, Equal, Greater}
use Rattle.std.specs.Cmp.{IsStrictWeakOrder, nat_cmp_is}
use Rattle.std.specs.Fn.{Called, ComparesAs}
use denote.Ref.{Bor}
use denote.Param.Members.{Mut}
use Rattle.std.specs.Cmp.Lexicographic.{slice_cmp}
use Rattle.std.specs.Ordering.{nat_cmp, ordering_then, is_lt}
use Rattle.std.specs.List.Sorted.{IsPermutation, IsSorted, IsSortedBy}
use Rattle.std.proofs.lemmas.Fn.{always_returns_same}
use Rattle.std.proofs.lemmas.Cmp.{then_total, on_total, nat_cmp_total, nat_list_cmp_total, tied_itself}
use Rattle.std.proofs.lemmas.List.{get_or-map, length-map, length-drop, map-append, take_more, drop_min, drop-drop, ext_get_or}
use Rattle.std.proofs.lemmas.List.Sorted.{IsPermutation-map, All-permutation, ranks_by}
use Rattle.byteorder.specs.Endian.{big_number}
use Rattle.ndx_index.specs.declared.pair.Pair.{Pair}
use Rattle.ndx_index.specs.declared.pair_list.sorting.SortEntry.{SortEntry}
use Rattle.ndx_index.specs.Index.{HaveLength}
use Rattle.ndx_index.specs.Order.{pair_cmp, in_order}
use Rattle.ndx_index.specs.Places.{counted}
use Rattle.ndx_index.specs.Slots.{slot_at, no_pair}
use Rattle.ndx_index.specs.Sorting.{front_number, pair_of_entry, entry_of_place, sort_entries, entry_cmp, front_cmp, place_cmp, AreBytes, HaveBytes, BeginAlike, EndAlike, IsOfPlace}
use Rattle.ndx_index.specs.Laws.Comparing.{pairs_total}
use Rattle.ndx_index.specs.Laws.Counting.{length-counted, counted-push}
use Rattle.ndx_index.specs.Laws.Numbered.{counted_place}
use Rattle.ndx_index.specs.Laws.Sorting.{in_order_from_sort}
use Rattle.ndx_index.proofs.Alike.{long_at}
use Rattle.ndx_index.proofs.KeyNumbers.{by_numbers}

-- the entry is that of a place of the list
pub record IsEntry (start : ℕ) (ps : List Pair) (e : SortEntry) : Type 0 where
  pub inside : e.place < length ps
  pub own : e ≡ entry_of_place start ps e.place

-- ---- entries compare as the pairs that they stand for

then_again : (c r n : Ordering) → ordering_then c (ordering_then (ordering_then c r) n) ≡ ordering_then (ordering_then c r) n
then_again Less r n = refl
then_again Equal r n = refl
then_again Greater r n = refl

then_equal : (c n : Ordering) → ordering_then (ordering_then c Equal) n ≡ ordering_then c n
then_equal Less n = refl
then_equal Equal n = refl
then_equal Greater n = refl

-- lists that begin alike compare by what comes then
after_start : (n : ℕ) (xs ys : List ℕ) → take n xs ≡ take n ys → slice_cmp nat_cmp xs ys ≡ slice_cmp nat_cmp (drop n xs) (drop n ys)
after_start zero xs ys same = refl
after_start (suc n) [] [] same = refl
after_start (suc n) [] (y ∷ ys) same = absurd (omega (arith, ap length same))
after_start (suc n) (x ∷ xs) [] same = absurd (omega (arith, ap length same))
after_start (suc n) (x ∷ xs) (y ∷ ys) same =
    let head : x ≡ y = ap (λ (zs : List ℕ). get_or zs 0 0) same in
    let rest : take n xs ≡ take n ys = ap (λ (zs : List ℕ). drop 1 zs) same in
    ap (λ (o : Ordering). ordering_then o (slice_cmp nat_cmp xs ys)) (sym (nat_cmp_is x y Equal head)) ∙ after_start n xs ys rest

-- keys of one length stand by their fronts first
by_front : (xs ys : List ℕ) → length xs ≡ length ys → AreBytes xs → AreBytes ys
    → slice_cmp nat_cmp xs ys ≡ ordering_then (nat_cmp (front_number xs) (front_number ys)) (slice_cmp nat_cmp (drop 8 xs) (drop 8 ys))
by_front xs ys long fit sit =
    let n : ℕ = min 8 (length xs) in
    let first : n ≤ length xs = omega arith in
    let second : n ≤ length ys = omega (arith, long) in
    let same : n ≡ min 8 (length ys) = ap (min 8) long in
    let c : Ordering = nat_cmp (front_number xs) (front_number ys) in
    by_numbers n xs ys first second fit sit
    ∙ ap (λ (m : ℕ). ordering_then (nat_cmp (big_number n xs) (big_number m ys)) (slice_cmp nat_cmp (drop n xs) (drop m ys))) same
    ∙ ap (λ (zs : List ℕ). ordering_then c (slice_cmp nat_cmp zs (drop (min 8 (length ys)) ys))) (drop_min 8 xs)
    ∙ ap (λ (zs : List ℕ). ordering_then c (slice_cmp nat_cmp (drop 8 xs) zs)) (drop_min 8 ys)

-- what two pairs of one list are known by
pub record AreAlike (start : ℕ) (p q : Pair) : Type 0 where
  pub long : length p.key ≡ length q.key
  pub begin : take start p.key ≡ take start q.key
  pub first : AreBytes (drop start p.key)
  pub second : AreBytes (drop start q.key)

by_start : (start : ℕ) (p q : Pair) → AreAlike start p q
    → slice_cmp nat_cmp p.key q.key ≡ ordering_then (nat_cmp (front_number (drop start p.key)) (front_number (drop start q.key))) (slice_cmp nat_cmp (drop (start + 8) p.key) (drop (start + 8) q.key))
by_start start p q alike =
    let c : Ordering = nat_cmp (front_number (drop start p.key)) (front_number (drop start q.key)) in
    let long : length (drop start p.key) ≡ length (drop start q.key) = omega (arith, length-drop start p.key, length-drop start q.key, alike.long) in
    after_start start p.key q.key alike.begin ∙ by_front (drop start p.key) (drop start q.key) long alike.first alike.second
    ∙ ap (λ (zs : List ℕ). ordering_then c (slice_cmp nat_cmp zs (drop 8 (drop start q.key)))) (drop-drop 8 start p.key)
    ∙ ap (λ (zs : List ℕ). ordering_then c (slice_cmp nat_cmp (drop (start + 8) p.key) zs)) (drop-drop 8 start q.key)

stands : (start : ℕ) (p q : Pair) → AreAlike start p q
    → ordering_then (nat_cmp (front_number (drop start p.key)) (front_number (drop start q.key))) (pair_cmp p q) ≡ pair_cmp p q
stands start p q alike =
    let c : Ordering = nat_cmp (front_number (drop start p.key)) (front_number (drop start q.key)) in
    let rest : Ordering = slice_cmp nat_cmp (drop (start + 8) p.key) (drop (start + 8) q.key) in
    let numbers : Ordering = nat_cmp p.number q.number in
    let whole : slice_cmp nat_cmp p.key q.key ≡ ordering_then c rest = by_start start p q alike in
    ap (λ (o : Ordering). ordering_then c (ordering_then o numbers)) whole ∙ then_again c rest numbers ∙ ap (λ (o : Ordering). ordering_then o numbers) (sym whole)

-- pairs that end alike stand by their fronts and their numbers
stands_alone : (start : ℕ) (p q : Pair) → AreAlike start p q → drop (start + 8) p.key ≡ drop (start + 8) q.key
    → ordering_then (nat_cmp (front_number (drop start p.key)) (front_number (drop start q.key))) (nat_cmp p.number q.number) ≡ pair_cmp p q
stands_alone start p q alike end =
    let c : Ordering = nat_cmp (front_number (drop start p.key)) (front_number (drop start q.key)) in
    let numbers : Ordering = nat_cmp p.number q.number in
    let tie : slice_cmp nat_cmp (drop (start + 8) p.key) (drop (start + 8) q.key) ≡ Equal =
    ap (λ (zs : List ℕ). slice_cmp nat_cmp zs (drop (start + 8) q.key)) end ∙ tied_itself nat_list_cmp_total (drop (start + 8) q.key) in
    let whole : slice_cmp nat_cmp p.key q.key ≡ ordering_then c Equal = by_start start p q alike ∙ ap (ordering_then c) tie in
    sym (ap (λ (o : Ordering). ordering_then o numbers) whole ∙ then_equal c numbers)

-- what is known of the keys of a list
pub record AreKnown (key_len start : ℕ) (ps : List Pair) : Type 0 where
  pub long : HaveLength key_len ps
  pub begin : BeginAlike start ps
  pub bytes : HaveBytes start ps

alike_at : (k start : ℕ) (ps : List Pair) (i j : ℕ) → AreKnown k start ps → i < length ps → j < length ps → AreAlike start (slot_at ps i) (slot_at ps j)
alike_at k start ps i j known one two = record {
  long = long_at k ps i known.long one ∙ sym (long_at k ps j known.long two);
  begin = known.begin i one ∙ sym (known.begin j two);
  first = known.bytes i one;
  second = known.bytes j two;
}

fronts_of : (start : ℕ) (ps : List Pair) (a b : SortEntry) → IsEntry start ps a → IsEntry start ps b
    → nat_cmp a.front b.front ≡ nat_cmp (front_number (drop start (pair_of_entry ps a).key)) (front_number (drop start (pair_of_entry ps b).key))
fronts_of start ps a b one two =
    ap (λ (m : ℕ). nat_cmp m b.front) (ap (λ (e : SortEntry). e.front) one.own)
    ∙ ap (nat_cmp (front_number (drop start (pair_of_entry ps a).key))) (ap (λ (e : SortEntry). e.front) two.own)

entry_cmp_is : (k start : ℕ) (ps : List Pair) (a b : SortEntry) → AreKnown k start ps → IsEntry start ps a → IsEntry start ps b → entry_cmp ps a b ≡ place_cmp ps a b
entry_cmp_is k start ps a b known one two =
    ap (λ (o : Ordering). ordering_then o (place_cmp ps a b)) (fronts_of start ps a b one two)
    ∙ stands start (pair_of_entry ps a) (pair_of_entry ps b) (alike_at k start ps a.place b.place known one.inside two.inside)

front_cmp_is : (k start : ℕ) (ps : List Pair) (a b : SortEntry) → AreKnown k start ps → EndAlike (start + 8) ps → IsEntry start ps a → IsEntry start ps b → front_cmp a b ≡ place_cmp ps a b
front_cmp_is k start ps a b known end one two =
    let p : Pair = pair_of_entry ps a in
    let q : Pair = pair_of_entry ps b in
    let c : Ordering = nat_cmp (front_number (drop start p.key)) (front_number (drop start q.key)) in
    ap (λ (o : Ordering). ordering_then o (nat_cmp a.number b.number)) (fronts_of start ps a b one two)
    ∙ ap (λ (m : ℕ). ordering_then c (nat_cmp m b.number)) (ap (λ (e : SortEntry). e.number) one.own)
    ∙ ap (λ (m : ℕ). ordering_then c (nat_cmp p.number m)) (ap (λ (e : SortEntry). e.number) two.own)
    ∙ stands_alone start p q (alike_at k start ps a.place b.place known one.inside two.inside) (end a.place one.inside ∙ sym (end b.place two.inside))

-- what the sorts ask: total orders
pub entries_rank : (ps : List Pair) → IsStrictWeakOrder (λ (a b : SortEntry). is_lt (entry_cmp ps a b))
entries_rank ps = ranks_by (then_total (on_total (λ (e : SortEntry). e.front) nat_cmp_total) (on_total (pair_of_entry ps) pairs_total)) (λ (e : SortEntry). e)

pub fronts_rank : IsStrictWeakOrder (λ (a b : SortEntry). is_lt (front_cmp a b))
fronts_rank = ranks_by (then_total (on_total (λ (e : SortEntry). e.front) nat_cmp_total) (on_total (λ (e : SortEntry). e.number) nat_cmp_total)) (λ (e : SortEntry). e)

-- from the clause `sorted` of a sort whose closure compares so, and stays as it was
pub sorted_by_closure : {F : Type 0} {g : Mut F (Bor SortEntry × (Bor SortEntry × Unit {0})) Ordering} {f : F} (cmp : SortEntry → SortEntry → Ordering) (es : List SortEntry)
    → IsStrictWeakOrder (λ (a b : SortEntry). is_lt (cmp a b))
    → ((lt : SortEntry → SortEntry → Bool) → IsStrictWeakOrder lt → ComparesAs g lt f → IsSortedBy lt es)
    → ((a : Bor SortEntry × (Bor SortEntry × Unit {0})) (r : Ordering) (f' : F) → Called g f a r f' → (r ≡ cmp a.0.now a.1.0.now) × (f' ≡ f))
    → IsSorted cmp es
sorted_by_closure {g = g} {f = f} cmp es rank up h =
    up (λ (a b : SortEntry). is_lt (cmp a b)) rank
    (always_returns_same g (λ a r. is_lt r ≡ is_lt (cmp a.0.now a.1.0.now)) f (λ a r f' k. (ap is_lt (h a r f' k).0, (h a r f' k).1)))

-- ---- the entries of a list

length-entries : (start : ℕ) (ps : List Pair) → length (sort_entries start ps) ≡ length ps
length-entries start ps = length-map (counted 0 (length ps)) (entry_of_place start ps) ∙ length-counted (length ps) 0

-- one more entry
pub entries-push : (start : ℕ) (ps : List Pair) (i : ℕ)
    → map (entry_of_place start ps) (counted 0 (i + 1)) ≡ map (entry_of_place start ps) (counted 0 i) ++ entry_of_place start ps i ∷ []
entries-push start ps i =
    let f : ℕ → SortEntry = entry_of_place start ps in
    let more : counted 0 (i + 1) ≡ counted 0 i ++ (0 + i) ∷ [] = ap (counted 0) (add-one i) ∙ counted-push i 0 in
    ap (map f) more ∙ map-append f (counted 0 i) ((0 + i) ∷ []) ∙ ap (λ (m : ℕ). map f (counted 0 i) ++ f m ∷ []) (zero-add i)

-- one more pair of an entry
pub pairs-push : (ps : List Pair) (es : List SortEntry) (i : ℕ) (d : SortEntry) → i < length es
    → map (pair_of_entry ps) (take (i + 1) es) ≡ map (pair_of_entry ps) (take i es) ++ pair_of_entry ps (get_or es i d) ∷ []
pairs-push ps es i d lt =
    ap (map (pair_of_entry ps)) (take_more es i d lt) ∙ map-append (pair_of_entry ps) (take i es) (get_or es i d ∷ [])

-- the entry at a place is that of the place
entry_at : (start : ℕ) (ps : List Pair) (i : ℕ) (d : SortEntry) → i < length ps → get_or (sort_entries start ps) i d ≡ entry_of_place start ps i
entry_at start ps i d lt =
    let inside : i < length (counted 0 (length ps)) = omega (arith, length-counted (length ps) 0) in
    let at : get_or (counted 0 (length ps)) i 0 ≡ i = omega (arith, counted_place (length ps) 0 i lt) in
    get_or-map (entry_of_place start ps) (counted 0 (length ps)) i 0 d inside ∙ ap (entry_of_place start ps) at

abbrev pub no_entry : SortEntry
no_entry = record { front = 0; number = 0; place = 0 }

all_entries : (start : ℕ) (ps : List Pair) → All (IsEntry start ps) (sort_entries start ps)
all_entries start ps k d lt =
    let inside : k < length ps = omega (arith, length-entries start ps) in
    subst (IsEntry start ps) (sym (entry_at start ps k d inside)) (record { inside = inside; own = refl })

-- the entries stand for the pairs
pairs_back : (start : ℕ) (ps : List Pair) → map (pair_of_entry ps) (sort_entries start ps) ≡ ps
pairs_back start ps =
    let es : List SortEntry = sort_entries start ps in
    let long : length (map (pair_of_entry ps) es) ≡ length ps = length-map es (pair_of_entry ps) ∙ length-entries start ps in
    ext_get_or no_pair (map (pair_of_entry ps) es) ps long (λ i lt.
    let inside : i < length ps = omega (arith, long) in
    let there : i < length es = omega (arith, length-entries start ps) in
    get_or-map (pair_of_entry ps) es i no_entry no_pair there ∙ ap (pair_of_entry ps) (entry_at start ps i no_entry inside))

-- ---- put in order

-- each entry stays that of a place
sorted_entries : (start : ℕ) (ps : List Pair) (es : List SortEntry) → IsPermutation (sort_entries start ps) es → All (IsEntry start ps) es
sorted_entries start ps es perm = All-permutation (IsEntry start ps) (sort_entries start ps) es perm (all_entries start ps)

pub sorted_places : (start : ℕ) (ps : List Pair) (es : List SortEntry) → IsPermutation (sort_entries start ps) es → All (IsOfPlace ps) es
sorted_places start ps es perm k d lt =
    let e = sorted_entries start ps es perm k d lt in (e.inside, ap (λ (e : SortEntry). e.number) e.own)

-- what is in one order is in another in which each two elements stand alike
same_sorted : (P : SortEntry → Type 0) (f g : SortEntry → SortEntry → Ordering) (es : List SortEntry) → All P es → ((a b : SortEntry) → P a → P b → f a b ≡ g a b)
    → IsSorted f es → IsSorted g es
same_sorted P f g es own same sorted i d low lt =
    let here : i < length es = omega (arith, lt) in
    sym (ap is_lt (same (get_or es (i + 1) d) (get_or es i d) (own (i + 1) d lt) (own i d here))) ∙ sorted i d low lt

pub by_entries : (k start : ℕ) (ps : List Pair) (es : List SortEntry) → AreKnown k start ps → IsPermutation (sort_entries start ps) es → IsSorted (entry_cmp ps) es → IsSorted (place_cmp ps) es
by_entries k start ps es known perm =
    same_sorted (IsEntry start ps) (entry_cmp ps) (place_cmp ps) es (sorted_entries start ps es perm) (λ a b one two. entry_cmp_is k start ps a b known one two)

pub by_fronts_alone : (k start : ℕ) (ps : List Pair) (es : List SortEntry) → AreKnown k start ps → EndAlike (start + 8) ps → IsPermutation (sort_entries start ps) es
    → IsSorted front_cmp es → IsSorted (place_cmp ps) es
by_fronts_alone k start ps es known end perm =
    same_sorted (IsEntry start ps) front_cmp (place_cmp ps) es (sorted_entries start ps es perm) (λ a b one two. front_cmp_is k start ps a b known end one two)

-- entries in order stand for the pairs in order
pub in_order_from_entries : (start : ℕ) (ps : List Pair) (es : List SortEntry) → IsPermutation (sort_entries start ps) es → IsSorted (place_cmp ps) es
    → map (pair_of_entry ps) es ≡ in_order ps
in_order_from_entries start ps es perm sorted =
    in_order_from_sort ps (map (pair_of_entry ps) es)
    (subst (λ (qs : List Pair). IsPermutation qs (map (pair_of_entry ps) es)) (pairs_back start ps) (IsPermutation-map (pair_of_entry ps) (sort_entries start ps) es perm))
    pairs_sorted
  where
    pairs_sorted : IsSorted pair_cmp (map (pair_of_entry ps) es)
    pairs_sorted i d low lt =
        let next : i + 1 < length es = omega (arith, length-map es (pair_of_entry ps)) in
        let here : i < length es = omega (arith, next) in
        rw (get_or-map (pair_of_entry ps) es (i + 1) no_entry d next, get_or-map (pair_of_entry ps) es i no_entry d here) (sorted i no_entry low next)
