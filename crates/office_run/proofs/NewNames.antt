-- One more index of a table, by a name that no index has: each name of a table or an index is still new at its place.
use Rattle.std.proofs.Common.{◌≡◌, ℕ, zero, suc, ◌+◌, Bool, true, false, ◌||◌, nat_lt, List, [], ◌∷◌, ◌++◌, length, map, slice_set, slice_index_or, refl, sym, ap, subst, ◌∙◌, arith, length-append}
use Rattle.std.specs.Prelude.{bytes_eq, nat_le}
use Rattle.std.specs.List.{list_any}
use Rattle.std.proofs.lemmas.Bool.Decides.{nat_tests}
use Rattle.std.proofs.lemmas.List.{map-append, length-map}
use Rattle.std.proofs.lemmas.List.Folds.{list_any-append}
use Rattle.std.proofs.lemmas.Slice.Eq.{bytes_eq-Decides}
use Rattle.table_core.specs.Content.{Content, Indexed, with_index, has_index}
use Rattle.catalogue_core.specs.declared.opening.TheConstants.{MAX_INDEXES}
use Rattle.catalogue_core.specs.Names.{includes_name}
use Rattle.catalogue_core.specs.State.{no_content}
use Rattle.office_run.proofs.Headings.{Heading, index_names, headings, AreNewIndexes, IsNewTable, AreNewTables, any_index}

-- an index of one of the tables has the name
abbrev pub has_name : List Heading → List ℕ → Bool
has_name ts name = list_any (λ (t : Heading). includes_name t.1 name) ts

-- ---- tests

pub both_false : (a b : Bool) → (a || b) ≡ false → (a ≡ false) × (b ≡ false)
both_false true b h = absurd cc
both_false false b h = (refl, h)

pub or_false : (a b : Bool) → a ≡ false → b ≡ false → (a || b) ≡ false
or_false true b h k = absurd cc
or_false false b h k = k

or_none : (a : Bool) → (a || false) ≡ a
or_none true = refl
or_none false = refl

pub differs : (a b : List ℕ) → bytes_eq a b ≡ false → bytes_eq b a ≡ false
differs a b h = by (bytes_eq b a) refl
  where
    by : (t : Bool) → bytes_eq b a ≡ t → t ≡ false
    by false is = refl
    by true is =
        let same : b ≡ a = (bytes_eq-Decides b a).0 is in
        let other : bytes_eq a b ≡ true = (bytes_eq-Decides a b).1 (sym same) in
        absurd cc

pub includes_end : (names : List (List ℕ)) (name x : List ℕ) → includes_name (names ++ name ∷ []) x ≡ (includes_name names x || bytes_eq x name)
includes_end names name x = list_any-append (bytes_eq x) names (name ∷ []) ∙ ap (λ (b : Bool). includes_name names x || b) (or_none (bytes_eq x name))

has_end : (ts : List Heading) (t : Heading) (x : List ℕ) → has_name (ts ++ t ∷ []) x ≡ (has_name ts x || includes_name t.1 x)
has_end ts t x =
    list_any-append (λ (u : Heading). includes_name u.1 x) ts (t ∷ []) ∙ ap (λ (b : Bool). has_name ts x || b) (or_none (includes_name t.1 x))

-- ---- the tables after the one that has the new name

-- the tables of both have the same names, and indexes of the same names but this one
record IsSameBut (name : List ℕ) (before after : List Heading) : Type 0 where
  tables : map (λ (b : Heading). b.0) after ≡ map (λ (b : Heading). b.0) before
  others : (x : List ℕ) → bytes_eq x name ≡ false → has_name after x ≡ has_name before x

-- the table with the name among its indexes
with_new : Heading → List ℕ → Heading
with_new t name = (t.0, t.1 ++ name ∷ [])

same_here : (before : List Heading) (t : Heading) (name : List ℕ) → IsSameBut name (before ++ t ∷ []) (before ++ with_new t name ∷ [])
unfolding with_new
same_here before t name = record {
  tables = map-append (λ (b : Heading). b.0) before (with_new t name ∷ []) ∙ sym (map-append (λ (b : Heading). b.0) before (t ∷ []));
  others = λ x d.
      has_end before (with_new t name) x
      ∙ ap (λ (b : Bool). has_name before x || b) (includes_end t.1 name x ∙ ap (λ (b : Bool). includes_name t.1 x || b) d ∙ or_none (includes_name t.1 x))
      ∙ sym (has_end before t x);
}

same_more : (name : List ℕ) (before after : List Heading) (t : Heading) → IsSameBut name before after → IsSameBut name (before ++ t ∷ []) (after ++ t ∷ [])
same_more name before after t same = record {
  tables =
      map-append (λ (b : Heading). b.0) after (t ∷ []) ∙ ap (λ (l : List (List ℕ)). l ++ t.0 ∷ []) same.tables
      ∙ sym (map-append (λ (b : Heading). b.0) before (t ∷ []));
  others = λ x d. has_end after t x ∙ ap (λ (b : Bool). b || includes_name t.1 x) (same.others x d) ∙ sym (has_end before t x);
}

still_new_indexes : (name : List ℕ) (before after : List Heading) (own names : List (List ℕ)) → IsSameBut name before after → includes_name names name ≡ false → AreNewIndexes before own names → AreNewIndexes after own names
still_new_indexes name before after own [] same none new = tt
still_new_indexes name before after own (x ∷ xs) same none new =
    let apart = both_false (bytes_eq name x) (includes_name xs name) none in (
      ap (λ (b : Bool). b || includes_name own x) (same.others x (differs name x apart.0)) ∙ new.0,
      still_new_indexes name before after (own ++ x ∷ []) xs same apart.1 new.1,
    )

still_new : (name : List ℕ) (before after ts : List Heading) → IsSameBut name before after → has_name ts name ≡ false → AreNewTables before ts → AreNewTables after ts
still_new name before after [] same none new = tt
still_new name before after (t ∷ ts) same none new =
    let apart = both_false (includes_name t.1 name) (has_name ts name) none in (
      record {
        named = ap (λ (l : List (List ℕ)). includes_name l t.0) same.tables ∙ new.0.named;
        count_bounded = new.0.count_bounded;
        indexes = still_new_indexes name before after [] t.1 same apart.0 new.0.indexes;
      },
      still_new name (before ++ t ∷ []) (after ++ t ∷ []) ts (same_more name before after t same) apart.1 new.1,
    )

-- ---- the table that has it

one_more : (name : List ℕ) (before : List Heading) (own names : List (List ℕ)) → has_name before name ≡ false → includes_name own name ≡ false → includes_name names name ≡ false
    → AreNewIndexes before own names → AreNewIndexes before own (names ++ name ∷ [])
one_more name before own [] none here new old = (or_false (has_name before name) (includes_name own name) none here, tt)
one_more name before own (x ∷ xs) none here new old =
    let apart = both_false (bytes_eq name x) (includes_name xs name) new in
    let more : includes_name (own ++ x ∷ []) name ≡ false = includes_end own x name ∙ or_false (includes_name own name) (bytes_eq name x) here apart.0 in
    (old.0, one_more name before (own ++ x ∷ []) xs none more apart.1 old.1)

room_for : (n m : ℕ) → nat_lt n m ≡ true → nat_le (n + 1) m ≡ true
room_for n m h = grind (arith, nat_tests)

new_here : (name : List ℕ) (before : List Heading) (t : Heading) → has_name before name ≡ false → includes_name t.1 name ≡ false → nat_lt (length t.1) MAX_INDEXES ≡ true → IsNewTable before t → IsNewTable before (with_new t name)
unfolding with_new
new_here name before t none here few new = record {
  named = new.named;
  count_bounded = ap (λ (n : ℕ). nat_le n MAX_INDEXES) (length-append t.1 (name ∷ [])) ∙ room_for (length t.1) MAX_INDEXES few;
  indexes = one_more name before [] t.1 none refl here new.indexes;
}

-- ---- among all tables

none_has : (names : List (List ℕ)) (ts : List Content) (name : List ℕ) → list_any (λ (t : Content). has_index t name) ts ≡ false → has_name (headings names ts) name ≡ false
none_has [] ts name none = refl
none_has (n ∷ ns) [] name none = refl
none_has (n ∷ ns) (t ∷ ts) name none =
    let apart = both_false (has_index t name) (list_any (λ (u : Content). has_index u name) ts) none in
    or_false (includes_name (index_names t) name) (has_name (headings ns ts) name) (sym (any_index name t.indexes) ∙ apart.0) (none_has ns ts name apart.1)

pub added : (before : List Heading) (names : List (List ℕ)) (ts : List Content) (place : ℕ) (index : Indexed) → has_name before index.name ≡ false → list_any (λ (t : Content). has_index t index.name) ts ≡ false
    → nat_lt (length (slice_index_or ts place no_content).indexes) MAX_INDEXES ≡ true → AreNewTables before (headings names ts)
    → AreNewTables before (headings names (slice_set ts place (with_index (slice_index_or ts place no_content) index)))
unfolding with_new
added before [] ts place index before_none none few new = tt
added before (n ∷ ns) [] place index before_none none few new = tt
added before (n ∷ ns) (t ∷ ts) zero index before_none none few new =
    let apart = both_false (has_index t index.name) (list_any (λ (u : Content). has_index u index.name) ts) none in
    let h : Heading = (n, index_names t) in
    let here : includes_name (index_names t) index.name ≡ false = sym (any_index index.name t.indexes) ∙ apart.0 in
    let grown : index_names (with_index t index) ≡ index_names t ++ index.name ∷ [] = map-append (λ (i : Indexed). i.name) t.indexes (index ∷ []) in
    let count : nat_lt (length (index_names t)) MAX_INDEXES ≡ true = ap (λ (m : ℕ). nat_lt m MAX_INDEXES) (length-map t.indexes (λ (i : Indexed). i.name)) ∙ few in
    let all : AreNewTables before (with_new h index.name ∷ headings ns ts) = (
      new_here index.name before h before_none here count new.0,
      still_new index.name (before ++ h ∷ []) (before ++ with_new h index.name ∷ []) (headings ns ts) (same_here before h index.name) (none_has ns ts index.name apart.1) new.1,
    ) in
    subst (λ (l : List (List ℕ)). let g : Heading = (n, l) in AreNewTables before (g ∷ headings ns ts)) (sym grown) all
added before (n ∷ ns) (t ∷ ts) (suc place) index before_none none few new =
    let apart = both_false (has_index t index.name) (list_any (λ (u : Content). has_index u index.name) ts) none in
    let h : Heading = (n, index_names t) in
    let here : includes_name (index_names t) index.name ≡ false = sym (any_index index.name t.indexes) ∙ apart.0 in
    let still : has_name (before ++ h ∷ []) index.name ≡ false = has_end before h index.name ∙ or_false (has_name before index.name) (includes_name (index_names t) index.name) before_none here in
    (new.0, added (before ++ h ∷ []) ns ts place index still apart.1 few new.1)
