-- Keys in order, each once, and what is told of each.
use Rattle.std.proofs.Common.{◌≡◌, ℕ, List, [], ◌∷◌, ◌++◌, refl, sym, ap, ◌∙◌, subst, inl, inr}
use Rattle.std.specs.Prelude.{◌⊎◌, flat_map}
use Rattle.std.specs.List.{AllByRecursion}
use Rattle.std.specs.Ordering.{nat_cmp, ordering_reverse}
use Rattle.std.specs.declared.cmp.Ordering.TheVariants.{Less, Equal, Greater}
use Rattle.std.specs.Cmp.Lexicographic.{slice_cmp}
use Rattle.std.proofs.lemmas.Cmp.{nat_list_cmp_total, tied_itself}
use Rattle.std.proofs.lemmas.Map.Lookups.{exact_bytes}
use Rattle.ndx_index.specs.declared.pair.Pair.{Pair}
use Rattle.ndx_index.specs.Laws.Lists.{all_weaker}
use Rattle.table_diff.specs.Matching.{with_key, keys_once}

-- one key stands before another
abbrev pub Below : List ℕ → List ℕ → Type 0
Below a b = slice_cmp nat_cmp a b ≡ Less

-- each key stands before all later ones
abbrev pub AreRising : List (List ℕ) → Type 0
AreRising [] = Unit {0}
AreRising (k ∷ ks) = AllByRecursion (Below k) ks × AreRising ks

-- the key is among these
abbrev pub IsAmong : List ℕ → List (List ℕ) → Type 0
IsAmong key [] = ⊥
IsAmong key (k ∷ ks) = (k ≡ key) ⊎ IsAmong key ks

pub below_trans : (a b c : List ℕ) → Below a b → Below b c → Below a c
below_trans a b c h k = nat_list_cmp_total.trans a b c h k

pub turned : (a b : List ℕ) → slice_cmp nat_cmp a b ≡ Greater → Below b a
turned a b h = nat_list_cmp_total.antisymm b a ∙ ap ordering_reverse h

pub turned_back : (a b : List ℕ) → Below a b → slice_cmp nat_cmp b a ≡ Greater
turned_back a b h = nat_list_cmp_total.antisymm b a ∙ ap ordering_reverse h

pub not_below_itself : (k : List ℕ) → Below k k → ⊥
not_below_itself k h = let tie = tied_itself nat_list_cmp_total k in cc

-- ---- a key is put among others

all_with_key : (x key : List ℕ) (ks : List (List ℕ)) → Below x key → AllByRecursion (Below x) ks → AllByRecursion (Below x) (with_key key ks)
all_with_key x key [] h all = (h, tt)
all_with_key x key (k ∷ ks) h all =
    elim (slice_cmp nat_cmp key k) as (λ o. AllByRecursion (Below x) (elim o [ Less ↦ key ∷ k ∷ ks | Equal ↦ k ∷ ks | Greater ↦ k ∷ with_key key ks ])) [
      | Less ↦ (h, all)
      | Equal ↦ all
      | Greater ↦ (all.0, all_with_key x key ks h all.1)
    ]

rising_with_key : (key : List ℕ) (ks : List (List ℕ)) → AreRising ks → AreRising (with_key key ks)
rising_with_key key [] h = (tt, tt)
rising_with_key key (k ∷ ks) h =
    elim (slice_cmp nat_cmp key k) as (λ o. slice_cmp nat_cmp key k ≡ o → AreRising (elim o [ Less ↦ key ∷ k ∷ ks | Equal ↦ k ∷ ks | Greater ↦ k ∷ with_key key ks ])) [
      | Less ↦ λ e. ((e, all_weaker (Below k) (Below key) (λ x b. below_trans key k x e b) ks h.0), h)
      | Equal ↦ λ e. h
      | Greater ↦ λ e. (all_with_key k key ks (turned key k e) h.0, rising_with_key key ks h.1)
    ] refl

among_itself : (key : List ℕ) (ks : List (List ℕ)) → IsAmong key (with_key key ks)
among_itself key [] = inl refl
among_itself key (k ∷ ks) =
    elim (slice_cmp nat_cmp key k) as (λ o. slice_cmp nat_cmp key k ≡ o → IsAmong key (elim o [ Less ↦ key ∷ k ∷ ks | Equal ↦ k ∷ ks | Greater ↦ k ∷ with_key key ks ])) [
      | Less ↦ λ e. inl refl
      | Equal ↦ λ e. inl (sym (exact_bytes key k e))
      | Greater ↦ λ e. inr (among_itself key ks)
    ] refl

among_kept : (x key : List ℕ) (ks : List (List ℕ)) → IsAmong x ks → IsAmong x (with_key key ks)
among_kept x key [] h = absurd h
among_kept x key (k ∷ ks) h =
    elim (slice_cmp nat_cmp key k) as (λ o. IsAmong x (elim o [ Less ↦ key ∷ k ∷ ks | Equal ↦ k ∷ ks | Greater ↦ k ∷ with_key key ks ])) [
      | Less ↦ inr h
      | Equal ↦ h
      | Greater ↦ elim h [ inl e ↦ inl e | inr later ↦ inr (among_kept x key ks later) ]
    ]

pub keys_rising : (ps : List Pair) → AreRising (keys_once ps)
keys_rising [] = tt
keys_rising (p ∷ ps) = rising_with_key p.key (keys_once ps) (keys_rising ps)

-- the keys of these pairs are among those
abbrev pub AreAmong : List (List ℕ) → List Pair → Type 0
AreAmong ks ps = AllByRecursion (λ p. IsAmong p.key ks) ps

pub keys_among : (ps : List Pair) → AreAmong (keys_once ps) ps
keys_among [] = tt
keys_among (p ∷ ps) = (
  among_itself p.key (keys_once ps),
  all_weaker (λ (q : Pair). IsAmong q.key (keys_once ps)) (λ (q : Pair). IsAmong q.key (keys_once (p ∷ ps))) (λ q h. among_kept q.key p.key (keys_once ps) h) ps (keys_among ps),
)

-- ---- what is told of each key

all_at : (P : List ℕ → Type 0) (key : List ℕ) (ks : List (List ℕ)) → IsAmong key ks → AllByRecursion P ks → P key
all_at P key [] h all = absurd h
all_at P key (k ∷ ks) h all = elim h [ inl e ↦ subst P e all.0 | inr later ↦ all_at P key ks later all.1 ]

same_later : {A : Type 0} (F G : List ℕ → List A) (key : List ℕ) (ks : List (List ℕ)) → AllByRecursion (Below key) ks
    → ((k : List ℕ) → (k ≡ key → ⊥) → F k ≡ G k) → flat_map F ks ≡ flat_map G ks
same_later {A} F G key [] all others = refl
same_later {A} F G key (k ∷ ks) all others =
    let here = others k (λ e. not_below_itself key (subst (λ (x : List ℕ). Below key x) e all.0)) in
    ap (λ (xs : List A). xs ++ flat_map F ks) here ∙ ap (λ (xs : List A). G k ++ xs) (same_later F G key ks all.1 others)

-- of the least key of which something is told one more is told first, and of the others the same
pub first_of_key : {A : Type 0} (F G : List ℕ → List A) (a : A) (key : List ℕ) (ks : List (List ℕ)) → AreRising ks → IsAmong key ks
    → F key ≡ a ∷ G key → ((k : List ℕ) → Below k key → F k ≡ []) → ((k : List ℕ) → (k ≡ key → ⊥) → F k ≡ G k) → flat_map F ks ≡ a ∷ flat_map G ks
first_of_key {A} F G a key [] rising there here before others = absurd there
first_of_key {A} F G a key (k ∷ ks) rising there here before others = elim there [
  | inl e ↦
      let first : F k ≡ a ∷ G k = subst (λ (x : List ℕ). F x ≡ a ∷ G x) (sym e) here in
      let rest = same_later F G key ks (subst (λ (x : List ℕ). AllByRecursion (Below x) ks) e rising.0) others in
      ap (λ (xs : List A). xs ++ flat_map F ks) first ∙ ap (λ (xs : List A). a ∷ (G k ++ xs)) rest
  | inr later ↦
      let low : Below k key = all_at (Below k) key ks later rising.0 in
      let none : F k ≡ [] = before k low in
      let none_too : G k ≡ [] = sym (others k (λ e. not_below_itself key (subst (λ (x : List ℕ). Below x key) e low))) ∙ none in
      ap (λ (xs : List A). xs ++ flat_map F ks) none ∙ first_of_key F G a key ks rising.1 later here before others
      ∙ ap (λ (xs : List A). a ∷ (xs ++ flat_map G ks)) (sym none_too)
]
