-- The steps of loops over fields and over records.
use Rattle.std.proofs.Common.{◌≡◌, ℕ, ◌+◌, ◌<◌, ◌≤◌, Bool, List, [], ◌∷◌, ◌++◌, length, get_or, drop, take, sym, ap, ◌∙◌, append_assoc}
use Rattle.std.specs.Prelude.{filter, flat_map}
use Rattle.std.proofs.lemmas.Grind.{flat_map-append}
use Rattle.std.proofs.lemmas.List.{append-nil, drop_all, drop_more, take_more}
use Rattle.std.proofs.lemmas.List.Elements.{filter-append}
use Rattle.table_diff.specs.Changes.{Change}
use Rattle.table_diff.specs.DiffText.{change_line, change_lines}

-- the changes that are left, of the element that is looked at and of those after it
pub changes_next : {X : Type 0} (of : X → List Change) (xs : List X) (place : ℕ) (d : X) → place < length xs
    → flat_map of (drop place xs) ≡ of (get_or xs place d) ++ flat_map of (drop (place + 1) xs)
changes_next of xs place d lt = ap (flat_map of) (drop_more xs place d lt)

pub lines_next : {X : Type 0} (of : X → List Change) (xs : List X) (place : ℕ) (d : X) → place < length xs
    → change_lines (flat_map of (drop place xs)) ≡ change_lines (of (get_or xs place d)) ++ change_lines (flat_map of (drop (place + 1) xs))
lines_next of xs place d lt =
    ap change_lines (changes_next of xs place d lt) ∙ flat_map-append change_line (of (get_or xs place d)) (flat_map of (drop (place + 1) xs))

-- none are left after the last
pub nothing_left : {X : Type 0} (of : X → List Change) (xs : List X) (place : ℕ) → length xs ≤ place → flat_map of (drop place xs) ≡ []
nothing_left of xs place h = ap (flat_map of) (drop_all place xs h)

-- one more part of a text
pub one_more : (base before own after line next : List ℕ) → line ≡ base ++ before → next ≡ line ++ own → after ≡ before ++ own → next ≡ base ++ after
one_more base before own after line next first second whole =
    second ∙ ap (λ (l : List ℕ). l ++ own) first ∙ append_assoc base before own ∙ ap (λ (l : List ℕ). base ++ l) (sym whole)

-- the elements so far and the next one, where some are kept
pub kept_next : {X : Type 0} (p : X → Bool) (xs : List X) (i : ℕ) (x : X) → i < length xs → x ≡ get_or xs i x → filter p (take (i + 1) xs) ≡ filter p (take i xs) ++ filter p (x ∷ [])
kept_next {X} p xs i x lt is =
    ap (filter p) (take_more xs i x lt) ∙ filter-append p (take i xs) (get_or xs i x ∷ [])
    ∙ ap (λ (y : X). filter p (take i xs) ++ filter p (y ∷ [])) (sym is)

pub told_next : {X : Type 0} (told : X → List ℕ) (p : X → Bool) (xs : List X) (i : ℕ) (x : X) → i < length xs → x ≡ get_or xs i x
    → flat_map told (filter p (take (i + 1) xs)) ≡ flat_map told (filter p (take i xs)) ++ flat_map told (filter p (x ∷ []))
told_next told p xs i x lt is =
    ap (flat_map told) (kept_next p xs i x lt is) ∙ flat_map-append told (filter p (take i xs)) (filter p (x ∷ []))

-- the changes so far and those of the next element
pub changed_next : {X : Type 0} (of : X → List Change) (xs : List X) (i : ℕ) (d : X) → i < length xs → flat_map of (take (i + 1) xs) ≡ flat_map of (take i xs) ++ of (get_or xs i d)
changed_next of xs i d lt =
    ap (flat_map of) (take_more xs i d lt) ∙ flat_map-append of (take i xs) (get_or xs i d ∷ [])
    ∙ ap (λ (cs : List Change). flat_map of (take i xs) ++ cs) (append-nil (of (get_or xs i d)))

pub changed_lines_next : {X : Type 0} (of : X → List Change) (xs : List X) (i : ℕ) (d : X) → i < length xs
    → change_lines (flat_map of (take (i + 1) xs)) ≡ change_lines (flat_map of (take i xs)) ++ change_lines (of (get_or xs i d))
changed_lines_next of xs i d lt =
    ap change_lines (changed_next of xs i d lt) ∙ flat_map-append change_line (flat_map of (take i xs)) (of (get_or xs i d))
