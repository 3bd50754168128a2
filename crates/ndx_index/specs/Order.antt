-- Pairs of a key and a record number, and lists of them in order.
use Rattle.std.specs.Prelude.{ℕ, Bool, not, nat_eq, List, [], ◌∷◌, if◌then◌else◌, filter, find, Option, Some, None, reverse}
use Rattle.std.specs.Ordering.{nat_cmp, ordering_then, is_lt, is_eq}
use Rattle.std.specs.declared.cmp.Ordering.{Ordering}
use Rattle.std.specs.Cmp.Lexicographic.{slice_cmp}
use Rattle.std.specs.List.{starts_with}
use Rattle.std.specs.List.Sorted.{IsStrictlySortedBy}
use Rattle.ndx_index.specs.declared.pair.Pair.{Pair}

-- how two pairs stand: by their keys' bytes, and then by the record numbers
abbrev pub pair_cmp : Pair → Pair → Ordering
pair_cmp a b = ordering_then (slice_cmp nat_cmp a.key b.key) (nat_cmp a.number b.number)

-- a stands before b
abbrev pub before : Pair → Pair → Bool
before a b = is_lt (pair_cmp a b)

abbrev pub same : Pair → Pair → Bool
same a b = is_eq (pair_cmp a b)

-- a pair put among pairs in order
abbrev pub with_pair : Pair → List Pair → List Pair
with_pair p [] = p ∷ []
with_pair p (q ∷ qs) = if before q p then q ∷ with_pair p qs else p ∷ q ∷ qs

-- the pairs in order
abbrev pub in_order : List Pair → List Pair
in_order [] = []
in_order (p ∷ ps) = with_pair p (in_order ps)

-- the pairs but for p
abbrev pub without_pair : Pair → List Pair → List Pair
without_pair p ps = filter (λ q. not (same p q)) ps

-- each pair stands before all later ones, so no pair comes twice
abbrev pub AreInOrder : List Pair → Type 0
AreInOrder ps = IsStrictlySortedBy pair_cmp ps

-- the key isn't below the prefix
abbrev pub reaches : List ℕ → Pair → Bool
reaches prefix p = not (is_lt (slice_cmp nat_cmp p.key prefix))

-- the least pair whose key isn't below the prefix
abbrev pub first_from : List ℕ → List Pair → Option Pair
first_from prefix ps = find (reaches prefix) ps

-- the key begins with the text
abbrev pub begins_with : List ℕ → Pair → Bool
begins_with text p = starts_with nat_eq p.key text

-- the pair that there is, where its key begins with the text
abbrev pub if_begins_with : List ℕ → Option Pair → Option Pair
if_begins_with text None = None
if_begins_with text (Some p) = if begins_with text p then Some p else None

-- the first pair whose key begins with the text
abbrev pub first_with : List ℕ → List Pair → Option Pair
first_with text ps = find (begins_with text) ps

-- the least pair above p
abbrev pub next_of : Pair → List Pair → Option Pair
next_of p ps = find (before p) ps

-- the greatest pair below p
abbrev pub previous_of : Pair → List Pair → Option Pair
previous_of p ps = find (λ q. before q p) (reverse ps)
