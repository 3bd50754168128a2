-- Indexes are only added: those that were there stay the first ones.
use Rattle.std.proofs.Common.{◌≡◌, ℕ, zero, suc, ◌-◌, List, [], ◌∷◌, ◌++◌, slice_set, slice_index_or, refl, sym, ap, ◌∙◌, append_assoc}
use Rattle.std.proofs.lemmas.List.{append-nil}
use Rattle.table_core.specs.Content.{Content, Indexed}
use Rattle.catalogue_core.specs.State.{no_content, table_at, AreFirst, KeepIndexes}

pub first_same : (was now : List Indexed) → now ≡ was → AreFirst was now
first_same was now e = ([], e ∙ sym (append-nil was))

first_then : (xs ys zs : List Indexed) → AreFirst xs ys → AreFirst ys zs → AreFirst xs zs
first_then xs ys zs a b = (a.0 ++ b.0, b.1 ∙ ap (λ (l : List Indexed). l ++ b.0) a.1 ∙ append_assoc xs a.0 b.0)

-- one more
pub first_added : (was : List Indexed) (index : Indexed) → AreFirst was (was ++ index ∷ [])
first_added was index = (index ∷ [], refl)

pub keep_same : (was now : List Content) → now ≡ was → KeepIndexes was now
keep_same was now e = λ number. first_same (table_at was number).indexes (table_at now number).indexes (ap (λ (l : List Content). (table_at l number).indexes) e)

pub keep_then : (ts us vs : List Content) → KeepIndexes ts us → KeepIndexes us vs → KeepIndexes ts vs
keep_then ts us vs a b = λ number. first_then (table_at ts number).indexes (table_at us number).indexes (table_at vs number).indexes (a number) (b number)

set_keeps : (ts : List Content) (place i : ℕ) (t : Content) → AreFirst (slice_index_or ts place no_content).indexes t.indexes
    → AreFirst (slice_index_or ts i no_content).indexes (slice_index_or (slice_set ts place t) i no_content).indexes
set_keeps [] place i t h = first_same [] [] refl
set_keeps (u ∷ ts) zero zero t h = h
set_keeps (u ∷ ts) zero (suc i) t h = first_same _ _ refl
set_keeps (u ∷ ts) (suc place) zero t h = first_same _ _ refl
set_keeps (u ∷ ts) (suc place) (suc i) t h = set_keeps ts place i t h

-- where another table with the same first indexes stands in the place of one
pub keep_set : (ts : List Content) (place : ℕ) (t : Content) → AreFirst (slice_index_or ts place no_content).indexes t.indexes → KeepIndexes ts (slice_set ts place t)
keep_set ts place t h = λ number. set_keeps ts place (number - 1) t h
