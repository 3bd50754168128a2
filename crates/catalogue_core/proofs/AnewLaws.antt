-- Where indexes are built anew, nothing is asked of their files but the names and the texts of the key expressions.
use Rattle.std.proofs.Common.{◌≡◌, ℕ, not, List, [], ◌∷◌, map, Bool, true, false, Ok, Err, refl, subst, inl, inr}
use Rattle.std.specs.Prelude.{Result}
use Rattle.catalogue_core.specs.declared.opening.OpenFault.{OpenFault}
use Rattle.catalogue_core.specs.declared.opening.OpenFault.TheVariants.{BadExpression, DuplicateIndex}
use Rattle.catalogue_core.specs.declared.source.IndexSource.{IndexSource}
use Rattle.catalogue_core.specs.Opening.{is_index, name_and_text, named_index, next_index, next_table, IndexesOpening, Made, Passing, Reading, Then}
use Rattle.catalogue_core.specs.Tables.{NamedTable}
use Rattle.table_core.specs.Content.{with_index, Content}

-- the table with an index that is built anew, by its name and its text
abbrev MadeAnew : List NamedTable → Content → List ℕ × List ℕ → Result Content OpenFault → Type 0
MadeAnew earlier content told outcome =
    Passing ((not (is_index earlier content told.0), DuplicateIndex (next_table earlier) (next_index content)) ∷ []) (
    Then (Reading content.table.schema told.1 (BadExpression (next_table earlier) (next_index content))) (λ e.
    Made (with_index content (named_index told.0 e)))) outcome

pub built_anew : (earlier : List NamedTable) (content : Content) (xs ys : List IndexSource) (outcome : Result Content OpenFault) → map name_and_text xs ≡ map name_and_text ys
    → IndexesOpening true earlier content xs outcome → IndexesOpening true earlier content ys outcome
built_anew earlier content [] [] outcome e opening = opening
built_anew earlier content [] (y ∷ ys) outcome e opening = absurd cc
built_anew earlier content (x ∷ xs) [] outcome e opening = absurd cc
built_anew earlier content (x ∷ xs) (y ∷ ys) outcome e opening =
    let first : name_and_text x ≡ name_and_text y = cc in
    let rest : map name_and_text xs ≡ map name_and_text ys = cc in
    elim opening [
      | inl a ↦ inl (a.0, subst (λ (told : List ℕ × List ℕ). MadeAnew earlier content told (Ok a.0)) first a.1, built_anew earlier a.0 xs ys outcome rest a.2)
      | inr b ↦ inr (b.0, subst (λ (told : List ℕ × List ℕ). MadeAnew earlier content told (Err b.0)) first b.1, b.2)
    ]

-- what is opened of indexes is opened of those in whose place they stand: where they are built anew these have the same names and
-- texts, and else they are the same
pub opened_for : (reindex : Bool) (earlier : List NamedTable) (content : Content) (xs ys : List IndexSource) (outcome : Result Content OpenFault)
    → (reindex ≡ true → map name_and_text xs ≡ map name_and_text ys) → (reindex ≡ false → xs ≡ ys)
    → IndexesOpening reindex earlier content xs outcome → IndexesOpening reindex earlier content ys outcome
opened_for true earlier content xs ys outcome anew kept opening = built_anew earlier content xs ys outcome (anew refl) opening
opened_for false earlier content xs ys outcome anew kept opening = subst (λ (l : List IndexSource). IndexesOpening false earlier content l outcome) (kept refl) opening
