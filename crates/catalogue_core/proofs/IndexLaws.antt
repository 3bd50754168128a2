-- What comes of the next index of a table, by what comes of its parts.
use Rattle.std.proofs.Common.{◌≡◌, ℕ, Bool, true, false, not, List, [], ◌∷◌, Ok, Err, refl, ap, sym, subst, inl, inr, ◌∙◌}
use Rattle.std.specs.Prelude.{Result, Some, None}
use Rattle.dbf_fields.specs.Faults.{first_fault}
use Rattle.key_expr.specs.Expression.{Expression}
use Rattle.table_core.specs.Content.{Content, with_index}
use Rattle.catalogue_core.specs.declared.opening.OpenFault.{OpenFault}
use Rattle.catalogue_core.specs.declared.opening.OpenFault.TheVariants.{DuplicateIndex, BadExpression, IndexStale}
use Rattle.catalogue_core.specs.declared.source.IndexSource.{IndexSource}
use Rattle.catalogue_core.specs.Opening.{is_index, next_table, next_index, Reading, IsFresh, IfFresh, Made, Then, IndexOpening}
use Rattle.catalogue_core.specs.Tables.{NamedTable}
use Rattle.catalogue_core.proofs.OpeningLaws.{passing, failing}

-- the test of an index's name, and what comes behind it
abbrev index_tests : List NamedTable → Content → IndexSource → List (Bool × OpenFault)
index_tests earlier content source = (not (is_index earlier content source.name), DuplicateIndex (next_table earlier) (next_index content)) ∷ []

abbrev index_rest : Bool → List NamedTable → Content → IndexSource → Result Content OpenFault → Type 0
index_rest reindex earlier content source =
    Then (Reading content.table.schema source.file.expr (BadExpression (next_table earlier) (next_index content))) (λ e.
    IfFresh reindex (IsFresh content.table e source.file) (IndexStale (next_table earlier) (next_index content)) (
    Made (with_index content (record { name = source.name; expr = e }))))

one_passes : (b : Bool) (fault : OpenFault) → b ≡ false → first_fault ((not b, fault) ∷ []) ≡ None
one_passes false fault e = refl
one_passes true fault e = cc

one_fails : (b : Bool) (fault : OpenFault) → b ≡ true → first_fault ((not b, fault) ∷ []) ≡ Some fault
one_fails true fault e = refl
one_fails false fault e = cc

module _ (reindex : Bool) (earlier : List NamedTable) (content : Content) (source : IndexSource) (t i : ℕ) (table : t ≡ next_table earlier) (index : i ≡ next_index content) where
  pub index_taken : is_index earlier content source.name ≡ true → IndexOpening reindex earlier content source (Err (DuplicateIndex t i))
  index_taken taken =
      subst (λ (fault : OpenFault). IndexOpening reindex earlier content source (Err fault))
      (ap (λ n. DuplicateIndex n (next_index content)) (sym table) ∙ ap (DuplicateIndex t) (sym index))
      (failing (index_tests earlier content source) (index_rest reindex earlier content source) (DuplicateIndex (next_table earlier) (next_index content)) (one_fails (is_index earlier content source.name) (DuplicateIndex (next_table earlier) (next_index content)) taken))

  pub index_unread : is_index earlier content source.name ≡ false → (fault : OpenFault) → Reading content.table.schema source.file.expr (BadExpression t i) (Err fault) → IndexOpening reindex earlier content source (Err fault)
  index_unread new fault read =
      passing (index_tests earlier content source) (index_rest reindex earlier content source) (Err fault) (one_passes (is_index earlier content source.name) (DuplicateIndex (next_table earlier) (next_index content)) new)
      (inr (
        fault,
        subst (λ n. Reading content.table.schema source.file.expr (BadExpression (next_table earlier) n) (Err fault)) index
            (subst (λ n. Reading content.table.schema source.file.expr (BadExpression n i) (Err fault)) table read),
        refl,
      ))

  pub index_read : is_index earlier content source.name ≡ false → (e : Expression) → Reading content.table.schema source.file.expr (BadExpression t i) (Ok e) → (o : Result Content OpenFault)
      → IfFresh reindex (IsFresh content.table e source.file) (IndexStale t i) (Made (with_index content (record { name = source.name; expr = e }))) o → IndexOpening reindex earlier content source o
  index_read new e read o made =
      passing (index_tests earlier content source) (index_rest reindex earlier content source) o (one_passes (is_index earlier content source.name) (DuplicateIndex (next_table earlier) (next_index content)) new)
      (inl (
        e,
        read,
        subst (λ n. IfFresh reindex (IsFresh content.table e source.file) (IndexStale (next_table earlier) n) (Made (with_index content (record { name = source.name; expr = e }))) o) index
            (subst (λ n. IfFresh reindex (IsFresh content.table e source.file) (IndexStale n i) (Made (with_index content (record { name = source.name; expr = e }))) o) table made),
      ))
