-- A table that is copied out, and one more of them.
use Rattle.std.proofs.Common.{◌≡◌, ℕ, ◌+◌, ◌-◌, ◌≤◌, ◌<◌, List, [], ◌∷◌, ◌++◌, length, map, Some, sym, ap, subst, ◌∙◌, ⊎_elim, arith}
use Rattle.std.specs.List.{slice_get, AllByRecursion}
use Rattle.std.proofs.lemmas.Bool.{cases_lt}
use Rattle.dbf_image.specs.Table.{Table, IsTable}
use Rattle.table_core.specs.Content.{Content}
use Rattle.catalogue_core.specs.Replay.{History, names_of}
use Rattle.office_run.specs.declared.closed.ClosedTable.{ClosedTable}
use Rattle.office_run.specs.HandedOver.{end_of, index_of, IsIndexFor, IsHandedOver}
use Rattle.office_run.proofs.HandingLaws.{get_front, get_last}

-- what is made of a table at the history's end is handed over as it is there
pub handed_as_it_is : (h : History) (number : ℕ) (x : Content) (closed : ClosedTable) → slice_get (names_of h.opened) (number - 1) ≡ Some closed.name → x ≡ end_of h number
    → closed.content ≡ x.table → closed.indexes.items ≡ map (index_of x.table) x.indexes → IsTable x.table → AllByRecursion (IsIndexFor x.table.schema) x.indexes → IsHandedOver h number closed
handed_as_it_is h number x closed named at content indexes table read = record {
  named = named;
  content = content ∙ ap (λ (y : Content). y.table) at;
  indexes = indexes ∙ ap (λ (y : Content). map (index_of y.table) y.indexes) at;
  table = subst IsTable (sym content) table;
  read = subst (λ (y : Content). AllByRecursion (IsIndexFor closed.content.schema) y.indexes) at
      (subst (λ (t : Table). AllByRecursion (IsIndexFor t.schema) x.indexes) (sym content) read);
}

-- the table of this number, where it is handed over
abbrev pub HasHanded : History → List ClosedTable → ℕ → Type 0
HasHanded h tables j = (closed : ClosedTable) × (slice_get tables j ≡ Some closed) × IsHandedOver h (j + 1) closed

-- one more table is handed over
pub one_more_handed : (h : History) (old new : List ClosedTable) (closed : ClosedTable) (i : ℕ) → new ≡ old ++ closed ∷ [] → length old ≡ i
    → ((j : ℕ) → j < i → HasHanded h old j) → IsHandedOver h (i + 1) closed → (j : ℕ) → j < i + 1 → HasHanded h new j
one_more_handed h old new closed i grown count have own j low =
    subst (λ (l : List ClosedTable). HasHanded h l j) (sym grown)
    (⊎_elim
    (λ (below : j < i). let r = have j below in let there : HasHanded h (old ++ closed ∷ []) j = (r.0, get_front old (closed ∷ []) j r.0 r.1, r.2) in there)
    (λ (above : i ≤ j).
    let at : i ≡ j = omega (arith, low, above) in
    let last : j ≡ length old = omega (arith, at, count) in
    let there : HasHanded h (old ++ closed ∷ []) j = (closed, get_last old closed j last, subst (λ (k : ℕ). IsHandedOver h (k + 1) closed) at own) in
    there)
    (cases_lt j i))
