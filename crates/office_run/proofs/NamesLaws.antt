-- The names of the tables that were loaded.
use Rattle.std.proofs.Common.{◌≡◌, ◌≤◌, ℕ, zero, suc, ◌+◌, Bool, true, false, cond, List, [], ◌∷◌, ◌++◌, length, map, Some, refl, sym, ap, ◌∙◌, arith, length-append}
use Rattle.std.specs.Prelude.{bytes_eq, slice_get, slice_set}
use Rattle.std.proofs.lemmas.List.{length-map, map-append}
use Rattle.catalogue_core.specs.Names.{includes_name, index_named, with_name}
use Rattle.catalogue_core.specs.declared.source.IndexSource.{IndexSource}
use Rattle.catalogue_core.specs.declared.source.TableSource.{TableSource}
use Rattle.catalogue_core.proofs.Mapped.{position_mapped}
use Rattle.office_run.specs.Loading.{first_named, AreNamesOf, HasIndex}

abbrev name_of : TableSource → List ℕ
name_of table = table.name

-- a table's place is its name's number
pub place_by_name : (names : List (List ℕ)) (tables : List TableSource) (name : List ℕ) → AreNamesOf names tables → length names ≡ length tables
    → index_named names name ≡ first_named name tables
place_by_name names tables name are e = ap (λ (ns : List (List ℕ)). index_named ns name) (are.same e) ∙ position_mapped name_of (bytes_eq name) tables

-- no tables
pub none_named : AreNamesOf [] []
none_named = record { few = omega arith; same = λ e. refl }

-- ---- one table more, and its name

few_more : (known : Bool) (names : List (List ℕ)) (name : List ℕ) (n : ℕ) → length names ≤ n → length (cond known names (names ++ name ∷ [])) ≤ n + 1
few_more true names name n h = omega arith
few_more false names name n h = omega (arith, length-append names (name ∷ []), h)

same_more : (known : Bool) (names : List (List ℕ)) (tables : List TableSource) (table : TableSource) → AreNamesOf names tables
    → length (cond known names (names ++ table.name ∷ [])) ≡ length tables + 1 → cond known names (names ++ table.name ∷ []) ≡ map name_of tables ++ table.name ∷ []
same_more true names tables table are e = let few = are.few in absurd (omega (arith, few, e))
same_more false names tables table are e =
    let many : length names ≡ length tables = omega (arith, length-append names (table.name ∷ []), e) in
    ap (λ (ns : List (List ℕ)). ns ++ table.name ∷ []) (are.same many)

pub one_more_named : (names more : List (List ℕ)) (tables after : List TableSource) (table : TableSource) → AreNamesOf names tables
    → more ≡ with_name names table.name → after ≡ tables ++ table ∷ [] → AreNamesOf more after
one_more_named names more tables after table are named added =
    let count : length after ≡ length tables + 1 = omega (arith, ap length added, length-append tables (table ∷ [])) in
    record {
      few = rw (named, count) (few_more (includes_name names table.name) names table.name (length tables) are.few);
      same = λ e.
          named ∙ same_more (includes_name names table.name) names tables table are (ap length (sym named) ∙ e ∙ count)
          ∙ sym (ap (map name_of) added ∙ map-append name_of tables (table ∷ []));
    }

-- ---- a table has got one more index

same_names : (tables : List TableSource) (i : ℕ) (table changed : TableSource) → slice_get tables i ≡ Some table → changed.name ≡ table.name
    → map name_of (slice_set tables i changed) ≡ map name_of tables
same_names [] i table changed e same = absurd cc
same_names (t ∷ ts) zero table changed e same =
    let is : t ≡ table = cc in
    ap (λ (name : List ℕ). name ∷ map name_of ts) (same ∙ ap name_of (sym is))
same_names (t ∷ ts) (suc i) table changed e same = ap (λ (names : List (List ℕ)). t.name ∷ names) (same_names ts i table changed e same)

pub still_named : (names : List (List ℕ)) (name : List ℕ) (index : IndexSource) (old new : List TableSource) → AreNamesOf names old → HasIndex name index old new → AreNamesOf names new
still_named names name index old new are has =
    let same : map name_of new ≡ map name_of old = ap (map name_of) has.others ∙ same_names old has.place has.table has.changed has.there has.one_more.named in
    let count : length new ≡ length old = sym (length-map new name_of) ∙ ap length same ∙ length-map old name_of in
    record {
      few = rw count are.few;
      same = λ e. are.same (e ∙ count) ∙ sym same;
    }
