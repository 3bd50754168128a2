-- The tables of a catalogue that can be opened have different names, so each gets the number that it has in order.
use Rattle.std.proofs.Common.{◌≡◌, ℕ, zero, suc, ◌+◌, ◌<◌, length-append, Bool, true, false, not, cond, List, [], ◌∷◌, ◌++◌, length, map, take, replicate, get_or, Ok, Err, refl, sym, ap, subst, inl, inr, ◌∙◌, arith}
use Rattle.std.specs.Prelude.{Result, Option, Some, None, nat_le, ◌≤◌}
use Rattle.std.proofs.lemmas.Bool.Decides.{nat_tests}
use Rattle.catalogue_core.specs.declared.opening.TheConstants.{MAX_INDEXES}
use Rattle.catalogue_core.specs.declared.opening.OpenFault.TheVariants.{DuplicateTable, TooManyIndexes, NoMemory}
use Rattle.std.proofs.lemmas.List.{take_more, take_all, take-append-le, length-map}
use Rattle.std.proofs.lemmas.Bool.{cases_lt}
use Rattle.dbf_fields.specs.Faults.{first_fault}
use Rattle.catalogue_core.specs.declared.opening.OpenFault.{OpenFault}
use Rattle.catalogue_core.specs.declared.opening.OpenedTable.{OpenedTable}
use Rattle.catalogue_core.specs.declared.source.TableSource.{TableSource}
use Rattle.catalogue_core.specs.Names.{includes_name, with_name}
use Rattle.catalogue_core.specs.Opening.{Unless, Passing, NamesDiffer, table_tests, TablesOpening}
use Rattle.lock_table.specs.Locks.{HeldLocks, held}
use Rattle.table_core.specs.Content.{Content}
use Rattle.catalogue_core.specs.declared.area.Station.{Station}
use Rattle.catalogue_core.specs.Replay.{opened_as, start}
use Rattle.catalogue_core.specs.Tables.{NamedTable, named_table}
use Rattle.catalogue_core.specs.State.{State, new_station}

-- ---- what comes of tests

-- all pass, and the rest comes of it
pub passing : {X : Type 0} (tests : List (Bool × OpenFault)) (rest : Result X OpenFault → Type 0) (outcome : Result X OpenFault) → first_fault tests ≡ None → rest outcome → Passing tests rest outcome
passing tests rest outcome e h = subst (λ (o : Option OpenFault). Unless o rest outcome) (sym e) h

-- one fails, and its fault comes of it
pub failing : {X : Type 0} (tests : List (Bool × OpenFault)) (rest : Result X OpenFault → Type 0) (fault : OpenFault) → first_fault tests ≡ Some fault → Passing tests rest (Err fault)
failing tests rest fault e = subst (λ (o : Option OpenFault). Unless o rest (Err fault)) (sym e) refl

-- memory may be refused after all tables were made
pub may_refuse : (reindex : Bool) (earlier : List NamedTable) (sources : List TableSource) (tables : List NamedTable) → TablesOpening reindex earlier sources (Ok tables) → TablesOpening reindex earlier sources (Err NoMemory)
may_refuse reindex earlier [] tables h = inr refl
may_refuse reindex earlier (s ∷ ss) tables h = elim h [
  | inl a ↦ inl (a.0, a.1, may_refuse reindex (earlier ++ a.0 ∷ []) ss tables a.2)
  | inr b ↦ absurd (let never = b.2 in cc)
]

first_fails : (a b : Bool) (f g : OpenFault) → a ≡ true → first_fault ((not a, f) ∷ (b, g) ∷ []) ≡ Some f
first_fails true b f g e = refl
first_fails false b f g e = cc

second_fails : (a b : Bool) (f g : OpenFault) → a ≡ false → b ≡ false → first_fault ((not a, f) ∷ (b, g) ∷ []) ≡ Some g
second_fails false false f g e h = refl
second_fails false true f g e h = cc
second_fails true b f g e h = cc

both_pass : (a b : Bool) (f g : OpenFault) → a ≡ false → b ≡ true → first_fault ((not a, f) ∷ (b, g) ∷ []) ≡ None
both_pass false true f g e h = refl
both_pass false false f g e h = cc
both_pass true b f g e h = cc

-- ---- names

added : (names : List (List ℕ)) (name : List ℕ) (b : Bool) → b ≡ false → includes_name names name ≡ b → with_name names name ≡ names ++ name ∷ []
added names name b e f = ap (λ (x : Bool). cond x names (names ++ name ∷ [])) (f ∙ e)

-- one name more
pub names_more : (names : List (List ℕ)) (i : ℕ) (name : List ℕ) → NamesDiffer names → i < length names → get_or names i name ≡ name → with_name (take i names) name ≡ take (i + 1) names
names_more names i name differ h is =
    added (take i names) name false refl (ap (includes_name (take i names)) (sym is) ∙ differ i name h)
    ∙ sym (take_more names i name h ∙ ap (λ (n : List ℕ). take i names ++ n ∷ []) is)

get_before : (names : List (List ℕ)) (name d : List ℕ) (i : ℕ) → i < length names → get_or (names ++ name ∷ []) i d ≡ get_or names i d
get_before [] name d i h = absurd (omega arith)
get_before (n ∷ ns) name d zero h = refl
get_before (n ∷ ns) name d (suc i) h = get_before ns name d i (omega arith)

get_last : (names : List (List ℕ)) (name d : List ℕ) (i : ℕ) → i ≡ length names → get_or (names ++ name ∷ []) i d ≡ name
get_last [] name d i e = rw e refl
get_last (n ∷ ns) name d zero e = absurd (omega arith)
get_last (n ∷ ns) name d (suc i) e = get_last ns name d i (omega arith)

-- a name that none of the others is
pub differ_more : (names : List (List ℕ)) (name : List ℕ) → NamesDiffer names → includes_name names name ≡ false → NamesDiffer (names ++ name ∷ [])
differ_more names name differ new = λ i d h. elim (cases_lt i (length names)) [
  | inl lt ↦
      ap (λ (ns : List (List ℕ)). includes_name ns (get_or (names ++ name ∷ []) i d)) (take-append-le i names (name ∷ []) (omega arith))
      ∙ ap (includes_name (take i names)) (get_before names name d i lt) ∙ differ i d lt
  | inr le ↦
      let long : length (names ++ name ∷ []) ≡ length names + 1 = length-append names (name ∷ []) in
      let at : i ≡ length names = omega (arith, long, h, le) in
      ap (λ (ns : List (List ℕ)). includes_name ns (get_or (names ++ name ∷ []) i d)) (take-append-le i names (name ∷ []) (omega arith) ∙ take_all i names (omega arith))
      ∙ ap (includes_name names) (get_last names name d i at) ∙ new
]

named_names : (tables : List OpenedTable) → map (λ (t : NamedTable). t.name) (map named_table tables) ≡ map (λ (t : OpenedTable). t.name) tables
named_names [] = refl
named_names (t ∷ ts) = ap (λ (names : List (List ℕ)). t.name ∷ names) (named_names ts)

named_contents : (tables : List OpenedTable) → map (λ (t : NamedTable). t.content) (map named_table tables) ≡ map (λ (t : OpenedTable). t.table.content) tables
named_contents [] = refl
named_contents (t ∷ ts) = ap (λ (contents : List Content). t.table.content ∷ contents) (named_contents ts)

-- one of the tables has the name, by their names
pub name_there : (tables : List OpenedTable) (name : List ℕ) → includes_name (map (λ (t : NamedTable). t.name) (map named_table tables)) name ≡ includes_name (map (λ (t : OpenedTable). t.name) tables) name
name_there tables name = ap (λ (names : List (List ℕ)). includes_name names name) (named_names tables)

-- what the parts of the state are at opening, it is
pub opened_start : (names : List (List ℕ)) (tables : List Content) (locks : HeldLocks) (stations : List Station) (n : ℕ) (opened : List OpenedTable)
    → names ≡ map (λ (t : OpenedTable). t.name) opened → tables ≡ map (λ (t : OpenedTable). t.table.content) opened → locks ≡ held n (length opened) [] → stations ≡ replicate n new_station
    → ◌≡◌ {A = State} (record { names = names; tables = tables; locks = locks; stations = stations }) (start (opened_as n (map named_table opened)))
opened_start names tables locks stations n opened e f g h =
    let all = map named_table opened in
    let counted : held n (length opened) [] ≡ held n (length all) [] = ap (λ (k : ℕ). held n k []) (sym (length-map opened named_table)) in
    ap (λ (x : List (List ℕ)). record { names = x; tables = tables; locks = locks; stations = stations }) (e ∙ sym (named_names opened))
    ∙ ap (λ (x : List Content). record { names = map (λ (t : NamedTable). t.name) all; tables = x; locks = locks; stations = stations }) (f ∙ sym (named_contents opened))
    ∙ ap (λ (x : HeldLocks). record { names = map (λ (t : NamedTable). t.name) all; tables = map (λ (t : NamedTable). t.content) all; locks = x; stations = stations }) (g ∙ counted)
    ∙ ap (λ (x : List Station). record { names = map (λ (t : NamedTable). t.name) all; tables = map (λ (t : NamedTable). t.content) all; locks = held n (length all) []; stations = x }) h

-- ---- the tests of a table

module _ (opened : List OpenedTable) (source : TableSource) where
  numbered : length (map named_table opened) + 1 ≡ length opened + 1
  numbered = ap (λ (n : ℕ). n + 1) (length-map opened named_table)

  pub table_taken : includes_name (map (λ (t : OpenedTable). t.name) opened) source.name ≡ true → first_fault (table_tests (map named_table opened) source) ≡ Some (DuplicateTable (length opened + 1))
  table_taken taken = first_fails _ _ _ _ (name_there opened source.name ∙ taken) ∙ ap (λ (n : ℕ). Some (DuplicateTable n)) numbered

  pub table_crowded : includes_name (map (λ (t : OpenedTable). t.name) opened) source.name ≡ false → MAX_INDEXES < length source.indexes.items
      → first_fault (table_tests (map named_table opened) source) ≡ Some (TooManyIndexes (length opened + 1))
  table_crowded new many =
      let crowded : nat_le (length source.indexes.items) MAX_INDEXES ≡ false = grind (arith, nat_tests) in
      second_fails _ _ _ _ (name_there opened source.name ∙ new) crowded ∙ ap (λ (n : ℕ). Some (TooManyIndexes n)) numbered

  pub table_fits : includes_name (map (λ (t : OpenedTable). t.name) opened) source.name ≡ false → length source.indexes.items ≤ MAX_INDEXES → first_fault (table_tests (map named_table opened) source) ≡ None
  table_fits new count_bounded =
      let fits : nat_le (length source.indexes.items) MAX_INDEXES ≡ true = grind (arith, nat_tests) in
      both_pass _ _ _ _ (name_there opened source.name ∙ new) fits
