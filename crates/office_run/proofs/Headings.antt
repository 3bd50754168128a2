-- The names of tables and of their indexes: where a catalogue was opened each is new at its place.
use Rattle.std.proofs.Common.{◌≡◌, ℕ, Bool, true, false, ◌||◌, List, [], ◌∷◌, ◌++◌, length, map, None, Result, Ok, Err, refl, sym, ap, subst, ◌∙◌, ⊎_elim, append_assoc}
use Rattle.std.specs.Prelude.{not, bytes_eq, nat_le}
use Rattle.std.specs.List.{list_any}
use Rattle.std.proofs.lemmas.List.{append-nil, map-append, length-map}
use Rattle.dbf_fields.specs.Faults.{first_fault}
use Rattle.key_expr.specs.Expression.{Expression}
use Rattle.table_core.specs.Content.{Content, Indexed, with_index, has_index}
use Rattle.catalogue_core.specs.declared.opening.TheConstants.{MAX_INDEXES}
use Rattle.catalogue_core.specs.declared.opening.OpenFault.{OpenFault}
use Rattle.catalogue_core.specs.declared.opening.OpenFault.TheVariants.{DuplicateTable, TooManyIndexes, DuplicateIndex, BadExpression, IndexStale, NoMemory}
use Rattle.catalogue_core.specs.declared.source.IndexSource.{IndexSource}
use Rattle.catalogue_core.specs.declared.source.TableSource.{TableSource}
use Rattle.catalogue_core.specs.Names.{includes_name}
use Rattle.catalogue_core.specs.Opening.{Passing, Then, Made, Reading, IsFresh, IfFresh, IndexOpening, IndexesOpening, TableOpening, TablesOpening, next_table, next_index, is_index, has_table, table_tests, without_indexes}
use Rattle.catalogue_core.specs.Tables.{NamedTable}

-- ---- names

-- the name of a table, and those of its indexes
abbrev pub Heading : Type 0
Heading = List ℕ × List (List ℕ)

abbrev pub index_names : Content → List (List ℕ)
index_names content = map (λ (i : Indexed). i.name) content.indexes

abbrev pub source_names : List IndexSource → List (List ℕ)
source_names sources = map (λ (s : IndexSource). s.name) sources

abbrev pub heading : NamedTable → Heading
heading t = (t.name, index_names t.content)

abbrev pub source_heading : TableSource → Heading
source_heading s = (s.name, source_names s.indexes.items)

-- those of tables under their names
abbrev pub headings : List (List ℕ) → List Content → List Heading
headings [] ts = []
headings (name ∷ names) [] = []
headings (name ∷ names) (t ∷ ts) = (name, index_names t) ∷ headings names ts

-- an index of one of the tables, or one of these, has the name
abbrev pub is_index_name : List Heading → List (List ℕ) → List ℕ → Bool
is_index_name before own name = list_any (λ (t : Heading). includes_name t.1 name) before || includes_name own name

-- each is new after the earlier ones
abbrev pub AreNewIndexes : List Heading → List (List ℕ) → List (List ℕ) → Type 0
AreNewIndexes before own [] = Unit {0}
AreNewIndexes before own (name ∷ names) = (is_index_name before own name ≡ false) × AreNewIndexes before (own ++ name ∷ []) names

pub record IsNewTable (before : List Heading) (t : Heading) : Type 0 where
  pub named : includes_name (map (λ (b : Heading). b.0) before) t.0 ≡ false
  pub count_bounded : nat_le (length t.1) MAX_INDEXES ≡ true
  pub indexes : AreNewIndexes before [] t.1

abbrev pub AreNewTables : List Heading → List Heading → Type 0
AreNewTables before [] = Unit {0}
AreNewTables before (t ∷ ts) = IsNewTable before t × AreNewTables (before ++ t ∷ []) ts

-- ---- tests by names

pub any_index : (name : List ℕ) (xs : List Indexed) → list_any (λ (i : Indexed). bytes_eq name i.name) xs ≡ includes_name (map (λ (i : Indexed). i.name) xs) name
any_index name [] = refl
any_index name (x ∷ xs) = ap (λ (b : Bool). bytes_eq name x.name || b) (any_index name xs)

any_table : (name : List ℕ) (ts : List NamedTable) → list_any (λ (t : NamedTable). has_index t.content name) ts ≡ list_any (λ (t : Heading). includes_name t.1 name) (map heading ts)
any_table name [] = refl
any_table name (t ∷ ts) =
    ap (λ (b : Bool). b || list_any (λ (u : NamedTable). has_index u.content name) ts) (any_index name t.content.indexes)
    ∙ ap (λ (b : Bool). includes_name (index_names t.content) name || b) (any_table name ts)

pub is_index-names : (earlier : List NamedTable) (content : Content) (name : List ℕ) → is_index earlier content name ≡ is_index_name (map heading earlier) (index_names content) name
is_index-names earlier content name =
    ap (λ (b : Bool). b || has_index content name) (any_table name earlier)
    ∙ ap (λ (b : Bool). list_any (λ (t : Heading). includes_name t.1 name) (map heading earlier) || b) (any_index name content.indexes)

first_names : (ts : List NamedTable) → map (λ (b : Heading). b.0) (map heading ts) ≡ map (λ (t : NamedTable). t.name) ts
first_names [] = refl
first_names (t ∷ ts) = ap (λ (l : List (List ℕ)). t.name ∷ l) (first_names ts)

pub has_table-names : (earlier : List NamedTable) (name : List ℕ) → has_table earlier name ≡ includes_name (map (λ (b : Heading). b.0) (map heading earlier)) name
has_table-names earlier name = ap (λ (l : List (List ℕ)). includes_name l name) (sym (first_names earlier))

-- ---- what came off

pub passing_ok : {X : Type 0} (tests : List (Bool × OpenFault)) (rest : Result X OpenFault → Type 0) (x : X) → Passing tests rest (Ok x) → (first_fault tests ≡ None) × rest (Ok x)
passing_ok [] rest x h = (refl, h)
passing_ok ((true, f) ∷ tests) rest x h = passing_ok tests rest x h
passing_ok ((false, f) ∷ tests) rest x h = absurd cc

pub then_ok : {X Y : Type 0} (first : Result X OpenFault → Type 0) (rest : X → Result Y OpenFault → Type 0) (y : Y) → Then first rest (Ok y) → (x : X) × first (Ok x) × rest x (Ok y)
then_ok {X} {Y} first rest y h =
    ⊎_elim
    (λ (k : (x : X) × first (Ok x) × rest x (Ok y)). k)
    (λ (k : (fault : OpenFault) × first (Err fault) × (Ok y ≡ Err fault)). let e = k.2 in absurd cc)
    h

pub made_ok : {X : Type 0} (x y : X) → Made x (Ok y) → y ≡ x
made_ok {X} x y h =
    ⊎_elim
    (λ (e : Ok y ≡ Ok x). let same : y ≡ x = cc in same)
    (λ (e : Ok y ≡ Err NoMemory). absurd cc)
    h

pub fresh_ok : {X : Type 0} (reindex : Bool) (fresh : Type 0) (fault : OpenFault) (rest : Result X OpenFault → Type 0) (x : X) → IfFresh reindex fresh fault rest (Ok x) → rest (Ok x)
fresh_ok true fresh fault rest x h = h
fresh_ok false fresh fault rest x h =
    ⊎_elim
    (λ (k : fresh × rest (Ok x)). k.1)
    (λ (k : (fresh → ⊥) × (Ok x ≡ Err fault)). let e = k.1 in absurd cc)
    h

one_test : (b : Bool) (fault : OpenFault) → first_fault ((not b, fault) ∷ []) ≡ None → b ≡ false
one_test true fault h = absurd cc
one_test false fault h = refl

two_tests : (a b : Bool) (f g : OpenFault) → first_fault ((not a, f) ∷ (b, g) ∷ []) ≡ None → (a ≡ false) × (b ≡ true)
two_tests true b f g h = absurd cc
two_tests false true f g h = (refl, refl)
two_tests false false f g h = absurd cc

-- an index that was opened has its source's name, which was new
index_opened : (reindex : Bool) (earlier : List NamedTable) (content : Content) (source : IndexSource) (next : Content) → IndexOpening reindex earlier content source (Ok next)
    → (index_names next ≡ index_names content ++ source.name ∷ []) × (is_index_name (map heading earlier) (index_names content) source.name ≡ false)
index_opened reindex earlier content source next h =
    let n : ℕ = next_table earlier in
    let m : ℕ = next_index content in
    let as_read : Expression → Indexed = λ x. record { name = source.name; expr = x } in
    let made : Expression → Result Content OpenFault → Type 0 = λ x. Made (with_index content (as_read x)) in
    let fresh : Expression → Result Content OpenFault → Type 0 = λ x. IfFresh reindex (IsFresh content.table x source.file) (IndexStale n m) (made x) in
    let first : Result Expression OpenFault → Type 0 = Reading content.table.schema source.file.expr (BadExpression n m) in
    let tested = passing_ok ((not (is_index earlier content source.name), DuplicateIndex n m) ∷ []) (Then first fresh) next h in
    let read = then_ok first fresh next tested.1 in
    let e : Expression = read.0 in
    let same : next ≡ with_index content (as_read e) = made_ok (with_index content (as_read e)) next (fresh_ok reindex (IsFresh content.table e source.file) (IndexStale n m) (made e) next read.2) in (
      ap index_names same ∙ map-append (λ (i : Indexed). i.name) content.indexes (as_read e ∷ []),
      sym (is_index-names earlier content source.name) ∙ one_test (is_index earlier content source.name) (DuplicateIndex n m) tested.0,
    )

indexes_opened : (reindex : Bool) (earlier : List NamedTable) (content : Content) (sources : List IndexSource) (next : Content) → IndexesOpening reindex earlier content sources (Ok next)
    → (index_names next ≡ index_names content ++ source_names sources) × AreNewIndexes (map heading earlier) (index_names content) (source_names sources)
indexes_opened reindex earlier content [] next h = let same : next ≡ content = cc in (ap index_names same ∙ sym (append-nil (index_names content)), tt)
indexes_opened reindex earlier content (s ∷ ss) next h =
    let rest : Content → Result Content OpenFault → Type 0 = λ one. IndexesOpening reindex earlier one ss in
    let k = then_ok (IndexOpening reindex earlier content s) rest next h in
    let one = index_opened reindex earlier content s k.0 k.1 in
    let others = indexes_opened reindex earlier k.0 ss next k.2 in (
      others.0 ∙ ap (λ (l : List (List ℕ)). l ++ source_names ss) one.0 ∙ append_assoc (index_names content) (s.name ∷ []) (source_names ss),
      (one.1, subst (λ (l : List (List ℕ)). AreNewIndexes (map heading earlier) l (source_names ss)) one.0 others.1),
    )

pub table_opened : (reindex : Bool) (earlier : List NamedTable) (source : TableSource) (t : NamedTable) → TableOpening reindex earlier source (Ok t)
    → (heading t ≡ source_heading source) × IsNewTable (map heading earlier) (source_heading source)
table_opened reindex earlier source t h =
    let first : Result Content OpenFault → Type 0 = IndexesOpening reindex earlier (without_indexes source.content) source.indexes.items in
    let named : Content → NamedTable = λ next. record { name = source.name; content = next } in
    let rest : Content → Result NamedTable OpenFault → Type 0 = λ next. Made (named next) in
    let tested = passing_ok (table_tests earlier source) (Then first rest) t h in
    let k = then_ok first rest t tested.1 in
    let same : t ≡ named k.0 = made_ok (named k.0) t k.2 in
    let names = indexes_opened reindex earlier (without_indexes source.content) source.indexes.items k.0 k.1 in
    let both = two_tests (has_table earlier source.name) (nat_le (length source.indexes.items) MAX_INDEXES) (DuplicateTable (next_table earlier)) (TooManyIndexes (next_table earlier)) tested.0 in
    let long : length (source_names source.indexes.items) ≡ length source.indexes.items = length-map source.indexes.items (λ (s : IndexSource). s.name) in (
      ap heading same ∙ ap (λ (l : List (List ℕ)). let r : Heading = (source.name, l) in r) names.0,
      record {
        named = sym (has_table-names earlier source.name) ∙ both.0;
        count_bounded = ap (λ (n : ℕ). nat_le n MAX_INDEXES) long ∙ both.1;
        indexes = names.1;
      },
    )

pub tables_opened : (reindex : Bool) (earlier : List NamedTable) (sources : List TableSource) (opened : List NamedTable) → TablesOpening reindex earlier sources (Ok opened)
    → (map heading opened ≡ map heading earlier ++ map source_heading sources) × AreNewTables (map heading earlier) (map source_heading sources)
tables_opened reindex earlier [] opened h = (ap (λ (l : List NamedTable). map heading l) (made_ok earlier opened h) ∙ sym (append-nil (map heading earlier)), tt)
tables_opened reindex earlier (s ∷ ss) opened h =
    let rest : NamedTable → Result (List NamedTable) OpenFault → Type 0 = λ t. TablesOpening reindex (earlier ++ t ∷ []) ss in
    let k = then_ok (TableOpening reindex earlier s) rest opened h in
    let one = table_opened reindex earlier s k.0 k.1 in
    let others = tables_opened reindex (earlier ++ k.0 ∷ []) ss opened k.2 in
    let more : map heading (earlier ++ k.0 ∷ []) ≡ map heading earlier ++ source_heading s ∷ [] =
    map-append heading earlier (k.0 ∷ []) ∙ ap (λ (t : Heading). map heading earlier ++ t ∷ []) one.0 in (
      others.0 ∙ ap (λ (l : List Heading). l ++ map source_heading ss) more ∙ append_assoc (map heading earlier) (source_heading s ∷ []) (map source_heading ss),
      (one.1, subst (λ (l : List Heading). AreNewTables l (map source_heading ss)) more others.1),
    )
