-- How a catalogue is opened: the tests in their order, table by table, and what is opened where they pass.
use Rattle.std.specs.Prelude.{◌≡◌, ◌≢◌, ◌⊎◌, ℕ, ◌+◌, ◌<◌, ◌≤◌, Bool, true, false, not, ◌||◌, nat_le, List, [], ◌∷◌, ◌++◌, length, map, take, slice_index_or, Option, Some, None, Result, Ok, Err, IsPermutation}
use Rattle.std.specs.List.{list_any}
use Rattle.dbf_fields.specs.declared.field.Field.{Field}
use Rattle.dbf_fields.specs.Faults.{first_fault}
use Rattle.dbf_image.specs.Table.{Table}
use Rattle.key_expr.specs.declared.fault.ExprFault.{ExprFault}
use Rattle.key_expr.specs.declared.format.TheConstants.{MAX_EXPRESSION_BYTES}
use Rattle.key_expr.specs.declared.fault.ExprFault.TheVariants.{NoMemory as NoRoom}
use Rattle.key_expr.specs.Expression.{Expression}
use Rattle.key_expr.specs.Keys.{key_length}
use Rattle.key_expr.specs.Rules.{IsKeyText, IsFault}
use Rattle.ndx_index.specs.declared.ndx_file.NdxFile.{NdxFile}
use Rattle.table_order.specs.TableOrder.{pairs_of}
use Rattle.table_core.specs.Content.{Content, Indexed, with_index, has_index}
use Rattle.catalogue_core.specs.declared.opening.TheConstants.{MAX_STATIONS, MAX_TABLES, MAX_INDEXES}
use Rattle.catalogue_core.specs.declared.opening.OpenFault.{OpenFault}
use Rattle.catalogue_core.specs.declared.opening.OpenFault.TheVariants.{NoStation, TooManyStations, TooManyTables, DuplicateTable, TooManyIndexes, DuplicateIndex, BadExpression, IndexStale, NoMemory}
use Rattle.catalogue_core.specs.declared.source.IndexSource.{IndexSource}
use Rattle.catalogue_core.specs.declared.source.TableSource.{TableSource}
use Rattle.catalogue_core.specs.Names.{includes_name}
use Rattle.catalogue_core.specs.Tables.{NamedTable}

-- ---- one thing after another: what comes of it is a value, or the fault of the first test that fails

-- there is no fault, and then the rest
abbrev pub Unless : {X : Type 0} → Option OpenFault → (Result X OpenFault → Type 0) → Result X OpenFault → Type 0
Unless None rest outcome = rest outcome
Unless (Some fault) rest outcome = outcome ≡ Err fault

-- each test passes, and then the rest
abbrev pub Passing : {X : Type 0} → List (Bool × OpenFault) → (Result X OpenFault → Type 0) → Result X OpenFault → Type 0
Passing tests rest outcome = Unless (first_fault tests) rest outcome

-- the first part, and where it comes off the rest
abbrev pub Then : {X Y : Type 0} → (Result X OpenFault → Type 0) → (X → Result Y OpenFault → Type 0) → Result Y OpenFault → Type 0
Then {X} first rest outcome = ((x : X) × first (Ok x) × rest x outcome) ⊎ ((fault : OpenFault) × first (Err fault) × (outcome ≡ Err fault))

-- it is made, or memory is refused
abbrev pub Made : {X : Type 0} → X → Result X OpenFault → Type 0
Made x outcome = (outcome ≡ Ok x) ⊎ (outcome ≡ Err NoMemory)

-- ---- an index

-- the table's number, after the earlier ones, and the number of its next index; both count from 1
abbrev pub next_table : List NamedTable → ℕ
next_table earlier = length earlier + 1

abbrev pub next_index : Content → ℕ
next_index content = length content.indexes + 1

-- an index of an earlier table, or an earlier one of this table, has the name
abbrev pub is_index : List NamedTable → Content → List ℕ → Bool
is_index earlier content name = list_any (λ t. has_index t.content name) earlier || has_index content name

-- what the text is as a key expression for the fields, or why it is none, or memory is refused, which is never asked
-- for a text that is too long
abbrev pub Reading : List Field → List ℕ → (ExprFault → OpenFault) → Result Expression OpenFault → Type 0
Reading fields text bad (Ok e) = (e.text ≡ text) × (e.fields ≡ fields) × IsKeyText fields text e.expr
Reading fields text bad (Err fault) = ((fault ≡ NoMemory) × (length text ≤ MAX_EXPRESSION_BYTES)) ⊎ ((why : ExprFault) × (why ≢ NoRoom) × IsFault why fields text × (fault ≡ bad why))

-- An index file is of the table as it is: its keys are as long as the expression's, and its pairs are those of the table's records,
-- each as often.
pub record IsFresh (table : Table) (e : Expression) (file : NdxFile) : Type 0 where
  pub long : file.key_len ≡ key_length e.fields e.expr
  pub pairs : IsPermutation (pairs_of table e.expr) file.pairs.pairs

-- the file is of the table as it is, and then the rest; it is not asked where indexes are built anew
abbrev pub IfFresh : {X : Type 0} → Bool → Type 0 → OpenFault → (Result X OpenFault → Type 0) → Result X OpenFault → Type 0
IfFresh true fresh fault rest outcome = rest outcome
IfFresh false fresh fault rest outcome = (fresh × rest outcome) ⊎ ((fresh → ⊥) × (outcome ≡ Err fault))

abbrev pub named_index : List ℕ → Expression → Indexed
named_index name e = record { name = name; expr = e }

-- the table with the index, whose order is its file's, where that is of the table as it is, or is built anew
abbrev pub Keeping : Bool → Content → Indexed → NdxFile → OpenFault → Result Content OpenFault → Type 0
Keeping reindex content index file stale outcome = IfFresh reindex (IsFresh content.table index.expr file) stale (Made (with_index content index)) outcome

-- the same for the index of a source, whose key expression is this
abbrev pub KeepingSource : Bool → Content → IndexSource → Expression → OpenFault → Result Content OpenFault → Type 0
KeepingSource reindex content source e stale outcome = Keeping reindex content (named_index source.name e) source.file stale outcome

-- the table with the index that its file is for
abbrev pub IndexOpening : Bool → List NamedTable → Content → IndexSource → Result Content OpenFault → Type 0
IndexOpening reindex earlier content source outcome =
    Passing ((not (is_index earlier content source.name), DuplicateIndex (next_table earlier) (next_index content)) ∷ []) (
    Then (Reading content.table.schema source.file.expr (BadExpression (next_table earlier) (next_index content))) (λ e.
    KeepingSource reindex content source e (IndexStale (next_table earlier) (next_index content)))) outcome

-- what is asked of an index that is built anew: its name and the text of its key expression
abbrev pub name_and_text : IndexSource → List ℕ × List ℕ
name_and_text source = (source.name, source.file.expr)

abbrev pub IndexesOpening : Bool → List NamedTable → Content → List IndexSource → Result Content OpenFault → Type 0
IndexesOpening reindex earlier content [] outcome = outcome ≡ Ok content
IndexesOpening reindex earlier content (s ∷ ss) outcome = Then (IndexOpening reindex earlier content s) (λ next. IndexesOpening reindex earlier next ss) outcome

-- ---- a table

-- one of the tables has the name
abbrev pub has_table : List NamedTable → List ℕ → Bool
has_table tables name = includes_name (map (λ t. t.name) tables) name

abbrev pub table_tests : List NamedTable → TableSource → List (Bool × OpenFault)
table_tests earlier source =
    (not (has_table earlier source.name), DuplicateTable (next_table earlier))
    ∷ (nat_le (length source.indexes.items) MAX_INDEXES, TooManyIndexes (next_table earlier))
    ∷ []

abbrev pub without_indexes : Table → Content
without_indexes table = record { table = table; indexes = [] }

-- the table under its name, with its indexes
abbrev pub TableOpening : Bool → List NamedTable → TableSource → Result NamedTable OpenFault → Type 0
TableOpening reindex earlier source outcome =
    Passing (table_tests earlier source) (
    Then (IndexesOpening reindex earlier (without_indexes source.content) source.indexes.items) (λ content.
    Made (record { name = source.name; content = content }))) outcome

-- the later tables are the earlier ones and the next
abbrev pub IsNextOpened : Bool → TableSource → List NamedTable → List NamedTable → Type 0
IsNextOpened reindex source earlier later = (t : NamedTable) × TableOpening reindex earlier source (Ok t) × (later ≡ earlier ++ t ∷ [])

abbrev pub TablesOpening : Bool → List NamedTable → List TableSource → Result (List NamedTable) OpenFault → Type 0
TablesOpening reindex earlier [] outcome = Made earlier outcome
TablesOpening reindex earlier (s ∷ ss) outcome = Then (TableOpening reindex earlier s) (λ t. TablesOpening reindex (earlier ++ t ∷ []) ss) outcome

-- ---- the catalogue

abbrev pub count_tests : ℕ → ℕ → List (Bool × OpenFault)
count_tests tables stations =
    (nat_le 1 stations, NoStation)
    ∷ (nat_le stations MAX_STATIONS, TooManyStations)
    ∷ (nat_le tables MAX_TABLES, TooManyTables)
    ∷ []

-- What comes of opening, by the tests in their order: first the counts, then table by table, and the indexes of each; the tables
-- with their indexes if all pass, or the fault of the first that fails.
abbrev pub Opening : Bool → ℕ → List TableSource → Result (List NamedTable) OpenFault → Type 0
Opening reindex stations sources outcome = Passing (count_tests (length sources) stations) (TablesOpening reindex [] sources) outcome

-- no two of the names are one
abbrev pub NamesDiffer : List (List ℕ) → Type 0
NamesDiffer names = (i : ℕ) (name : List ℕ) → i < length names → includes_name (take i names) (slice_index_or names i name) ≡ false
