-- The names of what is read from written files are those of the tables and indexes at the end.
use Rattle.std.proofs.Common.{◌≡◌, ℕ, suc, ◌+◌, ◌-◌, ◌<◌, List, [], ◌∷◌, length, map, Option, Some, refl, sym, ap, subst, ◌∙◌, arith, get_or}
use Rattle.std.specs.List.{slice_get}
use Rattle.std.proofs.lemmas.List.{length-map}
use Rattle.dbf_image.specs.Table.{Table}
use Rattle.table_core.specs.Content.{Content, Indexed}
use Rattle.catalogue_core.specs.declared.source.IndexSource.{IndexSource}
use Rattle.catalogue_core.specs.declared.source.TableSource.{TableSource}
use Rattle.catalogue_core.specs.Replay.{History, names_of, state_of}
use Rattle.catalogue_core.specs.State.{no_content}
use Rattle.catalogue_core.specs.Tables.{NamedTable}
use Rattle.office_run.specs.declared.closed.ClosedTable.{ClosedTable}
use Rattle.office_run.specs.ClosedIndex.{IndexContent}
use Rattle.office_run.specs.HandedOver.{index_of, end_of, IsHandedOver, AreHandedOver}
use Rattle.office_run.specs.ReadBack.{AreIndexesReadBack, AreTablesReadBack}
use Rattle.office_run.proofs.Headings.{Heading, index_names, source_names, headings, source_heading}
use Rattle.office_run.proofs.IndexesKept.{replay_count}

abbrev pub closed_heading : ClosedTable → Heading
closed_heading closed = (closed.name, map (λ (i : IndexContent). i.name) closed.indexes.items)

read_names : (indexes : List IndexContent) (sources : List IndexSource) → AreIndexesReadBack indexes sources → source_names sources ≡ map (λ (i : IndexContent). i.name) indexes
read_names [] [] back = refl
read_names [] (s ∷ ss) back = absurd back
read_names (x ∷ xs) [] back = absurd back
read_names (x ∷ xs) (s ∷ ss) back = let rest = read_names xs ss back.1 in let first = back.0.named in cc

pair_of : (a b : List ℕ) (x y : List (List ℕ)) → a ≡ b → x ≡ y → let p : Heading = (a, x) in let q : Heading = (b, y) in p ≡ q
pair_of a b x y e f = cc

pub read_headings : (year month day : ℕ) (tables : List ClosedTable) (sources : List TableSource) → AreTablesReadBack year month day tables sources → map source_heading sources ≡ map closed_heading tables
read_headings year month day [] [] back = refl
read_headings year month day [] (s ∷ ss) back = absurd back
read_headings year month day (x ∷ xs) [] back = absurd back
read_headings year month day (x ∷ xs) (s ∷ ss) back =
    let first : source_heading s ≡ closed_heading x = pair_of s.name x.name (source_names s.indexes.items) (map (λ (i : IndexContent). i.name) x.indexes.items) back.0.named (read_names x.indexes.items s.indexes.items back.0.indexes) in
    let rest = read_headings year month day xs ss back.1 in
    cc

same_names : (table : Table) (indexes : List Indexed) → map (λ (i : IndexContent). i.name) (map (index_of table) indexes) ≡ map (λ (i : Indexed). i.name) indexes
same_names table [] = refl
same_names table (x ∷ xs) = ap (λ (l : List (List ℕ)). x.name ∷ l) (same_names table xs)

closed_at : (closed : ClosedTable) (name : List ℕ) (names : List (List ℕ)) → closed.name ≡ name → map (λ (i : IndexContent). i.name) closed.indexes.items ≡ names → closed_heading closed ≡ (let h : Heading = (name, names) in h)
closed_at closed name names e f = pair_of closed.name name (map (λ (i : IndexContent). i.name) closed.indexes.items) names e f

-- a table that is handed over has this name, and its indexes are these
IsHandedAs : Option (List ℕ) → Content → ClosedTable → Type 0
IsHandedAs name content closed = (name ≡ Some closed.name) × (map (λ (i : IndexContent). i.name) closed.indexes.items ≡ index_names content)

handed_as : (h : History) (i : ℕ) (closed : ClosedTable) → IsHandedOver h (i + 1) closed → IsHandedAs (slice_get (names_of h.opened) i) (get_or (state_of h).tables i no_content) closed
unfolding IsHandedAs
handed_as h i closed own =
    let back : i + 1 - 1 ≡ i = omega arith in
    let named : slice_get (names_of h.opened) i ≡ Some closed.name = subst (λ (k : ℕ). slice_get (names_of h.opened) k ≡ Some closed.name) back own.named in
    let content : Content = end_of h (i + 1) in
    let indexes : map (λ (i : IndexContent). i.name) closed.indexes.items ≡ index_names content =
    ap (λ (l : List IndexContent). map (λ (i : IndexContent). i.name) l) own.indexes ∙ same_names content.table content.indexes in
    (named, subst (λ (k : ℕ). map (λ (i : IndexContent). i.name) closed.indexes.items ≡ index_names (get_or (state_of h).tables k no_content)) back indexes)

each_heading : (tables : List ClosedTable) (names : List (List ℕ)) (contents : List Content) → length tables ≡ length names → length contents ≡ length names
    → ((i : ℕ) → i < length names → (closed : ClosedTable) × (slice_get tables i ≡ Some closed) × IsHandedAs (slice_get names i) (get_or contents i no_content) closed) → map closed_heading tables ≡ headings names contents
unfolding IsHandedAs
each_heading [] [] contents long many each = refl
each_heading [] (n ∷ ns) contents long many each = absurd (omega arith)
each_heading (x ∷ xs) [] contents long many each = absurd (omega arith)
each_heading (x ∷ xs) (n ∷ ns) [] long many each = absurd (omega arith)
each_heading (x ∷ xs) (n ∷ ns) (t ∷ ts) long many each =
    let first = each 0 (omega arith) in
    let same : first.0 ≡ x = cc in
    let named : first.0.name ≡ n = cc in
    let head : closed_heading x ≡ (let h : Heading = (n, index_names t) in h) = ap closed_heading (sym same) ∙ closed_at first.0 n (index_names t) named first.2.1 in
    let rest = each_heading xs ns ts (omega arith) (omega arith) (λ i low. each (suc i) (omega arith)) in
    cc

pub handed_headings : (h : History) (tables : List ClosedTable) → AreHandedOver h tables → map closed_heading tables ≡ headings (names_of h.opened) (state_of h).tables
handed_headings h tables handed =
    let named : length (names_of h.opened) ≡ length h.opened.tables = length-map h.opened.tables (λ (t : NamedTable). t.name) in
    each_heading tables (names_of h.opened) (state_of h).tables (handed.count ∙ sym named) (replay_count h ∙ sym named) (λ i low.
    let r = handed.each i (omega (arith, low, named)) in
    (r.0, r.1, handed_as h i r.0 r.2))
