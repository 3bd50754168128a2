-- What comes of opening what was written.
use Rattle.std.proofs.Common.{◌≡◌, ℕ, suc, ◌+◌, ◌<◌, ◌≤◌, Bool, true, false, cond, List, [], ◌∷◌, ◌++◌, length, map, Option, Some, None, Result, Ok, Err, refl, sym, ap, subst, ◌∙◌, ⊎_elim, append_assoc, arith, length-append}
use Rattle.std.specs.Prelude.{not, nat_le}
use Rattle.std.specs.List.{AllByRecursion, slice_get}
use Rattle.std.proofs.lemmas.Bool.{cases_lt}
use Rattle.std.proofs.lemmas.Bool.Decides.{nat_tests}
use Rattle.std.proofs.lemmas.List.{append-nil, map-append, length-map}
use Rattle.dbf_fields.specs.Faults.{first_fault}
use Rattle.dbf_fields.specs.declared.field.Field.{Field}
use Rattle.dbf_image.specs.Table.{Table, IsTable}
use Rattle.key_expr.specs.declared.fault.ExprFault.{ExprFault}
use Rattle.key_expr.specs.Expression.{Expression}
use Rattle.key_expr.specs.Rules.{IsKeyText}
use Rattle.key_expr.proofs.Parsing.{memory_only, one_expr}
use Rattle.table_core.specs.Content.{Content, Indexed, with_index}
use Rattle.catalogue_core.specs.declared.opening.TheConstants.{MAX_STATIONS, MAX_TABLES, MAX_INDEXES}
use Rattle.catalogue_core.specs.declared.opening.OpenFault.{OpenFault}
use Rattle.catalogue_core.specs.declared.opening.OpenFault.TheVariants.{NoStation, TooManyStations, TooManyTables, DuplicateTable, TooManyIndexes, DuplicateIndex, BadExpression, IndexStale, NoMemory}
use Rattle.catalogue_core.specs.declared.source.IndexSource.{IndexSource}
use Rattle.catalogue_core.specs.declared.source.TableSource.{TableSource}
use Rattle.catalogue_core.specs.Opening.{Passing, Then, Made, Reading, IsFresh, IfFresh, IndexOpening, IndexesOpening, TableOpening, TablesOpening, Opening, next_table, next_index, is_index, has_table, table_tests, count_tests, without_indexes}
use Rattle.catalogue_core.specs.Replay.{History, names_of, state_of}
use Rattle.catalogue_core.specs.Tables.{NamedTable}
use Rattle.office_run.specs.declared.closed.ClosedTable.{ClosedTable}
use Rattle.office_run.specs.ClosedIndex.{IndexContent}
use Rattle.office_run.specs.Closing.{first_blocked}
use Rattle.office_run.specs.Writable.{has_too_many}
use Rattle.office_run.specs.HandedOver.{index_of, end_of, IsIndexFor, IsHandedOver, AreHandedOver}
use Rattle.office_run.specs.ReadBack.{IsFileFor, trimmed_expression, trimmed_index, with_trimmed, IsIndexReadBack, AreIndexesReadBack, IsTableReadBack, AreTablesReadBack, IsOpenedAsLeft, IsReopened, OpenAsLeft}
use Rattle.office_run.proofs.Headings.{Heading, index_names, source_names, heading, headings, source_heading, is_index_name, AreNewIndexes, IsNewTable, AreNewTables, is_index-names, has_table-names, passing_ok, table_opened, tables_opened}
use Rattle.office_run.proofs.IndexesKept.{replay_new}
use Rattle.office_run.proofs.HandedNames.{closed_heading, read_headings, handed_headings}
use Rattle.office_run.proofs.HandingLaws.{get_front, get_last}
use Rattle.office_run.proofs.WrittenFiles.{read_again, file_for}

-- ---- one thing after another

-- it comes to a value of which P holds, or memory is refused
abbrev ComesTo : {X : Type 0} → (X → Type 0) → Result X OpenFault → Type 0
ComesTo P (Ok x) = P x
ComesTo P (Err fault) = fault ≡ NoMemory

comes_weaker : {X : Type 0} (P Q : X → Type 0) → ((x : X) → P x → Q x) → (r : Result X OpenFault) → ComesTo P r → ComesTo Q r
comes_weaker P Q f (Ok x) h = f x h
comes_weaker P Q f (Err fault) h = h

of_tests : {X : Type 0} (P : X → Type 0) (tests : List (Bool × OpenFault)) (rest : Result X OpenFault → Type 0) (outcome : Result X OpenFault)
    → first_fault tests ≡ None → (rest outcome → ComesTo P outcome) → Passing tests rest outcome → ComesTo P outcome
of_tests P [] rest outcome passed go h = go h
of_tests P ((true, f) ∷ tests) rest outcome passed go h = of_tests P tests rest outcome passed go h
of_tests P ((false, f) ∷ tests) rest outcome passed go h = absurd cc

with_fact : {X : Type 0} (P R : X → Type 0) (r : Result X OpenFault) → ComesTo P r → ((x : X) → r ≡ Ok x → R x) → ComesTo (λ x. P x × R x) r
with_fact P R (Ok x) h f = (h, f x refl)
with_fact P R (Err fault) h f = h

passes_one : (a : Bool) (f : OpenFault) → a ≡ false → first_fault ((not a, f) ∷ []) ≡ None
passes_one true f e = absurd cc
passes_one false f e = refl

passes_two : (a b : Bool) (f g : OpenFault) → a ≡ false → b ≡ true → first_fault ((not a, f) ∷ (b, g) ∷ []) ≡ None
passes_two true b f g e i = absurd cc
passes_two false true f g e i = refl
passes_two false false f g e i = absurd cc

passes_three : (a b c : Bool) (f g i : OpenFault) → a ≡ true → b ≡ true → c ≡ true → first_fault ((a, f) ∷ (b, g) ∷ (c, i) ∷ []) ≡ None
passes_three true true true f g i x y z = refl
passes_three true true false f g i x y z = absurd cc
passes_three true false c f g i x y z = absurd cc
passes_three false b c f g i x y z = absurd cc

third_passed : (a b c : Bool) (f g i : OpenFault) → first_fault ((a, f) ∷ (b, g) ∷ (c, i) ∷ []) ≡ None → c ≡ true
third_passed true true true f g i h = refl
third_passed true true false f g i h = absurd cc
third_passed true false c f g i h = absurd cc
third_passed false b c f g i h = absurd cc

of_first : {X Y : Type 0} (Q : X → Type 0) (P : Y → Type 0) (first : Result X OpenFault → Type 0) (rest : X → Result Y OpenFault → Type 0) (outcome : Result Y OpenFault)
    → ((r : Result X OpenFault) → first r → ComesTo Q r) → ((x : X) → Q x → rest x outcome → ComesTo P outcome) → Then first rest outcome → ComesTo P outcome
of_first {X} {Y} Q P first rest outcome one more h =
    ⊎_elim
    (λ (k : (x : X) × first (Ok x) × rest x outcome). more k.0 (one (Ok k.0) k.1) k.2)
    (λ (k : (fault : OpenFault) × first (Err fault) × (outcome ≡ Err fault)). subst (ComesTo P) (sym k.2) (one (Err k.0) k.1))
    h

of_made : {X : Type 0} (P : X → Type 0) (x : X) (outcome : Result X OpenFault) → P x → Made x outcome → ComesTo P outcome
of_made P x outcome holds h =
    ⊎_elim
    (λ (e : outcome ≡ Ok x). subst (ComesTo P) (sym e) holds)
    (λ (e : outcome ≡ Err NoMemory). subst (ComesTo P) (sym e) refl)
    h

of_fresh : {X : Type 0} (P : X → Type 0) (reindex : Bool) (fresh : Type 0) (fault : OpenFault) (rest : Result X OpenFault → Type 0) (outcome : Result X OpenFault)
    → fresh → (rest outcome → ComesTo P outcome) → IfFresh reindex fresh fault rest outcome → ComesTo P outcome
of_fresh P true fresh fault rest outcome is go h = go h
of_fresh P false fresh fault rest outcome is go h =
    ⊎_elim
    (λ (k : fresh × rest outcome). go k.1)
    (λ (k : (fresh → ⊥) × (outcome ≡ Err fault)). absurd (k.0 is))
    h

-- ---- an index

pub same_expression : (a b : Expression) → a.text ≡ b.text → a.fields ≡ b.fields → a.expr ≡ b.expr → a ≡ b
same_expression a b t f e i = record { text = t i; fields = f i; expr = e i }

same_indexed : (a b : Indexed) → a.name ≡ b.name → a.expr ≡ b.expr → a ≡ b
same_indexed a b n e i = record { name = n i; expr = e i }

same_content : (a b : Content) → a.table ≡ b.table → a.indexes ≡ b.indexes → a ≡ b
same_content a b t x i = record { table = t i; indexes = x i }

of_text : (fields : List Field) (text : List ℕ) (bad : ExprFault → OpenFault) (e : Expression) (r : Result Expression OpenFault) → text ≡ e.text → e.fields ≡ fields → IsKeyText fields text e.expr
    → Reading fields text bad r → ComesTo (λ x. x ≡ e) r
of_text fields text bad e (Ok x) t f k h = same_expression x e (h.0 ∙ t) (h.1 ∙ sym f) (one_expr fields text x.expr e.expr h.2 k)
of_text fields text bad e (Err fault) t f k h =
    ⊎_elim
    (λ w. w.0)
    (λ w. absurd (w.1 (memory_only fields text e.expr w.0 k w.2)))
    h

of_index : (reindex : Bool) (earlier : List NamedTable) (content : Content) (index : Indexed) (source : IndexSource) (outcome : Result Content OpenFault)
    → IsTable content.table → IsIndexFor content.table.schema index → is_index_name (map heading earlier) (index_names content) source.name ≡ false → IsIndexReadBack (index_of content.table index) source
    → IndexOpening reindex earlier content source outcome
    → ComesTo (λ next. next ≡ with_index content (trimmed_index index)) outcome
of_index reindex earlier content index source outcome t i new back h =
    let n : ℕ = next_table earlier in
    let m : ℕ = next_index content in
    let P : Content → Type 0 = λ next. next ≡ with_index content (trimmed_index index) in
    let e : Expression = trimmed_expression index.expr in
    let file : IsFileFor content.table index source.file = file_for content.table index source.file t i back.read in
    let as_read : Expression → Indexed = λ x. record { name = source.name; expr = x } in
    let made : Expression → Result Content OpenFault → Type 0 = λ x. Made (with_index content (as_read x)) in
    let fresh : Expression → Result Content OpenFault → Type 0 = λ x. IfFresh reindex (IsFresh content.table x source.file) (IndexStale n m) (made x) in
    let first : Result Expression OpenFault → Type 0 = Reading content.table.schema source.file.expr (BadExpression n m) in
    of_tests P ((not (is_index earlier content source.name), DuplicateIndex n m) ∷ []) (Then first fresh) outcome (passes_one (is_index earlier content source.name) (DuplicateIndex n m) (is_index-names earlier content source.name ∙ new)) (λ k.
    of_first (λ (x : Expression). x ≡ e) P first fresh outcome (λ r read. of_text content.table.schema source.file.expr (BadExpression n m) e r file.text i.fields_are file.read read) (λ x is l.
    of_fresh P reindex (IsFresh content.table x source.file) (IndexStale n m) (made x) outcome (subst (λ (y : Expression). IsFresh content.table y source.file) (sym is) file.fresh) (λ o.
    of_made P (with_index content (as_read x)) outcome (ap (λ (y : Indexed). with_index content y) (same_indexed (as_read x) (trimmed_index index) back.named is)) o) l) k) h

of_indexes : (reindex : Bool) (earlier : List NamedTable) (content : Content) (indexes : List Indexed) (sources : List IndexSource) (outcome : Result Content OpenFault)
    → IsTable content.table → AllByRecursion (IsIndexFor content.table.schema) indexes → AreNewIndexes (map heading earlier) (index_names content) (source_names sources)
    → AreIndexesReadBack (map (index_of content.table) indexes) sources → IndexesOpening reindex earlier content sources outcome
    → ComesTo (λ next. (next.table ≡ content.table) × (next.indexes ≡ content.indexes ++ map trimmed_index indexes)) outcome
of_indexes reindex earlier content [] [] outcome t all new back h =
    subst (ComesTo (λ (next : Content). (next.table ≡ content.table) × (next.indexes ≡ content.indexes ++ []))) (sym h) (refl, sym (append-nil content.indexes))
of_indexes reindex earlier content [] (s ∷ ss) outcome t all new back h = absurd back
of_indexes reindex earlier content (x ∷ xs) [] outcome t all new back h = absurd back
of_indexes reindex earlier content (x ∷ xs) (s ∷ ss) outcome t all new back h =
    let P : Content → Type 0 = λ next. (next.table ≡ content.table) × (next.indexes ≡ content.indexes ++ trimmed_index x ∷ map trimmed_index xs) in
    let one : Content = with_index content (trimmed_index x) in
    let grown : index_names one ≡ index_names content ++ s.name ∷ [] =
    map-append (λ (i : Indexed). i.name) content.indexes (trimmed_index x ∷ []) ∙ ap (λ (l : List ℕ). index_names content ++ l ∷ []) (sym back.0.named) in
    let first : Result Content OpenFault → Type 0 = IndexOpening reindex earlier content s in
    let rest : Content → Result Content OpenFault → Type 0 = λ next. IndexesOpening reindex earlier next ss in
    of_first (λ (next : Content). next ≡ one) P first rest outcome (λ r k. of_index reindex earlier content x s r t all.0 new.0 back.0 k) (λ next is k.
    comes_weaker (λ (y : Content). (y.table ≡ content.table) × (y.indexes ≡ one.indexes ++ map trimmed_index xs)) P
    (λ y q. (q.0, q.1 ∙ append_assoc content.indexes (trimmed_index x ∷ []) (map trimmed_index xs))) outcome
    (of_indexes reindex earlier one xs ss outcome t all.1 (subst (λ (l : List (List ℕ)). AreNewIndexes (map heading earlier) l (source_names ss)) (sym grown) new.1) back.1 (subst (λ (y : Content). IndexesOpening reindex earlier y ss outcome) is k))) h

-- ---- a table, and tables

of_table : (h : History) (number year month day : ℕ) (reindex : Bool) (earlier : List NamedTable) (closed : ClosedTable) (source : TableSource) (outcome : Result NamedTable OpenFault)
    → IsHandedOver h number closed → has_too_many closed.content ≡ false → IsNewTable (map heading earlier) (source_heading source) → IsTableReadBack year month day closed source
    → TableOpening reindex earlier source outcome
    → ComesTo (IsOpenedAsLeft h number) outcome
of_table h number year month day reindex earlier closed source outcome own blocks_fit new back opening =
    let left : Content = end_of h number in
    let same : source.content ≡ closed.content = read_again year month day closed.content source.content own.table blocks_fit back.content in
    let made : closed.indexes.items ≡ map (index_of closed.content) left.indexes = own.indexes ∙ ap (λ (x : Table). map (index_of x) left.indexes) (sym own.content) in
    let read : AreIndexesReadBack (map (index_of closed.content) left.indexes) source.indexes.items = subst (λ (l : List IndexContent). AreIndexesReadBack l source.indexes.items) made back.indexes in
    let Q : Content → Type 0 = λ next. (next.table ≡ closed.content) × (next.indexes ≡ map trimmed_index left.indexes) in
    let first : Result Content OpenFault → Type 0 = IndexesOpening reindex earlier (without_indexes source.content) source.indexes.items in
    let named : Content → NamedTable = λ next. record { name = source.name; content = next } in
    let count : length source.indexes.items ≡ length (source_names source.indexes.items) = sym (length-map source.indexes.items (λ (i : IndexSource). i.name)) in
    let passed : first_fault (table_tests earlier source) ≡ None = passes_two (has_table earlier source.name) (nat_le (length source.indexes.items) MAX_INDEXES) (DuplicateTable (next_table earlier)) (TooManyIndexes (next_table earlier))
    (has_table-names earlier source.name ∙ new.named) (ap (λ (n : ℕ). nat_le n MAX_INDEXES) count ∙ new.count_bounded) in
    let rest : Content → Result NamedTable OpenFault → Type 0 = λ next. Made (named next) in
    of_tests (IsOpenedAsLeft h number) (table_tests earlier source) (Then first rest) outcome passed (λ k.
    of_first Q (IsOpenedAsLeft h number) first rest outcome
    (λ r l. of_indexes reindex earlier (without_indexes closed.content) left.indexes source.indexes.items r own.table own.read new.indexes read
    (subst (λ (x : Table). IndexesOpening reindex earlier (without_indexes x) source.indexes.items r) same l))
    (λ next q l. of_made (IsOpenedAsLeft h number) (named next) outcome
    (record { named = own.named ∙ ap Some (sym back.named); content = same_content next (with_trimmed left) (q.0 ∙ own.content) q.1 }) l) k) opening

-- each of the tables is opened as the history left it
abbrev EachIsOpened : History → List NamedTable → Type 0
EachIsOpened h opened = (i : ℕ) → i < length opened → (t : NamedTable) × (slice_get opened i ≡ Some t) × IsOpenedAsLeft h (i + 1) t

opened_more : (h : History) (earlier : List NamedTable) (t : NamedTable) → EachIsOpened h earlier → IsOpenedAsLeft h (length earlier + 1) t → EachIsOpened h (earlier ++ t ∷ [])
opened_more h earlier t have own i low =
    let R : Type 0 = (x : NamedTable) × (slice_get (earlier ++ t ∷ []) i ≡ Some x) × IsOpenedAsLeft h (i + 1) x in
    ⊎_elim
    (λ (below : i < length earlier). let r = have i below in let there : R = (r.0, get_front earlier (t ∷ []) i r.0 r.1, r.2) in there)
    (λ (above : length earlier ≤ i).
    let at : i ≡ length earlier = omega (arith, low, above, length-append earlier (t ∷ [])) in
    let there : R = (t, get_last earlier t i at, subst (λ (k : ℕ). IsOpenedAsLeft h (k + 1) t) (sym at) own) in
    there)
    (cases_lt i (length earlier))

-- tables are handed over as the history left them, from this number on, and have few enough blocks
abbrev HandedFrom : History → ℕ → List ClosedTable → Type 0
HandedFrom h number [] = Unit {0}
HandedFrom h number (closed ∷ tables) = IsHandedOver h number closed × (has_too_many closed.content ≡ false) × HandedFrom h (number + 1) tables

of_tables : (h : History) (year month day : ℕ) (reindex : Bool) (earlier : List NamedTable) (tables : List ClosedTable) (sources : List TableSource) (outcome : Result (List NamedTable) OpenFault)
    → EachIsOpened h earlier → HandedFrom h (length earlier + 1) tables → AreNewTables (map heading earlier) (map source_heading sources) → AreTablesReadBack year month day tables sources
    → TablesOpening reindex earlier sources outcome
    → ComesTo (λ opened. (length opened ≡ length earlier + length tables) × EachIsOpened h opened) outcome
of_tables h year month day reindex earlier [] [] outcome front left new back opening =
    of_made (λ (opened : List NamedTable). (length opened ≡ length earlier + 0) × EachIsOpened h opened) earlier outcome (omega arith, front) opening
of_tables h year month day reindex earlier [] (s ∷ ss) outcome front left new back opening = absurd back
of_tables h year month day reindex earlier (x ∷ xs) [] outcome front left new back opening = absurd back
of_tables h year month day reindex earlier (x ∷ xs) (s ∷ ss) outcome front left new back opening =
    let P : List NamedTable → Type 0 = λ opened. (length opened ≡ length earlier + length (x ∷ xs)) × EachIsOpened h opened in
    let rest : NamedTable → Result (List NamedTable) OpenFault → Type 0 = λ t. TablesOpening reindex (earlier ++ t ∷ []) ss in
    let L : NamedTable → Type 0 = IsOpenedAsLeft h (length earlier + 1) in
    let N : NamedTable → Type 0 = λ t. heading t ≡ source_heading s in
    of_first (λ (t : NamedTable). L t × N t) P (TableOpening reindex earlier s) rest outcome
    (λ r k. with_fact L N r (of_table h (length earlier + 1) year month day reindex earlier x s r left.0 left.1 new.0 back.0 k)
    (λ t e. (table_opened reindex earlier s t (subst (λ (o : Result NamedTable OpenFault). TableOpening reindex earlier s o) e k)).0))
    (λ t is k.
    let names : map heading (earlier ++ t ∷ []) ≡ map heading earlier ++ source_heading s ∷ [] =
    map-append heading earlier (t ∷ []) ∙ ap (λ (l : Heading). map heading earlier ++ l ∷ []) is.1 in
    let more : List NamedTable = earlier ++ t ∷ [] in
    let long : length more ≡ length earlier + 1 = length-append earlier (t ∷ []) in
    comes_weaker (λ (opened : List NamedTable). (length opened ≡ length more + length xs) × EachIsOpened h opened) P
    (λ opened q. (omega (arith, q.0, long), q.1)) outcome
    (of_tables h year month day reindex more xs ss outcome (opened_more h earlier t front is.0) (subst (λ (n : ℕ). HandedFrom h (n + 1) xs) (sym long) left.2)
    (subst (λ (l : List Heading). AreNewTables l (map source_heading ss)) (sym names) new.1) back.1 k)) opening

-- ---- all that a run handed over

not_blocked : (blocked : Bool) (number : ℕ) (rest : Option ℕ) → cond blocked (Some number) rest ≡ None → (blocked ≡ false) × (rest ≡ None)
not_blocked true number rest e = absurd cc
not_blocked false number rest e = (refl, e)

handed_from : (h : History) (number : ℕ) (tables : List ClosedTable) (first : ℕ)
    → ((i : ℕ) → i < length tables → (closed : ClosedTable) × (slice_get tables i ≡ Some closed) × IsHandedOver h (number + i) closed) → first_blocked first tables ≡ None → HandedFrom h number tables
handed_from h number [] first each blocks_fit = tt
handed_from h number (x ∷ xs) first each blocks_fit =
    let blocks = not_blocked (has_too_many x.content) first (first_blocked (first + 1) xs) blocks_fit in
    let head = each 0 (omega arith) in
    let same : head.0 ≡ x = cc in
    let here : number + 0 ≡ number = omega arith in
    let own : IsHandedOver h number x = subst (IsHandedOver h number) same (subst (λ (n : ℕ). IsHandedOver h n head.0) here head.2) in (
      own,
      blocks.0,
      handed_from h (number + 1) xs (first + 1) (λ i low.
          let r = each (suc i) (omega arith) in
          let there : number + suc i ≡ number + 1 + i = omega arith in
          (r.0, r.1, subst (λ (n : ℕ). IsHandedOver h n r.0) there r.2)) blocks.1,
    )

as_left : (h : History) (n : ℕ) (outcome : Result (List NamedTable) OpenFault) → n ≡ length h.opened.tables → ComesTo (λ opened. (length opened ≡ n) × EachIsOpened h opened) outcome → IsReopened h outcome
as_left h n (Ok opened) e is = record { count = is.0 ∙ e; each = λ i low. is.1 i (omega (arith, low, is.0, e)) }
as_left h n (Err fault) e is = is

-- ---- all of it

le_test : (m n : ℕ) → m ≤ n → nat_le m n ≡ true
le_test m n h = grind (arith, nat_tests)

pub opens_as_left : (given : Bool) (seats : ℕ) (read : List TableSource) (h : History) (tables : List ClosedTable) → Opening given seats read (Ok h.opened.tables) → AreHandedOver h tables → first_blocked 1 tables ≡ None
    → OpenAsLeft h tables
opens_as_left given seats read h tables start handed blocks_fit year month day sources back reindex stations outcome some most opening =
    let none : List NamedTable = [] in
    let n : ℕ = length none + length tables in
    let P : List NamedTable → Type 0 = λ opened. (length opened ≡ n) × EachIsOpened h opened in
    let left : HandedFrom h 1 tables = handed_from h 1 tables 1 (λ i low.
    let r = handed.each i (omega (arith, low, handed.count)) in
    let there : i + 1 ≡ 1 + i = omega arith in
    (r.0, r.1, subst (λ (k : ℕ). IsHandedOver h k r.0) there r.2)) blocks_fit in
    let began = passing_ok (count_tests (length read) seats) (TablesOpening given none read) h.opened.tables start in
    let first = tables_opened given none read h.opened.tables began.1 in
    let same : map source_heading sources ≡ headings (names_of h.opened) (state_of h).tables = read_headings year month day tables sources back ∙ handed_headings h tables handed in
    let opened : AreNewTables [] (map heading h.opened.tables) = subst (λ (l : List Heading). AreNewTables [] l) (sym first.0) first.1 in
    let new : AreNewTables [] (map source_heading sources) = subst (λ (l : List Heading). AreNewTables [] l) (sym same) (replay_new h opened) in
    let many : length sources ≡ length read =
    sym (length-map sources source_heading) ∙ ap length (read_headings year month day tables sources back) ∙ length-map tables closed_heading ∙ handed.count
    ∙ sym (length-map h.opened.tables heading) ∙ ap length first.0 ∙ length-map read source_heading in
    let fits : nat_le (length sources) MAX_TABLES ≡ true = ap (λ (k : ℕ). nat_le k MAX_TABLES) many ∙ third_passed (nat_le 1 seats) (nat_le seats MAX_STATIONS) (nat_le (length read) MAX_TABLES) NoStation TooManyStations TooManyTables began.0 in
    as_left h n outcome (omega (arith, handed.count))
    (of_tests P (count_tests (length sources) stations) (TablesOpening reindex none sources) outcome
    (passes_three (nat_le 1 stations) (nat_le stations MAX_STATIONS) (nat_le (length sources) MAX_TABLES) NoStation TooManyStations TooManyTables (le_test 1 stations some) (le_test stations MAX_STATIONS most) fits)
    (λ k. of_tables h year month day reindex none tables sources outcome (λ i low. absurd (omega arith)) left new back k) opening)
