-- The names of a run's files: no two of them are the same.
use Rattle.std.proofs.Common.{◌≡◌, ◌≢◌, inl, inr, ℕ, ◌+◌, ◌^◌, ◌<◌, ◌≤◌, Bool, true, false, ◌||◌, List, [], ◌∷◌, ◌++◌, length, map, drop, Option, None, Ok, refl, sym, ap, subst, ◌∙◌, append_assoc, arith, length-append}
use Rattle.std.specs.Prelude.{bytes_eq, codes, nat_le}
use Rattle.std.specs.Cmp.{IsEquivalence}
use Rattle.std.specs.Fmt.{decimal}
use Rattle.std.specs.List.{list_any, flat_map, IsDistinct}
use Rattle.std.specs.Str.Parse.{digits_value}
use Rattle.std.proofs.lemmas.Bool.{cases_Bool, both_ways}
use Rattle.std.proofs.lemmas.Bool.Decides.{nat_tests}
use Rattle.std.proofs.lemmas.Fmt.{decimal_is_IsNumeral}
use Rattle.std.proofs.lemmas.Grind.{flat_map-append}
use Rattle.std.proofs.lemmas.List.{append-nil, append_cancel_left, append_cancel_right, drop_at, map-append}
use Rattle.std.proofs.lemmas.List.Folds.{list_any-append}
use Rattle.std.proofs.lemmas.Map.Keys.{IsDistinct-push}
use Rattle.std.proofs.lemmas.Slice.Eq.{bytes_eq-Decides}
use Rattle.dbf_fields.specs.declared.day.Day.{Day}
use Rattle.dbf_fields.specs.Faults.{first_fault}
use Rattle.dbf_image.specs.Table.{has_memos}
use Rattle.catalogue_core.specs.declared.opening.TheConstants.{MAX_STATIONS, MAX_TABLES}
use Rattle.catalogue_core.specs.declared.opening.OpenFault.{OpenFault}
use Rattle.catalogue_core.specs.declared.opening.OpenFault.TheVariants.{NoStation, TooManyStations, TooManyTables}
use Rattle.catalogue_core.specs.declared.source.TableSource.{TableSource}
use Rattle.catalogue_core.specs.Names.{includes_name}
use Rattle.catalogue_core.specs.Opening.{Opening, TablesOpening, count_tests}
use Rattle.catalogue_core.specs.Replay.{History}
use Rattle.office_run.specs.declared.closed.ClosedTable.{ClosedTable}
use Rattle.folders.specs.declared.named.NamedFile.{NamedFile}
use Rattle.office_run.specs.ClosedIndex.{IndexContent}
use Rattle.office_run.specs.Closing.{answer_files, answer_name, index_file, memo_files, run_files, table_files, tables_files}
use Rattle.folders.specs.Placed.{names_of}
use Rattle.office_run.specs.HandedOver.{AreHandedOver}
use Rattle.office_run.specs.JournalFile.{and_journal, journal_file, journal_name}
use Rattle.office_run.specs.WholeRun.{IsWholeRun}
use Rattle.office_run.proofs.Headings.{Heading, heading, is_index_name, AreNewIndexes, AreNewTables, passing_ok, tables_opened}
use Rattle.office_run.proofs.HandedNames.{closed_heading, handed_headings}
use Rattle.office_run.proofs.IndexesKept.{replay_new}
use Rattle.office_run.proofs.NewNames.{both_false, or_false, differs, includes_end}

-- ---- names that differ

apart_by : (a b : List ℕ) → a ≢ b → bytes_eq a b ≡ false
apart_by a b other = elim (cases_Bool (bytes_eq a b)) [
  | inl same ↦ absurd (other ((bytes_eq-Decides a b).0 same))
  | inr apart ↦ apart
]

apart_from : (a b : List ℕ) → bytes_eq a b ≡ false → a ≢ b
apart_from a b apart same = both_ways (bytes_eq a b) apart ((bytes_eq-Decides a b).1 same)

flips : (a b : List ℕ) → bytes_eq a b ≡ bytes_eq b a
flips a b = elim (cases_Bool (bytes_eq a b)) [
  | inl same ↦ same ∙ sym ((bytes_eq-Decides b a).1 (sym ((bytes_eq-Decides a b).0 same)))
  | inr apart ↦ apart ∙ sym (differs a b apart)
]

same_bytes : IsEquivalence bytes_eq
same_bytes = record {
  refl = λ a. (bytes_eq-Decides a a).1 refl;
  symm = flips;
  congr = λ a b c same. ap (λ (x : List ℕ). bytes_eq x c) ((bytes_eq-Decides a b).0 same);
}

-- endings of one length that differ
other_ending : (s t e f : List ℕ) → length e ≡ length f → bytes_eq e f ≡ false → bytes_eq (s ++ e) (t ++ f) ≡ false
other_ending s t e f long apart = apart_by (s ++ e) (t ++ f) (λ same.
    let stems : length t ≡ length s = omega (arith, length-append s e, length-append t f, ap length same, long) in
    apart_from e f apart (sym (drop_at s e (length s) refl) ∙ ap (drop (length s)) same ∙ drop_at t f (length s) stems))

-- one ending of names that differ
same_ending : (s t e : List ℕ) → bytes_eq s t ≡ false → bytes_eq (s ++ e) (t ++ e) ≡ false
same_ending s t e apart = apart_by (s ++ e) (t ++ e) (λ same. apart_from s t apart (append_cancel_right s t e same))

-- ---- names by their endings

-- of the names that end so, none begins with another than these
abbrev BeginWith : List (List ℕ) → List ℕ → List (List ℕ) → Type 0
BeginWith names ending stems = (s : List ℕ) → includes_name stems s ≡ false → includes_name names (s ++ ending) ≡ false

one_like : (names stems : List (List ℕ)) (ending t : List ℕ) → BeginWith names ending stems → BeginWith (names ++ (t ++ ending) ∷ []) ending (stems ++ t ∷ [])
one_like names stems ending t old s none =
    let parts = both_false (includes_name stems s) (bytes_eq s t) (sym (includes_end stems t s) ∙ none) in
    includes_end names (t ++ ending) (s ++ ending) ∙ or_false (includes_name names (s ++ ending)) (bytes_eq (s ++ ending) (t ++ ending)) (old s parts.0) (same_ending s t ending parts.1)

one_other : (names stems : List (List ℕ)) (ending other t : List ℕ) → length ending ≡ length other → bytes_eq ending other ≡ false → BeginWith names ending stems → BeginWith (names ++ (t ++ other) ∷ []) ending stems
one_other names stems ending other t long apart old s none =
    includes_end names (t ++ other) (s ++ ending) ∙ or_false (includes_name names (s ++ ending)) (bytes_eq (s ++ ending) (t ++ other)) (old s none) (other_ending s t ending other long apart)

one_more : (names stems : List (List ℕ)) (ending t : List ℕ) → BeginWith names ending stems → BeginWith names ending (stems ++ t ∷ [])
one_more names stems ending t old s none = old s (both_false (includes_name stems s) (bytes_eq s t) (sym (includes_end stems t s) ∙ none)).0

abbrev dbf : List ℕ
dbf = codes ".DBF"

abbrev dbt : List ℕ
dbt = codes ".DBT"

abbrev ndx : List ℕ
ndx = codes ".NDX"

abbrev txt : List ℕ
txt = codes ".TXT"

-- The names differ, and those of each ending begin with these.
record AreNames (tables memos indexes texts names : List (List ℕ)) : Type 0 where
  apart : IsDistinct bytes_eq names
  dbfs : BeginWith names dbf tables
  dbts : BeginWith names dbt memos
  ndxs : BeginWith names ndx indexes
  txts : BeginWith names txt texts

push : (names : List (List ℕ)) (name : List ℕ) → IsDistinct bytes_eq names → includes_name names name ≡ false → IsDistinct bytes_eq (names ++ name ∷ [])
push names name apart new = IsDistinct-push same_bytes names name apart new

one_table : (d m i x names : List (List ℕ)) (t : List ℕ) → AreNames d m i x names → includes_name d t ≡ false → AreNames (d ++ t ∷ []) m i x (names ++ (t ++ dbf) ∷ [])
one_table d m i x names t n new = record {
  apart = push names (t ++ dbf) n.apart (n.dbfs t new);
  dbfs = one_like names d dbf t n.dbfs;
  dbts = one_other names m dbt dbf t refl refl n.dbts;
  ndxs = one_other names i ndx dbf t refl refl n.ndxs;
  txts = one_other names x txt dbf t refl refl n.txts;
}

one_memo : (d m i x names : List (List ℕ)) (t : List ℕ) → AreNames d m i x names → includes_name m t ≡ false → AreNames d (m ++ t ∷ []) i x (names ++ (t ++ dbt) ∷ [])
one_memo d m i x names t n new = record {
  apart = push names (t ++ dbt) n.apart (n.dbts t new);
  dbfs = one_other names d dbf dbt t refl refl n.dbfs;
  dbts = one_like names m dbt t n.dbts;
  ndxs = one_other names i ndx dbt t refl refl n.ndxs;
  txts = one_other names x txt dbt t refl refl n.txts;
}

no_memo : (d m i x names : List (List ℕ)) (t : List ℕ) → AreNames d m i x names → AreNames d (m ++ t ∷ []) i x names
no_memo d m i x names t n = record { apart = n.apart; dbfs = n.dbfs; dbts = one_more names m dbt t n.dbts; ndxs = n.ndxs; txts = n.txts }

one_index : (d m i x names : List (List ℕ)) (t : List ℕ) → AreNames d m i x names → includes_name i t ≡ false → AreNames d m (i ++ t ∷ []) x (names ++ (t ++ ndx) ∷ [])
one_index d m i x names t n new = record {
  apart = push names (t ++ ndx) n.apart (n.ndxs t new);
  dbfs = one_other names d dbf ndx t refl refl n.dbfs;
  dbts = one_other names m dbt ndx t refl refl n.dbts;
  ndxs = one_like names i ndx t n.ndxs;
  txts = one_other names x txt ndx t refl refl n.txts;
}

one_text : (d m i x names : List (List ℕ)) (t : List ℕ) → AreNames d m i x names → includes_name x t ≡ false → AreNames d m i (x ++ t ∷ []) (names ++ (t ++ txt) ∷ [])
one_text d m i x names t n new = record {
  apart = push names (t ++ txt) n.apart (n.txts t new);
  dbfs = one_other names d dbf txt t refl refl n.dbfs;
  dbts = one_other names m dbt txt t refl refl n.dbts;
  ndxs = one_other names i ndx txt t refl refl n.ndxs;
  txts = one_like names x txt t n.txts;
}

none_yet : AreNames [] [] [] [] []
unfolding IsDistinct
none_yet = record {
  apart = tt;
  dbfs = λ s none. refl;
  dbts = λ s none. refl;
  ndxs = λ s none. refl;
  txts = λ s none. refl;
}

-- ---- tables

-- the names of the tables, and those of all their indexes
abbrev table_stems : List Heading → List (List ℕ)
table_stems ts = map (λ (t : Heading). t.0) ts

abbrev index_stems : List Heading → List (List ℕ)
index_stems ts = flat_map (λ (t : Heading). t.1) ts

any_stem : (ts : List Heading) (name : List ℕ) → includes_name (index_stems ts) name ≡ list_any (λ (t : Heading). includes_name t.1 name) ts
any_stem [] name = refl
any_stem (t ∷ ts) name = list_any-append (bytes_eq name) t.1 (index_stems ts) ∙ ap (λ (b : Bool). includes_name t.1 name || b) (any_stem ts name)

is_stem : (ts : List Heading) (own : List (List ℕ)) (name : List ℕ) → includes_name (index_stems ts ++ own) name ≡ is_index_name ts own name
is_stem ts own name = list_any-append (bytes_eq name) (index_stems ts) own ∙ ap (λ (b : Bool). b || includes_name own name) (any_stem ts name)

abbrev index_names : List IndexContent → List (List ℕ)
index_names indexes = map (λ (i : IndexContent). i.name) indexes

index_files_apart : (d m x : List (List ℕ)) (before : List Heading) (own names : List (List ℕ)) (indexes : List IndexContent) → AreNames d m (index_stems before ++ own) x names → AreNewIndexes before own (index_names indexes)
    → AreNames d m (index_stems before ++ (own ++ index_names indexes)) x (names ++ names_of (map index_file indexes))
index_files_apart d m x before own names [] n new =
    subst (λ (l : List (List ℕ)). AreNames d m (index_stems before ++ l) x (names ++ [])) (sym (append-nil own)) (subst (λ (l : List (List ℕ)). AreNames d m (index_stems before ++ own) x l) (sym (append-nil names)) n)
index_files_apart d m x before own names (i ∷ is) n new =
    let stems : List (List ℕ) = index_stems before in
    let name : List ℕ = i.name ++ ndx in
    let one = one_index d m (stems ++ own) x names i.name n (is_stem before own i.name ∙ new.0) in
    let more = index_files_apart d m x before (own ++ i.name ∷ []) (names ++ name ∷ []) is (subst (λ (l : List (List ℕ)). AreNames d m l x (names ++ name ∷ [])) (append_assoc stems own (i.name ∷ [])) one) new.1 in
    subst (λ (l : List (List ℕ)). AreNames d m (stems ++ l) x (names ++ name ∷ names_of (map index_file is))) (append_assoc own (i.name ∷ []) (index_names is))
    (subst (λ (l : List (List ℕ)). AreNames d m (stems ++ ((own ++ i.name ∷ []) ++ index_names is)) x l) (append_assoc names (name ∷ []) (names_of (map index_file is))) more)

memo_files_apart : (d m i x names : List (List ℕ)) (closed : ClosedTable) (memos : Bool) → has_memos closed.content.schema ≡ memos → AreNames d m i x names → includes_name m closed.name ≡ false
    → AreNames d (m ++ closed.name ∷ []) i x (names ++ names_of (memo_files closed))
memo_files_apart d m i x names closed true is n new = rw is (one_memo d m i x names closed.name n new)
memo_files_apart d m i x names closed false is n new = rw is (subst (λ (l : List (List ℕ)). AreNames d (m ++ closed.name ∷ []) i x l) (sym (append-nil names)) (no_memo d m i x names closed.name n))

module _ (year month day : ℕ) where
  table_files_apart : (x : List (List ℕ)) (before : List Heading) (names : List (List ℕ)) (closed : ClosedTable) → AreNames (table_stems before) (table_stems before) (index_stems before) x names
      → includes_name (table_stems before) closed.name ≡ false → AreNewIndexes before [] (index_names closed.indexes.items)
      → AreNames (table_stems before ++ closed.name ∷ []) (table_stems before ++ closed.name ∷ []) (index_stems before ++ index_names closed.indexes.items) x (names ++ names_of (table_files year month day closed))
  table_files_apart x before names closed n new indexes =
      let d : List (List ℕ) = table_stems before in
      let more : List (List ℕ) = d ++ closed.name ∷ [] in
      let i : List (List ℕ) = index_stems before in
      let files : List NamedFile = map index_file closed.indexes.items in
      let memos : List NamedFile = memo_files closed in
      let first : List (List ℕ) = names ++ (closed.name ++ dbf) ∷ [] in
      let one = memo_files_apart more d i x first closed (has_memos closed.content.schema) refl (one_table d d i x names closed.name n new) new in
      let all = index_files_apart more more x before [] (first ++ names_of memos) closed.indexes.items (subst (λ (l : List (List ℕ)). AreNames more more l x (first ++ names_of memos)) (sym (append-nil i)) one) indexes in
      let split : names_of (memos ++ files) ≡ names_of memos ++ names_of files = map-append (λ (file : NamedFile). file.name) memos files in
      let order : (first ++ names_of memos) ++ names_of files ≡ names ++ names_of (table_files year month day closed) =
      append_assoc first (names_of memos) (names_of files) ∙ append_assoc names ((closed.name ++ dbf) ∷ []) (names_of memos ++ names_of files)
      ∙ ap (λ (l : List (List ℕ)). names ++ (closed.name ++ dbf) ∷ l) (sym split) in
      subst (λ (l : List (List ℕ)). AreNames more more (i ++ index_names closed.indexes.items) x l) order all

  tables_files_apart : (x : List (List ℕ)) (before : List Heading) (names : List (List ℕ)) (tables : List ClosedTable) → AreNames (table_stems before) (table_stems before) (index_stems before) x names
      → AreNewTables before (map closed_heading tables)
      → let all : List Heading = before ++ map closed_heading tables in AreNames (table_stems all) (table_stems all) (index_stems all) x (names ++ names_of (tables_files year month day tables))
  tables_files_apart x before names [] n new =
      subst (λ (l : List Heading). AreNames (table_stems l) (table_stems l) (index_stems l) x (names ++ [])) (sym (append-nil before))
      (subst (λ (l : List (List ℕ)). AreNames (table_stems before) (table_stems before) (index_stems before) x l) (sym (append-nil names)) n)
  tables_files_apart x before names (t ∷ ts) n new =
      let own : Heading = closed_heading t in
      let here : List NamedFile = table_files year month day t in
      let rest : List NamedFile = tables_files year month day ts in
      let one = table_files_apart x before names t n new.0.named new.0.indexes in
      let heads : table_stems (before ++ own ∷ []) ≡ table_stems before ++ t.name ∷ [] = map-append (λ (h : Heading). h.0) before (own ∷ []) in
      let stems : index_stems (before ++ own ∷ []) ≡ index_stems before ++ index_names t.indexes.items =
      flat_map-append (λ (h : Heading). h.1) before (own ∷ []) ∙ ap (λ (l : List (List ℕ)). index_stems before ++ l) (append-nil (index_names t.indexes.items)) in
      let next : AreNames (table_stems (before ++ own ∷ [])) (table_stems (before ++ own ∷ [])) (index_stems (before ++ own ∷ [])) x (names ++ names_of here) =
      subst (λ (l : List (List ℕ)). AreNames l l (index_stems (before ++ own ∷ [])) x (names ++ names_of here)) (sym heads)
      (subst (λ (l : List (List ℕ)). AreNames (table_stems before ++ t.name ∷ []) (table_stems before ++ t.name ∷ []) l x (names ++ names_of here)) (sym stems) one) in
      let all = tables_files_apart x (before ++ own ∷ []) (names ++ names_of here) ts next new.1 in
      let order : (names ++ names_of here) ++ names_of rest ≡ names ++ names_of (tables_files year month day (t ∷ ts)) =
      append_assoc names (names_of here) (names_of rest) ∙ ap (λ (l : List (List ℕ)). names ++ l) (sym (map-append (λ (file : NamedFile). file.name) here rest)) in
      subst (λ (l : List (List ℕ)). let hs : List Heading = before ++ own ∷ map closed_heading ts in AreNames (table_stems hs) (table_stems hs) (index_stems hs) x l) order
      (subst (λ (hs : List Heading). AreNames (table_stems hs) (table_stems hs) (index_stems hs) x ((names ++ names_of here) ++ names_of rest)) (append_assoc before (own ∷ []) (map closed_heading ts)) all)

-- ---- answers

-- how the name of a station's answers begins
abbrev answer_stem : ℕ → List ℕ
answer_stem station = codes "STATION" ++ decimal station

-- how that of the journal does
abbrev journal_stem : List ℕ
journal_stem = codes "JOURNAL"

stems_apart : (m n : ℕ) → m < 2 ^ 64 → n < 2 ^ 64 → m ≢ n → bytes_eq (answer_stem m) (answer_stem n) ≡ false
stems_apart m n small few other = apart_by (answer_stem m) (answer_stem n) (λ same.
    let digits : decimal m ≡ decimal n = append_cancel_left (codes "STATION") (decimal m) (decimal n) same in
    other (sym (decimal_is_IsNumeral m small).1 ∙ ap (digits_value 10) digits ∙ (decimal_is_IsNumeral n few).1))

-- the stations whose names were told are those before this one, and the journal's was not
record AreStations (station : ℕ) (texts : List (List ℕ)) : Type 0 where
  new : (n : ℕ) → station ≤ n → n < 2 ^ 64 → includes_name texts (answer_stem n) ≡ false
  journal : includes_name texts journal_stem ≡ false

one_station : (station : ℕ) (texts : List (List ℕ)) → station < 2 ^ 64 → AreStations station texts → AreStations (station + 1) (texts ++ answer_stem station ∷ [])
one_station station texts few told = record {
  new = λ n later small.
      includes_end texts (answer_stem station) (answer_stem n)
      ∙ or_false (includes_name texts (answer_stem n)) (bytes_eq (answer_stem n) (answer_stem station)) (told.new n (omega (arith, later)) small) (stems_apart n station small few (λ is. absurd (omega (arith, later, is))));
  journal = includes_end texts (answer_stem station) journal_stem ∙ or_false (includes_name texts journal_stem) (bytes_eq journal_stem (answer_stem station)) told.journal refl;
}

-- the names differ, and none is that of the journal
record AreApart (names : List (List ℕ)) : Type 0 where
  apart : IsDistinct bytes_eq names
  journal : includes_name names journal_name ≡ false

answer_files_apart : (d m i texts names : List (List ℕ)) (station : ℕ) (answers : List (List ℕ)) → AreNames d m i texts names → AreStations station texts → station + length answers < 2 ^ 64
    → AreApart (names ++ names_of (answer_files station answers))
answer_files_apart d m i texts names station [] n told few =
    subst AreApart (sym (append-nil names)) (record { apart = n.apart; journal = n.txts journal_stem told.journal })
answer_files_apart d m i texts names station (a ∷ rest) n told few =
    let now : station < 2 ^ 64 = omega (arith, few) in
    let name : answer_stem station ++ txt ≡ answer_name station = append_assoc (codes "STATION") (decimal station) txt in
    let one = one_text d m i texts names (answer_stem station) n (told.new station (omega arith) now) in
    let all = answer_files_apart d m i (texts ++ answer_stem station ∷ []) (names ++ answer_name station ∷ []) (station + 1) rest
    (subst (λ (l : List ℕ). AreNames d m i (texts ++ answer_stem station ∷ []) (names ++ l ∷ [])) name one) (one_station station texts now told) (omega (arith, few)) in
    subst AreApart (append_assoc names (answer_name station ∷ []) (names_of (answer_files (station + 1) rest))) all

-- ---- all of a run

run_files_apart : (today : Day) (tables : List ClosedTable) (answers : List (List ℕ)) → AreNewTables [] (map closed_heading tables) → 1 + length answers < 2 ^ 64 → AreApart (names_of (run_files today tables answers))
run_files_apart today tables answers new few =
    let files : List NamedFile = tables_files today.year today.month today.day tables in
    let first = tables_files_apart today.year today.month today.day [] [] [] tables none_yet new in
    let told : AreStations 1 [] = record { new = λ n later small. refl; journal = refl } in
    let all = answer_files_apart _ _ _ [] (names_of files) 1 answers first told few in
    subst AreApart (sym (map-append (λ (file : NamedFile). file.name) files (answer_files 1 answers))) all

first_passed : (a b c : Bool) (f g i : OpenFault) → first_fault ((a, f) ∷ (b, g) ∷ (c, i) ∷ []) ≡ None → b ≡ true
first_passed true true c f g i h = refl
first_passed true false c f g i h = absurd cc
first_passed false b c f g i h = absurd cc

few_stations : (n : ℕ) → nat_le n MAX_STATIONS ≡ true → n ≤ MAX_STATIONS
few_stations n h = grind (arith, nat_tests)

module _ (reindex : Bool) (stations : ℕ) (read : List TableSource) (h : History) (opening : Opening reindex stations read (Ok h.opened.tables)) (tables : List ClosedTable) (handed : AreHandedOver h tables) where
  -- at the end each name of a table or an index is new at its place
  handed_new : AreNewTables [] (map closed_heading tables)
  handed_new =
      let began = passing_ok (count_tests (length read) stations) (TablesOpening reindex [] read) h.opened.tables opening in
      let first = tables_opened reindex [] read h.opened.tables began.1 in
      let opened : AreNewTables [] (map heading h.opened.tables) = subst (λ (l : List Heading). AreNewTables [] l) (sym first.0) first.1 in
      subst (λ (l : List Heading). AreNewTables [] l) (sym (handed_headings h tables handed)) (replay_new h opened)

  few_answers : stations ≤ MAX_STATIONS
  few_answers =
      let began = passing_ok (count_tests (length read) stations) (TablesOpening reindex [] read) h.opened.tables opening in
      few_stations stations (first_passed (nat_le 1 stations) (nat_le stations MAX_STATIONS) (nat_le (length read) MAX_TABLES) NoStation TooManyStations TooManyTables began.0)

  -- the names of the files of a run's tables and answers differ
  pub names_differ : (today : Day) (answers : List (List ℕ)) → length answers ≤ stations → IsDistinct bytes_eq (names_of (run_files today tables answers))
  names_differ today answers few = (run_files_apart today tables answers handed_new (omega (arith, few, few_answers))).apart

  -- so do they with that of the journal
  pub names_differ_with_journal : (today : Day) (answers : List (List ℕ)) (text : List ℕ) → length answers ≤ stations → IsDistinct bytes_eq (names_of (and_journal (run_files today tables answers) text))
  names_differ_with_journal today answers text few =
      let all = run_files_apart today tables answers handed_new (omega (arith, few, few_answers)) in
      subst (λ (l : List (List ℕ)). IsDistinct bytes_eq l) (sym (map-append (λ (file : NamedFile). file.name) (run_files today tables answers) (journal_file text ∷ [])))
      (push (names_of (run_files today tables answers)) journal_name all.apart all.journal)

module _ (files : Option (List NamedFile)) (setup : List ℕ) (reindex : Bool) (tables : List ClosedTable) (answers : List (List ℕ)) (count : ℕ) (run : IsWholeRun files setup reindex tables answers count) (today : Day) where
  pub run_names_differ : IsDistinct bytes_eq (names_of (run_files today tables answers))
  run_names_differ =
      names_differ reindex (length run.read.scripts) run.read.tables run.history run.run.opened tables run.handed today answers (omega (arith, run.run.reports.count, run.run.stations))

  pub run_names_differ_with_journal : (text : List ℕ) → IsDistinct bytes_eq (names_of (and_journal (run_files today tables answers) text))
  run_names_differ_with_journal text =
      names_differ_with_journal reindex (length run.read.scripts) run.read.tables run.history run.run.opened tables run.handed today answers text (omega (arith, run.run.reports.count, run.run.stations))
