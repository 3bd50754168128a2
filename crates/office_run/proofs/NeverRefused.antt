-- What opens once is refused from the same files only for want of memory, or where a file can't be read.
use Rattle.std.proofs.Common.{◌≡◌, ◌⊎◌, ℕ, zero, suc, Bool, true, false, List, [], ◌∷◌, ◌++◌, length, Option, Some, None, Result, Ok, Err, sym, ap, subst, ◌∙◌, inl, inr}
use Rattle.std.specs.Prelude.{not, nat_le, slice_get, IsPermutation}
use Rattle.std.proofs.lemmas.Bool.{false≢true}
use Rattle.dbf_fields.specs.declared.field.Field.{Field}
use Rattle.dbf_fields.specs.Faults.{first_fault}
use Rattle.dbf_image.specs.declared.bad_table.BadTable.{BadTable}
use Rattle.dbf_image.specs.declared.dbf.header.TableNumbers.{TableNumbers}
use Rattle.dbf_image.specs.DbfText.{IsDbf}
use Rattle.dbf_image.specs.Reading.{image_refusal}
use Rattle.dbf_image.specs.Table.{Table}
use Rattle.dbf_image.proofs.DbfLaws.{dbf_is}
use Rattle.dbf_image.proofs.PartLaws.{refused_without}
use Rattle.key_expr.specs.declared.fault.ExprFault.{ExprFault}
use Rattle.key_expr.specs.Expression.{Expression}
use Rattle.key_expr.specs.Keys.{key_length}
use Rattle.key_expr.proofs.Parsing.{memory_only}
use Rattle.ndx_index.proofs.OneReading.{fault_of_page, unbroken}
use Rattle.ndx_index.specs.declared.pair.Pair.{Pair}
use Rattle.ndx_index.specs.Header.{IsIndex}
use Rattle.table_core.specs.Content.{Content, with_index}
use Rattle.table_order.specs.TableOrder.{pairs_of}
use Rattle.catalogue_core.specs.declared.opening.TheConstants.{MAX_INDEXES}
use Rattle.catalogue_core.specs.declared.opening.OpenFault.{OpenFault}
use Rattle.catalogue_core.specs.declared.opening.OpenFault.TheVariants.{NoMemory as NoMemoryToOpen, DuplicateTable, TooManyIndexes, BadExpression, DuplicateIndex, IndexStale}
use Rattle.catalogue_core.specs.declared.source.IndexSource.{IndexSource}
use Rattle.catalogue_core.specs.declared.source.TableSource.{TableSource}
use Rattle.catalogue_core.specs.Opening.{Then, Made, Passing, Reading, Unless, IsFresh, IfFresh, IndexOpening, IndexesOpening, Opening, TableOpening, TablesOpening, count_tests, has_table, next_table, next_index, is_index, table_tests, named_index, without_indexes}
use Rattle.catalogue_core.specs.Tables.{NamedTable}
use Rattle.folders.specs.declared.named.NamedFile.{NamedFile}
use Rattle.folders.specs.Files.{IsFileOf, IsUnrecovered}
use Rattle.station_lines.specs.declared.setup.entry.SetupEntry.{SetupEntry}
use Rattle.station_lines.specs.declared.setup.entry.SetupEntry.TheVariants.{Table as OfTable, Index as OfIndex, Station}
use Rattle.station_lines.specs.Setup.{IsSetup}
use Rattle.station_lines.proofs.SetupLaws.TextLaws.{one_setup}
use Rattle.setup_files.specs.declared.fault.EntryFault.{EntryFault}
use Rattle.setup_files.specs.declared.fault.EntryFault.TheVariants.{Unloaded, UnloadedMemos, NoTable, NoIndex}
use Rattle.setup_files.specs.declared.fault.LoadRefusal.TheVariants as refusal
use Rattle.setup_files.specs.EntryFiles.{IsRefusalOf, IsRefusedTable, IsTableOfFiles}
use Rattle.office_run.specs.declared.fault.FileFault.{FileFault}
use Rattle.office_run.specs.declared.fault.FileFault.TheVariants.{CannotRead, Unrecovered, Image, Ndx}
use Rattle.office_run.specs.declared.fault.ServeFault.TheVariants.{Setup, File, Refused, Run, Close, NoMemory}
use Rattle.office_run.specs.Loading.{Read, nothing, file_fault, Loads, LoadAll, IsUnloaded, IsUnread}
use Rattle.office_run.specs.OpenedSetup.{IsOfLoads, NeverRefused}
use Rattle.office_run.specs.WholeRun.{IsAllRead, IsSaid, IsUnreadFile}
use Rattle.office_run.proofs.Headings.{passing_ok, then_ok}
use Rattle.office_run.proofs.OneOpening.{as_many, one_file, one_index, one_memo, one_reading, one_said, one_table_opened, reads_alike, IsLikeIndex, IsLikeRead, IsLikeTable, Pairwise}

-- ---- opening

passing_err : {X : Type 0} (tests : List (Bool × OpenFault)) (rest : Result X OpenFault → Type 0) (fault : OpenFault) → first_fault tests ≡ None → Passing tests rest (Err fault) → rest (Err fault)
passing_err {X} tests rest fault none h = subst (λ (o : Option OpenFault). Unless {X = X} o rest (Err fault)) none h

then_err : {X Y : Type 0} (first : Result X OpenFault → Type 0) (rest : X → Result Y OpenFault → Type 0) (fault : OpenFault) → Then first rest (Err fault)
    → ((x : X) × first (Ok x) × rest x (Err fault)) ⊎ first (Err fault)
then_err first rest fault (inl h) = inl h
then_err {X} first rest fault (inr h) = let same : h.0 ≡ fault = cc (h.2) in inr (subst (λ (f : OpenFault). first (Err f)) same h.1)

made_err : {X : Type 0} (x : X) (fault : OpenFault) → Made x (Err fault) → fault ≡ NoMemoryToOpen
made_err x fault (inl h) = absurd cc
made_err x fault (inr h) = cc

reading_err : (fields : List Field) (text : List ℕ) (bad : ExprFault → OpenFault) (e : Expression) (fault : OpenFault) → Reading fields text bad (Ok e) → Reading fields text bad (Err fault) → fault ≡ NoMemoryToOpen
reading_err fields text bad e fault ok (inl h) = h.0
reading_err fields text bad e fault ok (inr h) = absurd (h.1 (memory_only fields text e.expr h.0 ok.2 h.2))

fresh_err : (reindex : Bool) (was fresh : Type 0) (stale fault : OpenFault) (a b next : Content) → (was → fresh) → IfFresh reindex was stale (Made a) (Ok next) → IfFresh reindex fresh stale (Made b) (Err fault)
    → fault ≡ NoMemoryToOpen
fresh_err true was fresh stale fault a b next same ok h = made_err b fault h
fresh_err false was fresh stale fault a b next same ok (inl h) = made_err b fault h.1
fresh_err false was fresh stale fault a b next same (inl ok) (inr h) = absurd (h.0 (same ok.0))
fresh_err false was fresh stale fault a b next same (inr ok) (inr h) = absurd (cc (ok.1))

same_fresh : (table : Table) (a b : Expression) (s t : IndexSource) → a ≡ b → IsLikeIndex s t → IsFresh table a s.file → IsFresh table b t.file
same_fresh table a b s t same like fresh = record {
  long = sym like.long ∙ fresh.long ∙ ap (λ (e : Expression). key_length e.fields e.expr) same;
  pairs = subst (λ (ps : List Pair). IsPermutation (pairs_of table b.expr) ps) like.pairs (subst (λ (e : Expression). IsPermutation (pairs_of table e.expr) s.file.pairs.pairs) same fresh.pairs);
}

index_never : (reindex : Bool) (earlier : List NamedTable) (content : Content) (s t : IndexSource) (next : Content) (fault : OpenFault) → IsLikeIndex s t
    → IndexOpening reindex earlier content s (Ok next) → IndexOpening reindex earlier content t (Err fault) → fault ≡ NoMemoryToOpen
index_never reindex earlier content s t next fault like ok h =
    let n : ℕ = next_table earlier in
    let m : ℕ = next_index content in
    let bad : ExprFault → OpenFault = BadExpression n m in
    let keeping : IndexSource → Expression → Result Content OpenFault → Type 0 =
    λ source e. IfFresh reindex (IsFresh content.table e source.file) (IndexStale n m) (Made (with_index content (named_index source.name e))) in
    let first : IndexSource → Result Expression OpenFault → Type 0 = λ source. Reading content.table.schema source.file.expr bad in
    let tests : List ℕ → List (Bool × OpenFault) = λ name. (not (is_index earlier content name), DuplicateIndex n m) ∷ [] in
    let passed = passing_ok (tests s.name) (Then (first s) (keeping s)) next ok in
    let none : first_fault (tests t.name) ≡ None = subst (λ (name : List ℕ). first_fault (tests name) ≡ None) like.named passed.0 in
    let read = then_ok (first s) (keeping s) next passed.1 in
    let same_text : Reading content.table.schema t.file.expr bad (Ok read.0) = subst (λ (text : List ℕ). Reading content.table.schema text bad (Ok read.0)) like.text read.1 in
    elim (then_err (first t) (keeping t) fault (passing_err (tests t.name) (Then (first t) (keeping t)) fault none h)) [
      | inl other ↦
          fresh_err reindex (IsFresh content.table read.0 s.file) (IsFresh content.table other.0 t.file) (IndexStale n m) fault (with_index content (named_index s.name read.0)) (with_index content (named_index t.name other.0)) next
          (same_fresh content.table read.0 other.0 s t (one_reading content.table.schema t.file.expr bad read.0 other.0 same_text other.1) like) read.2 other.2
      | inr refused ↦ reading_err content.table.schema t.file.expr bad read.0 fault same_text refused
    ]

indexes_never : (reindex : Bool) (earlier : List NamedTable) (content : Content) (ss ts : List IndexSource) (next : Content) (fault : OpenFault) → Pairwise IsLikeIndex ss ts
    → IndexesOpening reindex earlier content ss (Ok next) → IndexesOpening reindex earlier content ts (Err fault) → fault ≡ NoMemoryToOpen
indexes_never reindex earlier content [] [] next fault like ok h = absurd cc
indexes_never reindex earlier content [] (t ∷ ts) next fault like ok h = absurd like
indexes_never reindex earlier content (s ∷ ss) [] next fault like ok h = absurd like
indexes_never reindex earlier content (s ∷ ss) (t ∷ ts) next fault like ok h =
    let x = then_ok (IndexOpening reindex earlier content s) (λ (c : Content). IndexesOpening reindex earlier c ss) next ok in
    elim (then_err (IndexOpening reindex earlier content t) (λ (c : Content). IndexesOpening reindex earlier c ts) fault h) [
      | inl y ↦
          let same : x.0 ≡ y.0 = one_index reindex earlier content s t x.0 y.0 like.0 x.1 y.1 in
          indexes_never reindex earlier y.0 ss ts next fault like.1 (subst (λ (c : Content). IndexesOpening reindex earlier c ss (Ok next)) same x.2) y.2
      | inr refused ↦ index_never reindex earlier content s t x.0 fault like.0 x.1 refused
    ]

-- the tests of a table depend on its name, and on how many indexes it has
same_tests : (earlier : List NamedTable) (s t : TableSource) → IsLikeTable s t → first_fault (table_tests earlier s) ≡ None → first_fault (table_tests earlier t) ≡ None
same_tests earlier s t like none =
    let n : ℕ = next_table earlier in
    let tests : List ℕ → ℕ → List (Bool × OpenFault) = λ name count. (not (has_table earlier name), DuplicateTable n) ∷ (nat_le count MAX_INDEXES, TooManyIndexes n) ∷ [] in
    let named : first_fault (tests t.name (length s.indexes.items)) ≡ None = subst (λ (name : List ℕ). first_fault (tests name (length s.indexes.items)) ≡ None) like.named none in
    subst (λ (count : ℕ). first_fault (tests t.name count) ≡ None) (as_many IsLikeIndex s.indexes.items t.indexes.items like.indexes) named

table_never : (reindex : Bool) (earlier : List NamedTable) (s t : TableSource) (opened : NamedTable) (fault : OpenFault) → IsLikeTable s t → TableOpening reindex earlier s (Ok opened) → TableOpening reindex earlier t (Err fault)
    → fault ≡ NoMemoryToOpen
table_never reindex earlier s t opened fault like ok h =
    let first : TableSource → Result Content OpenFault → Type 0 = λ source. IndexesOpening reindex earlier (without_indexes source.content) source.indexes.items in
    let rest : TableSource → Content → Result NamedTable OpenFault → Type 0 = λ source content. Made (record { name = source.name; content = content }) in
    let passed = passing_ok (table_tests earlier s) (Then (first s) (rest s)) opened ok in
    let x = then_ok (first s) (rest s) opened passed.1 in
    let same : IndexesOpening reindex earlier (without_indexes t.content) s.indexes.items (Ok x.0) =
    subst (λ (c : Table). IndexesOpening reindex earlier (without_indexes c) s.indexes.items (Ok x.0)) like.content x.1 in
    elim (then_err (first t) (rest t) fault (passing_err (table_tests earlier t) (Then (first t) (rest t)) fault (same_tests earlier s t like passed.0) h)) [
      | inl y ↦ made_err (record { name = t.name; content = y.0 }) fault y.2
      | inr refused ↦ indexes_never reindex earlier (without_indexes t.content) s.indexes.items t.indexes.items x.0 fault like.indexes same refused
    ]

tables_never : (reindex : Bool) (earlier : List NamedTable) (ss ts : List TableSource) (opened : List NamedTable) (fault : OpenFault) → Pairwise IsLikeTable ss ts
    → TablesOpening reindex earlier ss (Ok opened) → TablesOpening reindex earlier ts (Err fault) → fault ≡ NoMemoryToOpen
tables_never reindex earlier [] [] opened fault like ok h = made_err earlier fault h
tables_never reindex earlier [] (t ∷ ts) opened fault like ok h = absurd like
tables_never reindex earlier (s ∷ ss) [] opened fault like ok h = absurd like
tables_never reindex earlier (s ∷ ss) (t ∷ ts) opened fault like ok h =
    let x = then_ok (TableOpening reindex earlier s) (λ (u : NamedTable). TablesOpening reindex (earlier ++ u ∷ []) ss) opened ok in
    elim (then_err (TableOpening reindex earlier t) (λ (u : NamedTable). TablesOpening reindex (earlier ++ u ∷ []) ts) fault h) [
      | inl y ↦
          let same : x.0 ≡ y.0 = one_table_opened reindex earlier s t x.0 y.0 like.0 x.1 y.1 in
          tables_never reindex (earlier ++ y.0 ∷ []) ss ts opened fault like.1 (subst (λ (u : NamedTable). TablesOpening reindex (earlier ++ u ∷ []) ss (Ok opened)) same x.2) y.2
      | inr refused ↦ table_never reindex earlier s t x.0 fault like.0 x.1 refused
    ]

opening_never : (reindex : Bool) (a b : Read) (opened : List NamedTable) (fault : OpenFault) → IsLikeRead a b → Opening reindex (length a.scripts) a.tables (Ok opened) → Opening reindex (length b.scripts) b.tables (Err fault)
    → fault ≡ NoMemoryToOpen
opening_never reindex a b opened fault like ok h =
    let none : List NamedTable = [] in
    let passed = passing_ok (count_tests (length a.tables) (length a.scripts)) (TablesOpening reindex none a.tables) opened ok in
    let tables : first_fault (count_tests (length b.tables) (length a.scripts)) ≡ None =
    subst (λ (n : ℕ). first_fault (count_tests n (length a.scripts)) ≡ None) (as_many IsLikeTable a.tables b.tables like.tables) passed.0 in
    let both : first_fault (count_tests (length b.tables) (length b.scripts)) ≡ None =
    subst (λ (l : List (List ℕ)). first_fault (count_tests (length b.tables) (length l)) ≡ None) like.scripts tables in
    tables_never reindex none a.tables b.tables opened fault like.tables passed.1
    (passing_err (count_tests (length b.tables) (length b.scripts)) (TablesOpening reindex none b.tables) fault both h)

-- ---- reading

-- where a file is had no list of a set lies beside it
pub never_unrecovered : (files : List NamedFile) (path bytes : List ℕ) → IsFileOf (Some files) path bytes → IsUnrecovered (Some files) path → ⊥
never_unrecovered files path bytes found un = false≢true (sym found.recovered ∙ un)

never_no_table : (files : List NamedFile) (dbf : List ℕ) (dbt : Option (List ℕ)) (table : Table) (bad : BadTable) (numbers : TableNumbers) → IsTableOfFiles (Some files) dbf dbt table → IsRefusedTable (Some files) dbf dbt bad numbers → ⊥
never_no_table files dbf dbt table bad numbers is refused =
    let bytes : is.bytes ≡ refused.bytes = one_file files dbf is.bytes refused.bytes is.found refused.found in
    let memo : is.memo ≡ refused.memo = one_memo files dbt is.memo refused.memo is.memo_found refused.memo_found in
    let same : IsDbf refused.bytes refused.memo table = subst (λ (m : Option (List ℕ)). IsDbf refused.bytes m table) memo (subst (λ (l : List ℕ). IsDbf l is.memo table) bytes is.is) in
    let none : image_refusal refused.bytes refused.memo ≡ None = (dbf_is refused.bytes refused.memo table same).0 in
    elim (refused_without refused.bytes refused.memo bad refused.refused) [
      | inl memory ↦ refused.had_memory memory
      | inr some ↦ let clash : None ≡ Some bad.why = sym none ∙ some in absurd cc
    ]

-- an entry that was loaded is not refused, but where its file can't be read
entry_never : (files : List NamedFile) (entry : SetupEntry) (old new : Read) (why : EntryFault) (path : List ℕ) → Loads (Some files) entry old new → IsRefusalOf (Some files) entry why → IsOfLoads (File path (file_fault why))
entry_never files (OfTable name dbf dbt) old new (Unloaded refusal.CannotRead) path loads h = tt
entry_never files (OfTable name dbf dbt) old new (Unloaded refusal.Unrecovered) path loads h = absurd (never_unrecovered files dbf loads.1.content.bytes loads.1.content.found h)
entry_never files (OfTable name dbf dbt) old new (UnloadedMemos refusal.CannotRead) path loads h = tt
entry_never files (OfTable name dbf None) old new (UnloadedMemos refusal.Unrecovered) path loads h = absurd h.2
entry_never files (OfTable name dbf (Some dbt)) old new (UnloadedMemos refusal.Unrecovered) path loads h =
    let memo = loads.1.content.memo_found in
    absurd (never_unrecovered files dbt memo.0 memo.1 h.2)
entry_never files (OfTable name dbf dbt) old new (NoTable bad numbers) path loads h = absurd (never_no_table files dbf dbt loads.0.content bad numbers loads.1.content h)
entry_never files (OfTable name dbf dbt) old new (NoIndex bad numbers) path loads h = absurd h
entry_never files (OfIndex table name ndx) old new (Unloaded refusal.CannotRead) path loads h = tt
entry_never files (OfIndex table name ndx) old new (Unloaded refusal.Unrecovered) path loads h = absurd (never_unrecovered files ndx loads.1.content.bytes loads.1.content.found h)
entry_never files (OfIndex table name ndx) old new (UnloadedMemos why) path loads h = absurd h
entry_never files (OfIndex table name ndx) old new (NoTable bad numbers) path loads h = absurd h
entry_never files (OfIndex table name ndx) old new (NoIndex bad numbers) path loads h =
    let x = loads.1.content in
    let file = loads.0.file in
    let bytes : x.bytes ≡ h.bytes = one_file files ndx x.bytes h.bytes x.found h.found in
    let index : IsIndex h.bytes file.expr file.key_len file.pairs.pairs = subst (λ (l : List ℕ). IsIndex l file.expr file.key_len file.pairs.pairs) bytes x.is in
    absurd (unbroken h.bytes file.expr file.key_len file.pairs.pairs bad.why index (fault_of_page h.bytes bad.why bad.page h.refused))
entry_never files (Station script) old new (Unloaded refusal.CannotRead) path loads h = tt
entry_never files (Station script) old new (Unloaded refusal.Unrecovered) path loads h = absurd (never_unrecovered files script loads.0 loads.1 h)
entry_never files (Station script) old new (UnloadedMemos why) path loads h = absurd h
entry_never files (Station script) old new (NoTable bad numbers) path loads h = absurd h
entry_never files (Station script) old new (NoIndex bad numbers) path loads h = absurd h

-- each of the entries was loaded
abbrev IsLoaded : List NamedFile → SetupEntry → Type 0
IsLoaded files entry = (old : Read) × (new : Read) × Loads (Some files) entry old new

loaded_at : (files : List NamedFile) (entries : List SetupEntry) (old new : Read) (i : ℕ) (entry : SetupEntry) → LoadAll (Some files) entries old new → slice_get entries i ≡ Some entry → IsLoaded files entry
loaded_at files [] old new i entry all at = absurd cc
loaded_at files (e ∷ es) old new zero entry all at = let same : e ≡ entry = cc in subst (IsLoaded files) same (old, all.0, all.1)
loaded_at files (e ∷ es) old new (suc i) entry all at = loaded_at files es all.0 new i entry all.2 at

never_unread : (files : List NamedFile) (entry : SetupEntry) (path : List ℕ) (fault : FileFault) → IsLoaded files entry → IsUnread (Some files) entry path fault → IsOfLoads (File path fault)
never_unread files entry path fault loaded un =
    subst (λ (f : FileFault). IsOfLoads (File path f)) (sym un.3) (entry_never files entry loaded.0 loaded.1 un.0 path loaded.2 un.1)

never_unloaded : (files : List NamedFile) (path bytes : List ℕ) (fault : FileFault) → IsFileOf (Some files) path bytes → IsUnloaded (Some files) path fault → IsOfLoads (File path fault)
never_unloaded files path bytes CannotRead found un = tt
never_unloaded files path bytes Unrecovered found un = absurd (never_unrecovered files path bytes found un)
never_unloaded files path bytes (Image why) found un = absurd un
never_unloaded files path bytes (Ndx why) found un = absurd un

read_never : (files : List NamedFile) (setup path : List ℕ) (fault : FileFault) (read : Read) → IsAllRead (Some files) setup read → IsUnreadFile (Some files) setup path fault → IsOfLoads (File path fault)
read_never files setup path fault read all (inl un) =
    never_unloaded files path all.said.text fault (subst (λ (p : List ℕ). IsFileOf (Some files) p all.said.text) (sym un.0) all.said.found)
    un.1
read_never files setup path fault read all (inr un) =
    let entries : all.entries ≡ un.0 = one_said files setup all.entries un.0 all.said un.1 in
    let loaded : LoadAll (Some files) un.0 nothing read = subst (λ (l : List SetupEntry). LoadAll (Some files) l nothing read) entries all.loaded in
    never_unread files un.2.entry path fault (loaded_at files un.0 nothing read un.2.before un.2.entry loaded un.2.next) un.2.is_fault

abbrev said_as : Result (List SetupEntry) ℕ → Result (List SetupEntry) ℕ
said_as said = said

setup_never : (files : List NamedFile) (setup : List ℕ) (number : ℕ) (read : Read) → IsAllRead (Some files) setup read → IsSaid (Some files) setup (Err number) → ⊥
setup_never files setup number read all bad =
    let text : all.said.text ≡ bad.text = one_file files setup all.said.text bad.text all.said.found bad.found in
    let said : said_as (Ok all.entries) ≡ said_as (Err number) =
    one_setup bad.text (Ok all.entries) (Err number) (subst (λ (l : List ℕ). IsSetup l (said_as (Ok all.entries))) text all.said.says) bad.says in
    absurd cc

-- what opened once
pub never_refused : (files : List NamedFile) (setup : List ℕ) → NeverRefused files setup
never_refused files setup reindex opened once NoMemory un = tt
never_refused files setup reindex opened once (Setup bad) un = absurd (setup_never files setup bad.number once.read once.all un)
never_refused files setup reindex opened once (File path fault) un = read_never files setup path fault once.read once.all un
never_refused files setup reindex opened once (Refused fault) un =
    absurd (un.2.0 (opening_never reindex once.read un.0 opened.tables fault (reads_alike files setup once.read un.0 once.all un.1) once.from.opening un.2.1))
never_refused files setup reindex opened once (Run fault) un = absurd un
never_refused files setup reindex opened once (Close fault) un = absurd un
