-- Findings one after another, and records that are counted one after another.
use Rattle.std.proofs.Common.{◌≡◌, Bor, ℕ, zero, ◌+◌, ◌-◌, ◌<◌, true, false, List, [], ◌∷◌, ◌++◌, append-nil, append_assoc, length, take, get_or, sym, refl, suc, ap, subst, ◌∙◌, arith}
use Rattle.std.proofs.lemmas.List.{take_more}
use Rattle.std.proofs.lemmas.List.Sums.{count_by_more_no, count_by_more_yes}
use Rattle.std.specs.List.{count_by}
use Rattle.dbf_image.specs.Table.{Row, Table as Content, blank_row, row_at}
use Rattle.folders.specs.declared.named.NamedFile.{NamedFile}
use Rattle.station_lines.specs.declared.setup.entry.SetupEntry.{SetupEntry}
use Rattle.std.specs.Prelude.{Option, Some, None, IfOk, MatchOption, option_copied, slice_get, Result, Ok, Err}
use Rattle.std.proofs.lemmas.List.Quantifiers.{position-Some}
use Rattle.setup_files.specs.declared.content.EntryContent.{EntryContent}
use Rattle.setup_files.specs.declared.content.EntryContent.TheVariants as content
use Rattle.setup_files.specs.declared.fault.EntryFault.{EntryFault}
use Rattle.setup_files.specs.EntryFiles.{AreEntriesRead, IsEntryRead}
use Rattle.setup_files.proofs.ReadLaws.{read_at}
use Rattle.dbf_image.specs.Growing.{Growing}
use Rattle.setup_check.specs.declared.finding.Finding.{Finding}
use Rattle.setup_check.specs.declared.finding.Finding.TheVariants.{Refused}
use Rattle.setup_check.specs.Findings.{first_table, table_in, IsFinding, IsBeside, IsFoundOf, IsNamed, IsRefusedAt, IsTableOf, AreFindingsAfter, AreFoundOf}
use Rattle.station_lines.specs.declared.setup.entry.SetupEntry.TheVariants.{Table, Index, Station}
use Rattle.station_lines.specs.Setup.{is_table_of}
use Rattle.std.proofs.lemmas.Bool.{false≢true}
use Rattle.std.proofs.lemmas.Option.{get_or_from_slice_get}
use Rattle.key_expr.specs.Grammar.{Expr}
use Rattle.ndx_index.specs.declared.ndx_file.NdxFile.{NdxFile}
use Rattle.setup_check.specs.declared.freshness.IndexState.{IndexState}
use Rattle.setup_check.specs.declared.freshness.IndexState.TheVariants.{Fresh, NoTable as HasNoTable, NoExpression, OtherLength, Stale}
use Rattle.setup_check.specs.Freshness.{HasExpression, IsIndexState, IsIndexStateWith}

found_last : (files : Option (List NamedFile)) (before : List SetupEntry) (seen : List Finding) (entries : List SetupEntry) (findings : List Finding) (entry : SetupEntry) (finding : Finding)
    → AreFindingsAfter files before seen entries findings → IsFinding files (before ++ entries) (seen ++ findings) entry finding → AreFindingsAfter files before seen (entries ++ entry ∷ []) (findings ++ finding ∷ [])
found_last files before seen [] [] entry finding h k = (
  subst (λ (es : List SetupEntry). IsFinding files es seen entry finding) (append-nil before)
      (subst (λ (gs : List Finding). IsFinding files (before ++ []) gs entry finding) (append-nil seen) k),
  tt,
)
found_last files before seen [] (g ∷ gs) entry finding h k = absurd h
found_last files before seen (e ∷ es) [] entry finding h k = absurd h
found_last files before seen (e ∷ es) (g ∷ gs) entry finding h k = (
  h.0,
  found_last files (before ++ e ∷ []) (seen ++ g ∷ []) es gs entry finding h.1
      (subst (λ (xs : List SetupEntry). IsFinding files xs ((seen ++ g ∷ []) ++ gs) entry finding) (sym (append_assoc before (e ∷ []) es))
      (subst (λ (xs : List Finding). IsFinding files (before ++ e ∷ es) xs entry finding) (sym (append_assoc seen (g ∷ []) gs)) k)),
)

-- the next of some entries
pub next_taken : (entries : List SetupEntry) (i : ℕ) (entry : SetupEntry) → i < length entries → entry ≡ get_or entries i entry → take (i + 1) entries ≡ take i entries ++ entry ∷ []
next_taken entries i entry lt is = take_more entries i entry lt ∙ ap (λ (e : SetupEntry). take i entries ++ e ∷ []) (sym is)

pub found_more : (files : Option (List NamedFile)) (before : List SetupEntry) (findings : List Finding) (entry : SetupEntry) (finding : Finding)
    → AreFindingsAfter files [] [] before findings → IsFinding files before findings entry finding → AreFindingsAfter files [] [] (before ++ entry ∷ []) (findings ++ finding ∷ [])
found_more files before findings entry finding h k = found_last files [] [] before findings entry finding h k

-- there is one for each entry
pub one_each : (files : Option (List NamedFile)) (before : List SetupEntry) (seen : List Finding) (entries : List SetupEntry) (findings : List Finding)
    → AreFindingsAfter files before seen entries findings → length findings ≡ length entries
one_each files before seen [] [] h = refl
one_each files before seen [] (g ∷ gs) h = absurd h
one_each files before seen (e ∷ es) [] h = absurd h
one_each files before seen (e ∷ es) (g ∷ gs) h = ap suc (one_each files (before ++ e ∷ []) (seen ++ g ∷ []) es gs h.1)

-- one more is of what was read
pub found_of_more : (reads : List (Result EntryContent EntryFault)) (findings : List Finding) (read : Result EntryContent EntryFault) (finding : Finding)
    → AreFoundOf reads findings → IsFoundOf read finding → AreFoundOf (reads ++ read ∷ []) (findings ++ finding ∷ [])
found_of_more [] [] read finding h k = (k, tt)
found_of_more [] (g ∷ gs) read finding h k = absurd h
found_of_more (r ∷ rs) [] read finding h k = absurd h
found_of_more (r ∷ rs) (g ∷ gs) read finding h k = (h.0, found_of_more rs gs read finding h.1 k)

-- where the files of an entry are refused, that is what is found at its place
pub found_at : (reads : List (Result EntryContent EntryFault)) (findings : List Finding) (i : ℕ) (fault : EntryFault)
    → AreFoundOf reads findings → slice_get reads i ≡ Some (Err fault) → slice_get findings i ≡ Some (Refused fault)
found_at [] [] i fault h at = absurd cc
found_at [] (g ∷ gs) i fault h at = absurd h
found_at (r ∷ rs) [] i fault h at = absurd h
found_at (r ∷ rs) (g ∷ gs) zero fault h at =
    let is : r ≡ Err fault = cc in
    let refused : g ≡ Refused fault = subst (λ (x : Result EntryContent EntryFault). IsFoundOf x g) is h.0 in
    ap (λ (x : Finding). Some x) refused
found_at (r ∷ rs) (g ∷ gs) (suc i) fault h at = found_at rs gs i fault h.1 at

table_here : (files : Option (List NamedFile)) (entry : SetupEntry) (read : Result EntryContent EntryFault) (records : Growing) → table_in read ≡ Some records → IsEntryRead files entry read → IsTableOf files entry records.table
table_here files (Table own dbf dbt) (Ok (content.Table found)) records is h =
    let same : found ≡ records = cc in
    subst (λ (r : Growing). IsTableOf files (Table own dbf dbt) r.table) same h
table_here files (Index own table ndx) (Ok (content.Table found)) records is h = absurd h
table_here files (Station script) (Ok (content.Table found)) records is h = absurd h
table_here files entry (Ok (content.Index file)) records is h = absurd cc
table_here files entry (Ok (content.Script bytes)) records is h = absurd cc
table_here files entry (Err fault) records is h = absurd cc

-- a table that was read at a place is that of the entry there
pub table_at : (files : Option (List NamedFile)) (entries : List SetupEntry) (reads : List (Result EntryContent EntryFault)) (i : ℕ) (read : Result EntryContent EntryFault) (records : Growing)
    → AreEntriesRead files entries reads → slice_get reads i ≡ Some read → Some records ≡ table_in read → (entry : SetupEntry) × (slice_get entries i ≡ Some entry) × IsTableOf files entry records.table
table_at files entries reads i read records h at is =
    let k = read_at files entries reads i read h at in
    (k.0, k.1, table_here files k.0 read records (sym is) k.2)

fault_here : (files : Option (List NamedFile)) (name : List ℕ) (entry : SetupEntry) (read : Result EntryContent EntryFault) → is_table_of name entry ≡ true → IsEntryRead files entry read → None ≡ table_in read
    → (fault : EntryFault) × (read ≡ Err fault)
fault_here files name entry (Err fault) is h none = (fault, refl)
fault_here files name entry (Ok (content.Table found)) is h none = absurd cc
fault_here files name (Table own dbf dbt) (Ok (content.Index file)) is h none = absurd h
fault_here files name (Table own dbf dbt) (Ok (content.Script bytes)) is h none = absurd h
fault_here files name (Index own table ndx) (Ok (content.Index file)) is h none = absurd (false≢true is)
fault_here files name (Index own table ndx) (Ok (content.Script bytes)) is h none = absurd (false≢true is)
fault_here files name (Station script) (Ok (content.Index file)) is h none = absurd (false≢true is)
fault_here files name (Station script) (Ok (content.Script bytes)) is h none = absurd (false≢true is)

-- where no table was read of a table's entry, its files are refused, and that is what is found
pub refused_at : (files : Option (List NamedFile)) (name : List ℕ) (entries : List SetupEntry) (reads : List (Result EntryContent EntryFault)) (findings : List Finding) (i : ℕ) (read : Result EntryContent EntryFault) (d : SetupEntry)
    → AreEntriesRead files entries reads → AreFoundOf reads findings → is_table_of name (get_or entries i d) ≡ true → slice_get reads i ≡ Some read → None ≡ table_in read
    → (fault : EntryFault) × (slice_get findings i ≡ Some (Refused fault))
refused_at files name entries reads findings i read d h found is at none =
    let k = read_at files entries reads i read h at in
    let entry : get_or entries i d ≡ k.0 = get_or_from_slice_get entries i k.0 d k.1 in
    let fault = fault_here files name k.0 read (subst (λ (e : SetupEntry). is_table_of name e ≡ true) entry is) k.2 none in
    (fault.0, found_at reads findings i fault.0 found (at ∙ ap (λ (r : Result EntryContent EntryFault). Some r) fault.1))

-- the table of a name, by what was read of the first entry of this name
pub named_by : (files : Option (List NamedFile)) (name : List ℕ) (entries : List SetupEntry) (reads : List (Result EntryContent EntryFault)) (findings : List Finding) (i : ℕ) (read : Result EntryContent EntryFault) (found : Option Growing)
    → first_table name entries ≡ Some i → slice_get reads i ≡ Some read → found ≡ table_in read → AreEntriesRead files entries reads → AreFoundOf reads findings
    → MatchOption found (IsRefusedAt findings (first_table name entries)) (λ records. IsNamed files entries name records.table)
named_by files name entries reads findings i read (Some records) first at is h k =
    let t = table_at files entries reads i read records h at is in
    record { place = i; entry = t.0; first = first; there = t.1; table_of = t.2 }
named_by files name entries reads findings i read None first at is h k =
    let d : SetupEntry = Station [] in
    let passes = position-Some (is_table_of name) entries i d first in
    subst (λ (o : Option ℕ). IsRefusedAt findings o) (sym first) (refused_at files name entries reads findings i read d h k passes.1 at is)

-- the state of an index beside the table of its name
beside_state : (files : Option (List NamedFile)) (before : List SetupEntry) (findings : List Finding) (name : List ℕ) (file : NdxFile) (table : Content) (state : IndexState)
    → IsNamed files before name table → IsIndexState table file state → IsBeside files before findings name file state
beside_state files before findings name file table HasNoTable named is = absurd is
beside_state files before findings name file table state named is = (table, named, is)

pub beside_named : {E : Type 0} (r : Result IndexState E) (files : Option (List NamedFile)) (before : List SetupEntry) (findings : List Finding) (name : List ℕ) (file : NdxFile) (table : Content)
    → IsNamed files before name table → IfOk r (IsIndexState table file) → IfOk r (IsBeside files before findings name file)
beside_named (Ok state) files before findings name file table named is = beside_state files before findings name file table state named is
beside_named (Err e) files before findings name file table named is = tt

-- the same of what is borrowed
pub borrowed : {X : Type 0} (r : Option (Bor X)) (none : Type 0) (some : X → Type 0) → MatchOption (option_copied r) none some → MatchOption r none (λ x. some x.now)
borrowed None none some h = h
borrowed (Some x) none some h = h

-- the record of the next number
next-row : (table : Content) (i : ℕ) → row_at table (i + 1) ≡ get_or table.rows i (blank_row table.schema)
next-row table i =
    let here : i + 1 - 1 ≡ i = omega arith in
    ap (λ (n : ℕ). get_or table.rows n (blank_row table.schema)) here

pub marked-next : (table : Content) (i : ℕ) → i < length table.rows → (row_at table (i + 1)).deleted ≡ true
    → count_by (λ (row : Row). row.deleted) (take (i + 1) table.rows) ≡ count_by (λ (row : Row). row.deleted) (take i table.rows) + 1
marked-next table i lt is =
    count_by_more_yes (λ (row : Row). row.deleted) table.rows i (blank_row table.schema) lt (ap (λ (row : Row). row.deleted) (sym (next-row table i)) ∙ is)

pub kept-next : (table : Content) (i : ℕ) → i < length table.rows → (row_at table (i + 1)).deleted ≡ false
    → count_by (λ (row : Row). row.deleted) (take (i + 1) table.rows) ≡ count_by (λ (row : Row). row.deleted) (take i table.rows)
kept-next table i lt is =
    count_by_more_no (λ (row : Row). row.deleted) table.rows i (blank_row table.schema) lt (ap (λ (row : Row). row.deleted) (sym (next-row table i)) ∙ is)

-- the state of a file whose key expression was read
state_of_read : (table : Content) (file : NdxFile) (e : Expr) (state : IndexState) → HasExpression table file e → IsIndexStateWith table file e state → IsIndexState table file state
state_of_read table file e Fresh h s = (e, h, s)
state_of_read table file e HasNoTable h s = absurd s
state_of_read table file e (NoExpression why) h s = absurd s
state_of_read table file e (OtherLength own wanted) h s = (e, h, s)
state_of_read table file e (Stale first) h s = (e, h, s)

pub read_state : {E : Type 0} (table : Content) (file : NdxFile) (e : Expr) (r : Result IndexState E) → HasExpression table file e → IfOk r (IsIndexStateWith table file e) → IfOk r (IsIndexState table file)
read_state table file e (Ok state) h s = state_of_read table file e state h s
read_state table file e (Err refused) h s = tt
