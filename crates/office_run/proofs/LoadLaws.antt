-- What entries load, the last one last, and whose faults they are.
use Rattle.std.proofs.Common.{◌≡◌, ◌≢◌, ◌⊎◌, inl, inr, ℕ, List, [], ◌∷◌, ◌++◌, Option, Some, refl, subst, sym, ap, ◌∙◌, ◌+◌, ◌<◌, take, drop, drop-cons, add-one, suc, get_or, length, Result, Ok, Err}
use Rattle.std.specs.Prelude.{IfErr, IsErrAnd, IsOk, OnOk}
use Rattle.std.proofs.lemmas.Bool.{false≢true}
use Rattle.std.proofs.lemmas.List.{take_more}
use Rattle.catalogue_core.specs.declared.source.IndexSource.{IndexSource}
use Rattle.catalogue_core.specs.declared.source.TableSource.{TableSource}
use Rattle.folders.specs.declared.named.NamedFile.{NamedFile}
use Rattle.station_lines.specs.declared.setup.entry.SetupEntry.{SetupEntry}
use Rattle.station_lines.specs.declared.setup.entry.SetupEntry.TheVariants.{Index, Table}
use Rattle.setup_files.specs.declared.content.EntryContent.{EntryContent}
use Rattle.setup_files.specs.declared.fault.EntryFault.{EntryFault}
use Rattle.setup_files.specs.declared.fault.EntryFault.TheVariants.{Unloaded, UnloadedMemos, NoTable, NoIndex}
use Rattle.setup_files.specs.declared.fault.LoadRefusal.TheVariants as refusal
use Rattle.setup_files.specs.EntryFiles.{IsRefusalOf, refused_path, IsEntryRead, AreEntriesRead}
use Rattle.setup_files.specs.Loads.{IsFailureAt}
use Rattle.office_run.specs.declared.fault.ServeFault.{ServeFault}
use Rattle.office_run.specs.declared.fault.ServeFault.TheVariants.{File, NoMemory}
use Rattle.folders.specs.Files.{IsFileOf}
use Rattle.station_lines.specs.declared.setup.fault.SetupFault.{SetupFault}
use Rattle.station_lines.specs.declared.setup.fault.SetupFault.TheVariants.{Bad, NoMemory as NoMemoryToParse}
use Rattle.station_lines.specs.Setup.{IsSetup}
use Rattle.office_run.specs.Loading.{Read, nothing, file_fault, refusal_told, first_refused, HasIndex, IsEntryFault, IsFailure, IsIndexRead, IsTableRead, Loads, LoadAll, read_as}
use Rattle.office_run.specs.WholeRun.{IsReadFault, IsSetupFault}

load_all_last : (files : Option (List NamedFile)) (entries : List SetupEntry) (entry : SetupEntry) (a b c : Read)
    → LoadAll files entries a b → Loads files entry b c → LoadAll files (entries ++ entry ∷ []) a c
load_all_last files [] entry a b c h k = (c, subst (λ (r : Read). Loads files entry r c) h k, refl)
load_all_last files (e ∷ es) entry a b c h k = (h.0, h.1, load_all_last files es entry h.0 b c h.2 k)

pub loaded_more : (files : Option (List NamedFile)) (entries : List SetupEntry) (i : ℕ) (entry : SetupEntry) (b c : Read)
    → i < length entries → entry ≡ get_or entries i entry → LoadAll files (take i entries) nothing b → Loads files entry b c
    → LoadAll files (take (i + 1) entries) nothing c
loaded_more files entries i entry b c lt is h k =
    let here : take (i + 1) entries ≡ take i entries ++ entry ∷ [] = take_more entries i entry lt ∙ ap (λ (e : SetupEntry). take i entries ++ e ∷ []) (sym is) in
    subst (λ (es : List SetupEntry). LoadAll files es nothing c) (sym here) (load_all_last files (take i entries) entry nothing b c h k)

-- the fault that `?` hands on
pub err_exit : {T : Type 0} {fault : ServeFault} (r : Result T ServeFault) (P : ServeFault → Type 0) → IsErrAnd r (λ y. y ≡ fault) → P fault → IfErr r P
err_exit (Ok x) P h p = absurd h
err_exit (Err y) P h p = subst P (sym h) p

-- why a setup that was loaded says nothing
pub unsaid : (files : Option (List NamedFile)) (setup text : List ℕ) (fault : SetupFault) (told : ServeFault) → IsFileOf files setup text
    → ((n : ℕ) → fault ≡ Bad n → IsSetup text (Err n)) → IsSetupFault text fault told → IsReadFault files setup told
unsaid files setup text (Bad n) told found bad is =
    subst (λ (f : ServeFault). IsReadFault files setup f) (sym is.2)
    (record { text = text; found = found; says = subst (λ (k : ℕ). IsSetup text (Err k)) (sym is.1.line) (bad n refl) })
unsaid files setup text NoMemoryToParse told found bad is = subst (λ (f : ServeFault). IsReadFault files setup f) (sym is) tt

-- and no load has failed then
pub unsaid_loads : (files : Option (List NamedFile)) (text : List ℕ) (before after : Option ℕ) (fault : SetupFault) (told : ServeFault) → IsSetupFault text fault told
    → after ≡ before → IsFailure files before after told
unsaid_loads files text before after (Bad n) told is same = subst (λ (f : ServeFault). IsFailure files before after f) (sym is.2) same
unsaid_loads files text before after NoMemoryToParse told is same = subst (λ (f : ServeFault). IsFailure files before after f) (sym is) tt

-- a table is loaded where it is added to the others
pub table_loads : {T E : Type 0} (r : Result T E) (files : Option (List NamedFile)) (name dbf : List ℕ) (dbt : Option (List ℕ)) (table : TableSource) (old new : Read)
    → IsTableRead files name dbf dbt table → OnOk r (new.tables ≡ old.tables ++ table ∷ []) → new.scripts ≡ old.scripts → OnOk r (Loads files (Table name dbf dbt) old new)
table_loads (Ok x) files name dbf dbt table old new own h e =
    (table, own, ap (λ (ts : List TableSource). read_as ts new.scripts) h ∙ ap (λ (ss : List (List ℕ)). read_as (old.tables ++ table ∷ []) ss) e)
table_loads (Err y) files name dbf dbt table old new own h e = tt

-- an index is loaded where it is added to its table
pub index_loads : {T E : Type 0} (r : Result T E) (files : Option (List NamedFile)) (table name ndx : List ℕ) (index : IndexSource) (old new : Read)
    → IsIndexRead files name ndx index → OnOk r (HasIndex table index old.tables new.tables) → new.scripts ≡ old.scripts → OnOk r (Loads files (Index table name ndx) old new)
index_loads (Ok x) files table name ndx index old new own h e = (index, own, h, e)
index_loads (Err y) files table name ndx index old new own h e = tt

-- ---- an entry whose files are refused

-- what the fault says is true of the files,
pub fault_told : (files : Option (List NamedFile)) (entry : SetupEntry) (why : EntryFault) (fault : ServeFault) → (fault ≡ NoMemory) ⊎ (fault ≡ File (refused_path entry why) (file_fault why)) → IsRefusalOf files entry why → IsEntryFault files entry fault
fault_told files entry why fault (inl none) h = subst (λ (f : ServeFault). IsEntryFault files entry f) (sym none) tt
fault_told files entry why fault (inr is) h = subst (λ (f : ServeFault). IsEntryFault files entry f) (sym is) (why, h, refl, refl)

-- it is the fault of this entry, but for want of memory,
pub refusal_first : (entry : SetupEntry) (why : EntryFault) (fault : ServeFault) → (fault ≡ NoMemory) ⊎ (fault ≡ File (refused_path entry why) (file_fault why)) → fault ≢ NoMemory → refusal_told entry (Err why) ≡ Some fault
refusal_first entry why fault (inl none) ne = absurd (ne none)
refusal_first entry why fault (inr is) ne = ap (λ (f : ServeFault). Some f) (sym is)

failure_at : (files : Option (List NamedFile)) (before after : Option ℕ) (entry : SetupEntry) (why : EntryFault) → IsFailureAt files before after entry why → IsFailure files before after (File (refused_path entry why) (file_fault why))
failure_at files before after entry (Unloaded refusal.CannotRead) h = h
failure_at files before after entry (Unloaded refusal.Unrecovered) h = h
failure_at files before after entry (UnloadedMemos refusal.CannotRead) h = h
failure_at files before after entry (UnloadedMemos refusal.Unrecovered) h = h
failure_at files before after entry (NoTable bad numbers) h = h
failure_at files before after entry (NoIndex bad numbers) h = h

-- and the count of loads that failed is as it says
pub failure_told : (files : Option (List NamedFile)) (before after : Option ℕ) (entry : SetupEntry) (why : EntryFault) (fault : ServeFault) → (fault ≡ NoMemory) ⊎ (fault ≡ File (refused_path entry why) (file_fault why)) → IsFailureAt files before after entry why → IsFailure files before after fault
failure_told files before after entry why fault (inl none) h = subst (λ (f : ServeFault). IsFailure files before after f) (sym none) tt
failure_told files before after entry why fault (inr is) h = subst (λ (f : ServeFault). IsFailure files before after f) (sym is) (failure_at files before after entry why h)

-- ---- what was read of entries, put together one after another

-- what is left begins with the next entry
pub left_read : (files : Option (List NamedFile)) (left entries : List SetupEntry) (entry : SetupEntry) (reads rest : List (Result EntryContent EntryFault)) (read : Result EntryContent EntryFault)
    → left ≡ entry ∷ entries → reads ≡ read ∷ rest → AreEntriesRead files left reads → IsEntryRead files entry read × AreEntriesRead files entries rest
left_read files left entries entry reads rest read e f h =
    subst (λ (es : List SetupEntry). AreEntriesRead files es (read ∷ rest)) e (subst (λ (rs : List (Result EntryContent EntryFault)). AreEntriesRead files left rs) f h)

not_refused : (entry : SetupEntry) (entries : List SetupEntry) (read : Result EntryContent EntryFault) (rest : List (Result EntryContent EntryFault)) → IsOk read → first_refused (entry ∷ entries) (read ∷ rest) ≡ first_refused entries rest
not_refused entry entries (Ok found) rest h = refl
not_refused entry entries (Err why) rest h = absurd (false≢true h)

-- where its files are not refused, the first that is refused is one of the others
pub next_refused : (left entries : List SetupEntry) (entry : SetupEntry) (reads rest : List (Result EntryContent EntryFault)) (read : Result EntryContent EntryFault)
    → left ≡ entry ∷ entries → reads ≡ read ∷ rest → IsOk read → first_refused left reads ≡ first_refused entries rest
next_refused left entries entry reads rest read e f h =
    ap (λ (es : List SetupEntry). first_refused es reads) e ∙ ap (λ (rs : List (Result EntryContent EntryFault)). first_refused (entry ∷ entries) rs) f ∙ not_refused entry entries read rest h

-- where they are, it is this entry
pub this_refused : (left entries : List SetupEntry) (entry : SetupEntry) (reads rest : List (Result EntryContent EntryFault)) (read : Result EntryContent EntryFault) (fault : ServeFault)
    → left ≡ entry ∷ entries → reads ≡ read ∷ rest → refusal_told entry read ≡ Some fault → first_refused left reads ≡ Some fault
this_refused left entries entry reads rest (Ok found) fault e f h = absurd cc
this_refused left entries entry reads rest (Err why) fault e f h =
    ap (λ (es : List SetupEntry). first_refused es reads) e ∙ ap (λ (rs : List (Result EntryContent EntryFault)). first_refused (entry ∷ entries) rs) f ∙ h

pub next_entry : (entries : List SetupEntry) (i : ℕ) (entry : SetupEntry) → i < length entries → entry ≡ get_or entries i entry → drop i entries ≡ entry ∷ drop (i + 1) entries
next_entry entries i entry lt is = drop-cons entries i entry lt ∙ (ap (λ (e : SetupEntry). e ∷ drop (suc i) entries) (sym is) ∙ ap (λ (n : ℕ). entry ∷ drop n entries) (sym (add-one i)))
