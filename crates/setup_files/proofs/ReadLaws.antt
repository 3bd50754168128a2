-- What was read of entries, one after another.
use Rattle.std.proofs.Common.{◌≡◌, ◌<◌, ℕ, zero, suc, List, [], ◌∷◌, ◌++◌, length, get_or, Option, Some, Result, refl, ap, subst, sym, ◌∙◌}
use Rattle.std.specs.Prelude.{slice_get}
use Rattle.std.proofs.lemmas.Option.{get_or_from_slice_get, slice_get-get_or}
use Rattle.folders.specs.declared.named.NamedFile.{NamedFile}
use Rattle.station_lines.specs.declared.setup.entry.SetupEntry.{SetupEntry}
use Rattle.setup_files.specs.declared.content.EntryContent.{EntryContent}
use Rattle.setup_files.specs.declared.fault.EntryFault.{EntryFault}
use Rattle.setup_files.specs.EntryFiles.{IsEntryRead, AreEntriesRead}
use Rattle.setup_files.specs.Loads.{IsEntryLoad, AreEntryLoads}

-- one more entry was read
pub reads_more : (files : Option (List NamedFile)) (entries : List SetupEntry) (reads : List (Result EntryContent EntryFault)) (entry : SetupEntry) (read : Result EntryContent EntryFault)
    → AreEntriesRead files entries reads → IsEntryRead files entry read → AreEntriesRead files (entries ++ entry ∷ []) (reads ++ read ∷ [])
reads_more files [] [] entry read h k = (k, tt)
reads_more files [] (r ∷ rs) entry read h k = absurd h
reads_more files (e ∷ es) [] entry read h k = absurd h
reads_more files (e ∷ es) (r ∷ rs) entry read h k = (h.0, reads_more files es rs entry read h.1 k)

-- each was
pub reads_each : (files : Option (List NamedFile)) (entries : List SetupEntry) (reads : List (Result EntryContent EntryFault)) → AreEntriesRead files entries reads → length reads ≡ length entries
reads_each files [] [] h = refl
reads_each files [] (r ∷ rs) h = absurd h
reads_each files (e ∷ es) [] h = absurd h
reads_each files (e ∷ es) (r ∷ rs) h = ap suc (reads_each files es rs h.1)

-- what was read at a place is of the entry there
pub read_at : (files : Option (List NamedFile)) (entries : List SetupEntry) (reads : List (Result EntryContent EntryFault)) (i : ℕ) (read : Result EntryContent EntryFault)
    → AreEntriesRead files entries reads → slice_get reads i ≡ Some read → (entry : SetupEntry) × (slice_get entries i ≡ Some entry) × IsEntryRead files entry read
read_at files [] [] i read h at = absurd cc
read_at files [] (r ∷ rs) i read h at = absurd h
read_at files (e ∷ es) [] i read h at = absurd h
read_at files (e ∷ es) (r ∷ rs) zero read h at =
    let is : r ≡ read = cc in
    (e, refl, subst (IsEntryRead files e) is h.0)
read_at files (e ∷ es) (r ∷ rs) (suc i) read h at = read_at files es rs i read h.1 at

pub read_there : (files : Option (List NamedFile)) (entries : List SetupEntry) (reads : List (Result EntryContent EntryFault)) (i : ℕ) (entry : SetupEntry) (read : Result EntryContent EntryFault)
    → AreEntriesRead files entries reads → i < length reads → entry ≡ get_or entries i entry → read ≡ get_or reads i read → IsEntryRead files entry read
read_there files entries reads i entry read h lt is own =
    let k = read_at files entries reads i read h (slice_get-get_or reads i read lt ∙ ap (λ (r : Result EntryContent EntryFault). Some r) (sym own)) in
    let same : entry ≡ k.0 = is ∙ get_or_from_slice_get entries i k.0 entry k.1 in
    subst (λ (e : SetupEntry). IsEntryRead files e read) (sym same) k.2

-- the loads of one more entry
pub loads_more : (files : Option (List NamedFile)) (before next after : Option ℕ) (entries : List SetupEntry) (reads : List (Result EntryContent EntryFault)) (entry : SetupEntry) (read : Result EntryContent EntryFault)
    → AreEntryLoads files before next entries reads → IsEntryLoad files next after entry read → AreEntryLoads files before after (entries ++ entry ∷ []) (reads ++ read ∷ [])
loads_more files before next after [] [] entry read h k = (after, subst (λ (n : Option ℕ). IsEntryLoad files n after entry read) h k, refl)
loads_more files before next after [] (r ∷ rs) entry read h k = absurd h
loads_more files before next after (e ∷ es) [] entry read h k = absurd h
loads_more files before next after (e ∷ es) (r ∷ rs) entry read h k = (h.0, h.1, loads_more files h.0 next after es rs entry read h.2 k)
