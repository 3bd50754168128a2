-- What is noted of files that are read, one after another.
use Rattle.std.proofs.Common.{◌≡◌, ℕ, ◌+◌, ◌<◌, List, [], ◌∷◌, ◌++◌, Option, Some, Result, Ok, Err, map, take, get_or, length, subst, sym, ap, ◌∙◌}
use Rattle.std.specs.List.{slice_get, AllByRecursion}
use Rattle.std.specs.Prelude.{OnOk}
use Rattle.std.proofs.lemmas.Grind.{flat_map-append}
use Rattle.std.proofs.lemmas.List.{take_more, append-nil, take-map}
use Rattle.std.proofs.lemmas.Option.{get_or_from_slice_get, slice_get_within}
use Rattle.journal_file.specs.declared.sum.FileSum.{FileSum}
use Rattle.journal_file.specs.WholeText.{sum_of_file, with_sum, IsSum}
use Rattle.folders.specs.declared.named.NamedFile.{NamedFile}
use Rattle.station_lines.specs.declared.setup.entry.SetupEntry.{SetupEntry}
use Rattle.setup_files.specs.Noted.{paths_of, AreNoted}
use Rattle.office_run.specs.FileSums.{paths_in, AreAllNoted, NotesAsBefore, sum_of_named}
use Rattle.office_run.specs.OpenedSetup.{HaveStill}
use Rattle.office_run.specs.WholeRun.{IsSaid}
use Rattle.office_run.proofs.OneOpening.{one_file, one_said}

pub noted_then : (files : Option (List NamedFile)) (paths more : List (List ℕ)) (old mid new : Option (List FileSum)) → AreNoted files paths old mid → AreNoted files more mid new → AreNoted files (paths ++ more) old new
noted_then files [] more old mid new h k = subst (λ (o : Option (List FileSum)). AreNoted files more o new) h k
noted_then files (path ∷ paths) more old mid new h k = (h.0, h.1, noted_then files paths more (with_sum old (sum_of_file path h.0)) mid new h.2 k)

-- and the files of one more entry
pub noted_more : (files later : Option (List NamedFile)) (entries : List SetupEntry) (i : ℕ) (entry : SetupEntry) (old mid new : Option (List FileSum)) → i < length entries → entry ≡ get_or entries i entry → later ≡ files
    → AreNoted files (paths_in (take i entries)) old mid → AreNoted later (paths_of entry) mid new → AreNoted files (paths_in (take (i + 1) entries)) old new
noted_more files later entries i entry old mid new lt is same h k =
    let here : take (i + 1) entries ≡ take i entries ++ entry ∷ [] = take_more entries i entry lt ∙ ap (λ (e : SetupEntry). take i entries ++ e ∷ []) (sym is) in
    let paths : paths_in (take (i + 1) entries) ≡ paths_in (take i entries) ++ paths_of entry =
    ap paths_in here ∙ (flat_map-append paths_of (take i entries) (entry ∷ []) ∙ ap (λ (ps : List (List ℕ)). paths_in (take i entries) ++ ps) (append-nil (paths_of entry))) in
    subst (λ (ps : List (List ℕ)). AreNoted files ps old new) (sym paths)
    (noted_then files (paths_in (take i entries)) (paths_of entry) old mid new h (subst (λ (fs : Option (List NamedFile)). AreNoted fs (paths_of entry) mid new) same k))

-- the setup, and then what it names, of a source that has the same files
pub all_noted : (files later : Option (List NamedFile)) (setup : List ℕ) (entries given : List SetupEntry) (old mid new : Option (List FileSum)) → later ≡ files → given ≡ entries → IsSaid files setup (Ok entries)
    → AreNoted files (setup ∷ []) old mid → AreNoted later (paths_in given) mid new → AreAllNoted files setup old new
all_noted files later setup entries given old mid new same are said first rest = record {
  entries = entries;
  said = said;
  noted_all = noted_then files (setup ∷ []) (paths_in entries) old mid new first
      (subst (λ (es : List SetupEntry). AreNoted files (paths_in es) mid new) are (subst (λ (fs : Option (List NamedFile)). AreNoted fs (paths_in given) mid new) same rest));
}

-- where a journal is wanted, all that was noted is had at the end
noted_some : (files : Option (List NamedFile)) (paths : List (List ℕ)) (old : List FileSum) (new : Option (List FileSum)) → AreNoted files paths (Some old) new → (sums : List FileSum) × (new ≡ Some sums)
noted_some files [] old new h = (old, h)
noted_some files (path ∷ paths) old new h = noted_some files paths (old ++ sum_of_file path h.0 ∷ []) new h.2

pub all_had : (files : Option (List NamedFile)) (setup : List ℕ) (old new : Option (List FileSum)) (read : List FileSum) → old ≡ Some [] → AreAllNoted files setup old new → ((sums : List FileSum) → new ≡ Some sums → read ≡ sums)
    → AreAllNoted files setup (Some []) (Some read)
all_had files setup old new read none h had =
    let noted : AreAllNoted files setup (Some []) new = subst (λ (o : Option (List FileSum)). AreAllNoted files setup o new) none h in
    let some = noted_some files (setup ∷ paths_in noted.entries) [] new noted.noted_all in
    subst (λ (o : Option (List FileSum)). AreAllNoted files setup (Some []) o) (some.1 ∙ ap (λ (s : List FileSum). Some s) (sym (had some.0 some.1))) noted

-- ---- the same files, noted again

noted_one : (files later : List NamedFile) (paths : List (List ℕ)) (old a b : Option (List FileSum)) → HaveStill files later → AreNoted (Some files) paths old a → AreNoted (Some later) paths old b → a ≡ b
noted_one files later [] old a b still h k = h ∙ sym k
noted_one files later (path ∷ paths) old a b still h k =
    let same : k.0 ≡ h.0 = one_file later path k.0 h.0 k.1 (still path h.0 h.1) in
    noted_one files later paths (with_sum old (sum_of_file path h.0)) a b still h.2
    (subst (λ (bytes : List ℕ). AreNoted (Some later) paths (with_sum old (sum_of_file path bytes)) b) same k.2)

pub notes_as_before : (files later : List NamedFile) (setup : List ℕ) → HaveStill files later → NotesAsBefore files later setup
notes_as_before files later setup still before now h k =
    let said : IsSaid (Some later) setup (Ok h.entries) = record { text = h.said.text; found = still setup h.said.text h.said.found; says = h.said.says } in
    let entries : h.entries ≡ k.entries = one_said later setup h.entries k.entries said k.said in
    let all : Some before ≡ Some now = noted_one files later (setup ∷ paths_in k.entries) (Some []) (Some before) (Some now) still
    (subst (λ (es : List SetupEntry). AreNoted (Some files) (setup ∷ paths_in es) (Some []) (Some before)) entries h.noted_all) k.noted_all in
    cc

-- what follows of a call that succeeded
pub on_ok : {T E P Q : Type 0} (r : Result T E) → OnOk r P → (P → Q) → OnOk r Q
on_ok (Ok x) p f = f p
on_ok (Err e) p f = tt

-- ---- what is written

-- and the sum of one more file
pub sums_more : (files : List NamedFile) (i : ℕ) (sums next : List FileSum) (sum : FileSum) → slice_get (map sum_of_named files) i ≡ Some sum → next ≡ sums ++ sum ∷ []
    → sums ≡ map sum_of_named (take i files) → next ≡ map sum_of_named (take (i + 1) files)
sums_more files i sums next sum at added before =
    let all : List FileSum = map sum_of_named files in
    let here : take (i + 1) all ≡ take i all ++ sum ∷ [] =
    take_more all i sum (slice_get_within all i sum at) ∙ ap (λ (s : FileSum). take i all ++ s ∷ []) (get_or_from_slice_get all i sum sum at) in
    added ∙ ((λ j. before j ++ sum ∷ []) ∙ ((λ j. sym (take-map sum_of_named i files) j ++ sum ∷ []) ∙ (sym here ∙ take-map sum_of_named (i + 1) files)))

-- lines can tell one more
all_then : (sums : List FileSum) (sum : FileSum) → AllByRecursion IsSum sums → IsSum sum → AllByRecursion IsSum (sums ++ sum ∷ [])
all_then [] sum small one = (one, tt)
all_then (x ∷ sums) sum small one = (small.0, all_then sums sum small.1 one)

pub sums_small : (sums : List FileSum) (sum : FileSum) (next : List FileSum) → next ≡ sums ++ sum ∷ [] → AllByRecursion IsSum sums → IsSum sum → AllByRecursion IsSum next
sums_small sums sum next added small one = subst (λ (s : List FileSum). AllByRecursion IsSum s) (sym added) (all_then sums sum small one)
