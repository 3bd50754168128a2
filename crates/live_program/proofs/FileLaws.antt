-- Files that are written one after another.
use Rattle.std.proofs.Common.{◌≡◌, ◌∙◌, ℕ, suc, ◌+◌, ◌<◌, List, [], ◌∷◌, ◌++◌, Option, Result, Ok, Err, length, take, get_or, sym, ap, subst, refl, true, arith}
use Rattle.std.specs.Prelude.{flat_map, OnOk}
use Rattle.std.specs.List.{list_all, AllByRecursion}
use Rattle.std.proofs.lemmas.Grind.{flat_map-append}
use Rattle.std.proofs.lemmas.List.{append-nil, take_more}
use Rattle.byte_io.specs.Sink.{grown, is_byte}
use Rattle.byte_io.specs.Laws.Sinks.{grown_then}
use Rattle.catalogue_core.specs.declared.entry.Entry.{Entry}
use Rattle.folders.specs.declared.named.NamedFile.{NamedFile}
use Rattle.folders.specs.Files.{listing, opening, IsOfBytes}
use Rattle.office_run.specs.Closing.{answer_name}
use Rattle.live_program.specs.Closings.{answer_files_of, answers_in, file_of_bytes, own_line}

-- the lines of one entry more
pub answers_more : (station : ℕ) (journal : List Entry) (i : ℕ) (e : Entry) (text more : List ℕ) → i < length journal → e ≡ get_or journal i e → more ≡ text ++ own_line station e
    → text ≡ answers_in station (take i journal) → more ≡ answers_in station (take (i + 1) journal)
answers_more station journal i e text more inside is added before =
    let line : Entry → List ℕ = λ (x : Entry). own_line station x in
    let here : take (i + 1) journal ≡ take i journal ++ e ∷ [] = take_more journal i e inside ∙ ap (λ (y : Entry). take i journal ++ y ∷ []) (sym is) in
    let lines : answers_in station (take (i + 1) journal) ≡ answers_in station (take i journal) ++ own_line station e =
    ap (flat_map line) here ∙ (flat_map-append line (take i journal) (e ∷ []) ∙ ap (λ (l : List ℕ). answers_in station (take i journal) ++ l) (append-nil (own_line station e))) in
    added ∙ (ap (λ (l : List ℕ). l ++ own_line station e) before ∙ sym lines)

-- the files of the first list, and then those of the second
pub listed_then : (old now new : Option (List ℕ)) (before after : List NamedFile) → now ≡ grown old (listing before) → new ≡ grown now (listing after) → new ≡ grown old (listing (before ++ after))
listed_then old now new before after first second =
    second ∙ (ap (λ (o : Option (List ℕ)). grown o (listing after)) first ∙ (grown_then old (listing before) (listing after)
    ∙ ap (grown old) (sym (flat_map-append (λ (file : NamedFile). opening file.name ++ file.bytes) before after))))

pub all_then : {X : Type 0} (P : X → Type 0) (xs ys : List X) → AllByRecursion P xs → AllByRecursion P ys → AllByRecursion P (xs ++ ys)
all_then P [] ys all more = more
all_then P (x ∷ xs) ys all more = (all.0, all_then P xs ys all.1 more)

-- one station more
pub next_number : (n : ℕ) → n + 1 ≡ suc n
next_number n = omega arith

pub station_more : (n : ℕ) (journal : List Entry) → answer_files_of (n + 1) journal ≡ answer_files_of n journal ++ file_of_bytes (answer_name (n + 1)) (answers_in (n + 1) journal)
station_more n journal = subst (λ (k : ℕ). answer_files_of k journal ≡ answer_files_of n journal ++ file_of_bytes (answer_name k) (answers_in k journal)) (sym (next_number n)) refl

pub stations_written : (old now new : Option (List ℕ)) (n : ℕ) (journal : List Entry) → now ≡ grown old (listing (answer_files_of n journal))
    → new ≡ grown now (listing (file_of_bytes (answer_name (n + 1)) (answers_in (n + 1) journal))) → new ≡ grown old (listing (answer_files_of (n + 1) journal))
stations_written old now new n journal first second =
    subst (λ (files : List NamedFile). new ≡ grown old (listing files)) (sym (station_more n journal)) (listed_then old now new (answer_files_of n journal) (file_of_bytes (answer_name (n + 1)) (answers_in (n + 1) journal)) first second)

pub stations_of_bytes : (n : ℕ) (journal : List Entry) → AllByRecursion IsOfBytes (answer_files_of n journal) → AllByRecursion IsOfBytes (file_of_bytes (answer_name (n + 1)) (answers_in (n + 1) journal))
    → AllByRecursion IsOfBytes (answer_files_of (n + 1) journal)
stations_of_bytes n journal first second =
    subst (λ (files : List NamedFile). AllByRecursion IsOfBytes files) (sym (station_more n journal)) (all_then IsOfBytes (answer_files_of n journal) (file_of_bytes (answer_name (n + 1)) (answers_in (n + 1) journal)) first second)

-- a file whose name and bytes are of bytes
pub one_of_bytes : {T E : Type 0} (r : Result T E) (name bytes : List ℕ) → list_all is_byte name ≡ true → list_all is_byte bytes ≡ true → OnOk r (AllByRecursion IsOfBytes (file_of_bytes name bytes))
one_of_bytes (Ok x) name bytes named held = (record { name = named; bytes = held }, tt)
one_of_bytes (Err e) name bytes named held = tt
