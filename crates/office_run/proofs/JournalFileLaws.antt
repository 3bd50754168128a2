-- The journal's file after others, line by line.
use Rattle.std.proofs.Common.{◌≡◌, ◌≢◌, ℕ, Bool, true, ◌+◌, ◌^◌, ◌<◌, List, [], ◌∷◌, ◌++◌, Option, Some, Result, Ok, Err, length, map, take, drop, refl, sym, ap, subst, ◌∙◌, append_assoc, inl, inr}
use Rattle.std.specs.Prelude.{IsErrAnd}
use Rattle.std.specs.List.{slice_get, AllByRecursion}
use Rattle.std.specs.Fmt.{decimal}
use Rattle.std.proofs.lemmas.Grind.{flat_map-append}
use Rattle.std.proofs.lemmas.List.{drop_more, take_more, length-map, map-append}
use Rattle.std.proofs.lemmas.Option.{get_or_from_slice_get, slice_get_within}
use Rattle.dbf_fields.specs.declared.format.TheConstants.{BLANK}
use Rattle.byte_io.specs.Sink.{grown, IsFront}
use Rattle.byte_io.specs.Laws.Sinks.{front_by, grown_then}
use Rattle.catalogue_core.specs.declared.entry.Entry.{Entry}
use Rattle.office_run.specs.declared.close_fault.CloseFault.TheVariants.{Write}
use Rattle.office_run.specs.declared.closed.ClosedTable.{ClosedTable}
use Rattle.folders.specs.declared.named.NamedFile.{NamedFile}
use Rattle.folders.specs.declared.source.TheConstants.{MAX_FILE_BYTES}
use Rattle.office_run.specs.Closing.{IsCutAt}
use Rattle.folders.specs.Files.{listing, opening, IsOfBytes}
use Rattle.station_lines.specs.declared.script.format.TheConstants.{LF}
use Rattle.station_lines.specs.JournalLines.{entry_and, lines_and, line_parts, journal_text, HasSmallNumbers, HaveSmallNumbers}
use Rattle.journal_file.specs.declared.sum.FileSum.{FileSum}
use Rattle.journal_file.specs.WholeText.{head_and, tail_text, whole_text, IsSum, CanBeTold}
use Rattle.journal_file.proofs.TextLaws.{head_then, lines_then}
use Rattle.office_run.specs.declared.fault.ServeFault.{ServeFault}
use Rattle.office_run.specs.declared.fault.ServeFault.TheVariants.{Close, NoMemory}
use Rattle.office_run.specs.FileSums.{sum_of_named}
use Rattle.office_run.specs.JournalFile.{journal_name, journal_file, and_journal, run_text, told_run, IsJournalFault}
use Rattle.office_run.specs.Served.{IsCutFiles}
use Rattle.office_run.specs.WholeRun.{IsWriteFault, IsCutWriting}

-- ---- a line after others

part_then : (a : List ℕ) (b : ℕ) (x y rest : List ℕ) → x ++ rest ≡ y → (a ++ (b ∷ x)) ++ rest ≡ a ++ (b ∷ y)
part_then a b x y rest e = append_assoc a (b ∷ x) rest ∙ ap (λ (l : List ℕ). a ++ (b ∷ l)) e

-- an entry's line, and what stands after it
entry_then : (entry : ℕ × List ℕ × List ℕ) (rest : List ℕ) → entry_and entry [] ++ rest ≡ entry_and entry rest
entry_then entry rest =
    part_then (decimal entry.0) BLANK _ _ rest (part_then (decimal (length entry.1)) BLANK _ _ rest (part_then (decimal (length entry.2)) BLANK _ _ rest
    (part_then entry.1 BLANK _ _ rest (part_then entry.2 LF [] rest rest refl))))

left_from : (journal : List Entry) (i : ℕ) (e : Entry) → slice_get journal i ≡ Some e → drop i journal ≡ e ∷ drop (i + 1) journal
left_from journal i e at =
    drop_more journal i e (slice_get_within journal i e at) ∙ ap (λ (x : Entry). x ∷ drop (i + 1) journal) (get_or_from_slice_get journal i e e at)

-- the text of the entries from one on is its line, and the text of those after it
pub text_from : (journal : List Entry) (i : ℕ) (e : Entry) (line : List ℕ) → slice_get journal i ≡ Some e → line ≡ entry_and (line_parts e) []
    → journal_text (drop i journal) ≡ line ++ journal_text (drop (i + 1) journal)
text_from journal i e line at is =
    let rest = journal_text (drop (i + 1) journal) in
    ap journal_text (left_from journal i e at) ∙ sym (entry_then (line_parts e) rest) ∙ ap (λ (l : List ℕ). l ++ rest) (sym is)

-- and their numbers are of 64 bits, with those of one more
small_then : (es : List (ℕ × List ℕ × List ℕ)) (e : ℕ × List ℕ × List ℕ) → HaveSmallNumbers es → HasSmallNumbers e → HaveSmallNumbers (es ++ e ∷ [])
small_then [] e small one = (one, tt)
small_then (x ∷ es) e small one = (small.0, small_then es e small.1 one)

pub small_more : (journal : List Entry) (i : ℕ) (e : Entry) → slice_get journal i ≡ Some e → HasSmallNumbers (line_parts e) → HaveSmallNumbers (map line_parts (take i journal))
    → HaveSmallNumbers (map line_parts (take (i + 1) journal))
small_more journal i e at one small =
    let here : take (i + 1) journal ≡ take i journal ++ e ∷ [] =
    take_more journal i e (slice_get_within journal i e at) ∙ ap (λ (x : Entry). take i journal ++ x ∷ []) (get_or_from_slice_get journal i e e at) in
    subst (λ (es : List (ℕ × List ℕ × List ℕ)). HaveSmallNumbers es) (sym (ap (map line_parts) here ∙ map-append line_parts (take i journal) (e ∷ []))) (small_then (map line_parts (take i journal)) (line_parts e) small one)

-- what is written of a text is a front part of it
pub front_of_whole : (begun : Option (List ℕ)) (front left whole : List ℕ) → front ++ left ≡ whole → IsFront (grown begun front) (grown begun whole)
front_of_whole begun front left whole is = front_by (grown begun front) (grown begun whole) left (sym (grown_then begun front left ∙ ap (grown begun) is))

-- a front part of what stands in the middle, and what is left of the whole
pub front_in_parts : (head front left middle tail : List ℕ) → front ++ left ≡ middle → (head ++ front) ++ (left ++ tail) ≡ head ++ (middle ++ tail)
front_in_parts head front left middle tail is =
    append_assoc head front (left ++ tail) ∙ ap (λ (l : List ℕ). head ++ l) (sym (append_assoc front left tail) ∙ ap (λ (l : List ℕ). l ++ tail) is)

-- ---- files after files

pub all_grown : (old : Option (List ℕ)) (files more : List NamedFile) → grown (grown old (listing files)) (listing more) ≡ grown old (listing (files ++ more))
all_grown old files more =
    grown_then old (listing files) (listing more) ∙ ap (grown old) (sym (flat_map-append (λ (file : NamedFile). opening file.name ++ file.bytes) files more))

-- the journal's file was written after the others
pub with_journal_written : (files : List NamedFile) (text : List ℕ) (old mid new : Option (List ℕ)) → mid ≡ grown old (listing files)
    → new ≡ grown mid (listing (journal_file text ∷ [])) → new ≡ grown old (listing (and_journal files text))
with_journal_written files text old mid new first last =
    last ∙ ap (λ (m : Option (List ℕ)). grown m (listing (journal_file text ∷ []))) first ∙ all_grown old files (journal_file text ∷ [])

-- where the files are of bytes, and the journal's is
pub bytes_with_journal : (files : List NamedFile) (text : List ℕ) → AllByRecursion IsOfBytes files → IsOfBytes (journal_file text) → AllByRecursion IsOfBytes (and_journal files text)
bytes_with_journal [] text all last = (last, tt)
bytes_with_journal (file ∷ files) text all last = (all.0, bytes_with_journal files text all.1 last)

-- where files are cut, more would have come after them
cut_more : (name : List ℕ) (old new : Option (List ℕ)) (files more : List NamedFile) → IsCutAt name old new files → IsCutAt name old new (files ++ more)
cut_more name old new files more c =
    let file : NamedFile = record { name = name; bytes = c.bytes } in
    record {
      before = c.before;
      bytes = c.bytes;
      others = c.others ++ more;
      order = ap (λ (fs : List NamedFile). fs ++ more) c.order ∙ append_assoc c.before (file ∷ c.others) more;
      whole = c.whole;
      front = c.front;
    }

-- the journal's file was cut, and those before it are whole
cut_last : (files : List NamedFile) (text : List ℕ) (old mid new : Option (List ℕ)) → mid ≡ grown old (listing files) → IsFront mid new
    → IsFront new (grown mid (listing (journal_file text ∷ []))) → IsCutAt journal_name old new (and_journal files text)
cut_last files text old mid new first kept front = record {
  before = files;
  bytes = text;
  others = [];
  order = refl;
  whole = subst (λ (m : Option (List ℕ)). IsFront m new) first kept;
  front = subst (λ (m : Option (List ℕ)). IsFront new m)
      (ap (λ (m : Option (List ℕ)). grown m (listing (journal_file text ∷ []))) first ∙ all_grown old files (journal_file text ∷ [])) front;
}

-- ---- faults of the writing

-- a fault before the journal's file
pub cut_before_journal : (files : List NamedFile) (text : List ℕ) (old new : Option (List ℕ)) (fault : ServeFault)
    → (((name : List ℕ) → fault ≢ Close (Write name)) → new ≡ old) → IsCutWriting files old new fault → IsCutFiles true (and_journal files text) old new fault
cut_before_journal files text old new (Close (Write name)) begun cut = inl (cut_more name old new files (journal_file text ∷ []) cut)
cut_before_journal files text old new NoMemory begun cut = inl (begun (λ name e. absurd cc))
cut_before_journal files text old new fault begun cut = tt

-- a fault in the journal's file
pub cut_in_journal : (files : List NamedFile) (text : List ℕ) (old mid new : Option (List ℕ)) (fault : ServeFault) → IsJournalFault fault → mid ≡ grown old (listing files) → IsFront mid new
    → IsFront new (grown mid (listing (journal_file text ∷ []))) → IsCutFiles true (and_journal files text) old new fault
cut_in_journal files text old mid new (Close (Write name)) why first kept front =
    inl (subst (λ (n : List ℕ). IsCutAt n old new (and_journal files text)) (sym why) (cut_last files text old mid new first kept front))
cut_in_journal files text old mid new NoMemory why first kept front = inr (refl, cut_last files text old mid new first kept front)
cut_in_journal files text old mid new fault why first kept front = absurd why

-- all are held back, since the journal's text is too long
pub held_back : (files : List NamedFile) (text name : List ℕ) (old new : Option (List ℕ)) → name ≡ journal_name → MAX_FILE_BYTES < length text → new ≡ old
    → IsCutFiles true (and_journal files text) old new (Close (Write name))
held_back files text name old new is long unwritten = inr (refl, record { name_is = is; others = files; text = text; files_are = refl; long = long; unwritten = unwritten })

-- it is one of the writing
pub journal_fault : (year : ℕ) (tables : List ClosedTable) (fault : ServeFault) → IsJournalFault fault → IsWriteFault year tables fault
journal_fault year tables (Close (Write name)) why = tt
journal_fault year tables NoMemory why = tt
journal_fault year tables fault why = absurd why

-- it is no other than a failure of the folder, or want of memory
pub no_other_fault : (fault : ServeFault) (P : Type 0) → IsJournalFault fault → fault ≢ NoMemory → ((name : List ℕ) → fault ≢ Close (Write name)) → P
no_other_fault (Close (Write name)) P why some unwritten = absurd (unwritten name refl)
no_other_fault NoMemory P why some unwritten = absurd (some refl)
no_other_fault fault P why some unwritten = absurd why

-- where memory was refused no file was begun, and so the folder has not failed
pub unfailed_unbegun : {T Folder Count : Type 0} (failures : Folder → Count) (old new : Folder) (r : Result T ServeFault) (fault : ServeFault) → IsErrAnd r (λ y. y ≡ fault)
    → (((name : List ℕ) → fault ≢ Close (Write name)) → new ≡ old) → r ≡ Err NoMemory → failures new ≡ failures old
unfailed_unbegun failures old new (Ok x) fault is begun refused = absurd is
unfailed_unbegun failures old new (Err y) fault is begun refused = ap failures (begun (λ name e. absurd cc))

-- ---- the text

-- what stands before, the entries' lines, and what stands after them
pub text_parts : (read : List FileSum) (reindex : Bool) (journal : List Entry) (wrote : List NamedFile)
    → head_and read reindex (length journal) [] ++ (journal_text journal ++ tail_text (map sum_of_named wrote)) ≡ whole_text (told_run read reindex journal wrote)
text_parts read reindex journal wrote =
    let tail = tail_text (map sum_of_named wrote) in
    head_then read reindex (length journal) [] (journal_text journal ++ tail)
    ∙ ap (λ (l : List ℕ). head_and read reindex (length journal) l) (lines_then (map line_parts journal) [] tail)
    ∙ ap (λ (n : ℕ). head_and read reindex n (lines_and (map line_parts journal) tail)) (sym (length-map journal line_parts))

-- so the parts are those of a run's journal
pub parts_of_run : (read : List FileSum) (reindex : Bool) (journal : List Entry) (wrote : List NamedFile) (sums : List FileSum) (count : ℕ) (head tail : List ℕ)
    → sums ≡ map sum_of_named wrote → count ≡ length journal → head ≡ head_and read reindex count [] → tail ≡ tail_text sums
    → head ++ (journal_text journal ++ tail) ≡ run_text read reindex journal wrote
parts_of_run read reindex journal wrote sums count head tail are counted head_is tail_is =
    (λ j. (head_is ∙ ap (λ (n : ℕ). head_and read reindex n []) counted) j ++ (journal_text journal ++ (tail_is ∙ ap tail_text are) j)) ∙ text_parts read reindex journal wrote

-- lines can tell it
pub run_can_be_told : (reindex : Bool) (journal : List Entry) (wrote : List NamedFile) (read sums : List FileSum) → AllByRecursion IsSum read → AllByRecursion IsSum sums → sums ≡ map sum_of_named wrote
    → HaveSmallNumbers (map line_parts journal) → length journal < 2 ^ 64 → CanBeTold (told_run read reindex journal wrote)
run_can_be_told reindex journal wrote read sums small written are entries few = record {
  read = small;
  few = subst (λ (n : ℕ). n < 2 ^ 64) (sym (length-map journal line_parts)) few;
  entries = entries;
  wrote = subst (λ (s : List FileSum). AllByRecursion IsSum s) are written;
}
