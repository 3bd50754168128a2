-- The files of a day's end, as they are written, and in their places.
use Rattle.std.proofs.Common.{◌≡◌, ◌≢◌, ◌∙◌, ℕ, List, [], ◌∷◌, ◌++◌, length, Option, Some, None, ap, subst, refl, inl, inr, arith}
use Rattle.catalogue_core.specs.declared.entry.Entry.{Entry}
use Rattle.std.specs.List.{AllByRecursion}
use Rattle.byte_io.specs.Sink.{grown}
use Rattle.catalogue_core.specs.Replay.{History}
use Rattle.dbf_fields.specs.declared.day.Day.{Day}
use Rattle.files_in_place.specs.Folder.{Folder}
use Rattle.files_in_place.specs.Recovery.{RecoversTo}
use Rattle.folders.specs.declared.named.NamedFile.{NamedFile}
use Rattle.folders.specs.Files.{files_in, listing, IsOfBytes}
use Rattle.folders.specs.Placed.{with_files, IsOldOrPlaced, IsPlaced}
use Rattle.folders.proofs.ListingLaws.{files_again}
use Rattle.journal_file.specs.declared.sum.FileSum.{FileSum}
use Rattle.office_run.specs.TablesWritten.{dated_files, AreTablesWritten}
use Rattle.live_program.specs.Closings.{answer_files_of, closed_log_file, AreDayWritten, AreFilesWritten, IsDayPlaced, IsOldOrDay}
use Rattle.live_program.specs.declared.closing.DayEnd.{DayEnd}
use Rattle.live_program.proofs.FileLaws.{all_then, listed_then}

-- the tables' files, then those of the answers, then the closed log
pub files_written : (h : History) (today : Day) (old a b new : Option (List ℕ)) (sums : List FileSum) (count : ℕ) → AreTablesWritten h today old a sums
    → b ≡ grown a (listing (answer_files_of h.opened.stations h.journal)) → AllByRecursion IsOfBytes (answer_files_of h.opened.stations h.journal)
    → new ≡ grown b (listing (closed_log_file count)) → AllByRecursion IsOfBytes (closed_log_file count) → count ≡ length h.journal → AreFilesWritten h today old new
files_written h today old a b new sums count tables answers of_answers log of_log is =
    let dated : List NamedFile = dated_files today tables.tables in
    let answered : List NamedFile = answer_files_of h.opened.stations h.journal in
    let closed : List NamedFile = closed_log_file count in
    let files : List NamedFile = dated ++ (answered ++ closed) in
    let rest : new ≡ grown a (listing (answered ++ closed)) = listed_then a b new answered closed answers log in
    record {
      files = files;
      such = record { tables = tables.tables; handed = tables.handed; few_blocks = tables.few_blocks; files_are = ap (λ (n : ℕ). dated ++ (answered ++ closed_log_file n)) is };
      written = listed_then old a new dated (answered ++ closed) tables.written rest;
      told = files_again files (all_then IsOfBytes dated (answered ++ closed) tables.bytes (all_then IsOfBytes answered closed of_answers of_log));
    }

no_entry : (es : List Entry) → length es ≡ 0 → es ≡ []
no_entry [] none = refl
no_entry (e ∷ es) none = absurd (omega arith)

-- of a day without a command the closed log alone
pub log_written : (h : History) (end : DayEnd) (old new : Option (List ℕ)) → length h.journal ≡ 0 → new ≡ grown old (listing (closed_log_file end.earlier)) → AllByRecursion IsOfBytes (closed_log_file end.earlier)
    → AreDayWritten h end old new
log_written h end old new none log of_log = record {
  files = closed_log_file end.earlier;
  such = inl (no_entry h.journal none, refl);
  written = log;
  told = files_again (closed_log_file end.earlier) of_log;
}

-- and of one with commands all files
pub day_written : (h : History) (end : DayEnd) (old new : Option (List ℕ)) → length h.journal ≢ 0 → AreFilesWritten h end.today old new → AreDayWritten h end old new
day_written h end old new some all = record {
  files = all.files;
  such = inr (λ (none : h.journal ≡ []). some (ap length none), all.such);
  written = all.written;
  told = all.told;
}

some_is : (a b : List ℕ) → Some a ≡ Some b → a ≡ b
some_is a b same = ap (λ (o : Option (List ℕ)). elim o [ Some m ↦ m | None ↦ a ]) same

count_is : (a b : ℕ) → Some a ≡ Some b → a ≡ b
count_is a b same = ap (λ (o : Option ℕ). elim o [ Some m ↦ m | None ↦ a ]) same

-- no call has failed since there was none
pub none_failed : (now begun : ℕ) → Some now ≡ Some begun → begun ≡ 0 → now ≡ 0
none_failed now begun same none = count_is now begun same ∙ none

-- there was nothing before
pub written_alone : (h : History) (end : DayEnd) (begun now : List ℕ) → begun ≡ [] → AreDayWritten h end (Some begun) (Some now) → AreDayWritten h end (Some []) (Some now)
written_alone h end begun now none day = subst (λ (old : List ℕ). AreDayWritten h end (Some old) (Some now)) none day

-- What was written on an empty list is these files.
told_files : (h : History) (end : DayEnd) (written : List ℕ) (day : AreDayWritten h end (Some []) (Some written)) → files_in written ≡ day.files
unfolding grown
told_files h end written day = ap files_in (some_is written (listing day.files) day.written) ∙ day.told

pub day_placed : (h : History) (end : DayEnd) (written : List ℕ) (old new : Folder) → AreDayWritten h end (Some []) (Some written) → IsPlaced written old new → IsDayPlaced h end old new
day_placed h end written old new day placed = record {
  files = day.files;
  such = day.such;
  placed = λ n. placed n ∙ ap (λ (files : List NamedFile). with_files files old n) (told_files h end written day);
}

-- the old files or the new ones, all of them
pub old_or_day : (h : History) (end : DayEnd) (written : List ℕ) (old left : Folder) → AreDayWritten h end (Some []) (Some written) → IsOldOrPlaced written old left → IsOldOrDay h end old left
old_or_day h end written old left day (inl kept) = inl kept
old_or_day h end written old left day (inr placed) =
    inr (day.files, day.such, subst (λ (files : List NamedFile). RecoversTo (with_files files old) left) (told_files h end written day) placed)
