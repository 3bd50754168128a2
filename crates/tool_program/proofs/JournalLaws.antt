-- A journal whose answers are shown, or why they are not.
use Rattle.std.proofs.Common.{◌≡◌, ◌∙◌, ap, sym, subst, ℕ, Bool, true, false, List, Option, Some, Result, Ok, Err, IfErr, IsErrAnd, option_copied}
use Rattle.std.specs.Prelude.{◌↔◌}
use Rattle.byte_io.specs.Sink.{grown}
use Rattle.entry_text.specs.declared.counts.EntryCounts.{EntryCounts}
use Rattle.entry_text.specs.Layout.{counts_of, entries_text, AreLinesOf}
use Rattle.folders.specs.declared.named.NamedFile.{NamedFile}
use Rattle.folders.specs.Files.{IsFileOf}
use Rattle.journal_file.specs.declared.cutting.JournalFault.{JournalFault}
use Rattle.journal_file.specs.declared.cutting.JournalFault.TheVariants as why_none
use Rattle.journal_file.specs.declared.cutting.JournalParts.{JournalParts}
use Rattle.journal_file.specs.WholeText.{begins_as_journal, IsCutInto, IsNotWhole}
use Rattle.tool_program.specs.declared.asked.AnswersOptions.{AnswersOptions}
use Rattle.tool_program.specs.declared.journal.AnswersFault.{AnswersFault}
use Rattle.tool_program.specs.declared.journal.AnswersFault.TheVariants.{BadStation, Load, Journal, NoMemory, Sink}
use Rattle.tool_program.specs.JournalShown.{entries_asked, station_given, AreAnswersShown, IsJournalIn, IsNoJournal, IsWhyNotLoaded, IsWhyNotShown}

-- the parts of a text are those of a journal that is in the file
pub journal_in : (files : Option (List NamedFile)) (path text : List ℕ) (parts : JournalParts) → IsFileOf files path text → (cut : IsCutInto text parts)
    → IsJournalIn files path cut.journal
journal_in files path text parts found cut = record { text = text; found = found; whole = cut.whole; text_is = cut.text_is }

-- its lines are those of the journal's entries
lines_of_entries : (text : List ℕ) (parts : JournalParts) → (cut : IsCutInto text parts) → AreLinesOf cut.journal.entries parts.count parts.entries.now
lines_of_entries text parts cut = record { small = cut.whole.entries; counted = sym cut.count; is = cut.entries }

pub all_told : (files : Option (List NamedFile)) (options : AnswersOptions) (station : Option ℕ) (text shown : List ℕ) (parts : JournalParts)
    (counts : EntryCounts) (refused : Bool)
    (old new : Option (List ℕ)) → station_given (option_copied options.station) ≡ Some station → IsFileOf files options.journal.now text → IsCutInto text parts
    → ((entries : List (ℕ × List ℕ × List ℕ)) → AreLinesOf entries parts.count parts.entries.now
    → shown ≡ entries_text (entries_asked station options.refused_only) entries)
    → ((entries : List (ℕ × List ℕ × List ℕ)) → AreLinesOf entries parts.count parts.entries.now
    → counts ≡ counts_of (entries_asked station options.refused_only) entries)
    → new ≡ grown old shown → (refused ≡ false ↔ counts.refused ≡ 0) → AreAnswersShown files options refused old new
all_told files options station text shown parts counts refused old new given found cut shown_is counts_are new_is none =
    let are = lines_of_entries text parts cut in
    record {
      station = station;
      given = given;
      journal = cut.journal;
      in_file = journal_in files options.journal.now text parts found cut;
      wrote = new_is ∙ ap (grown old) (shown_is cut.journal.entries are);
      none_refused = subst (λ (c : EntryCounts). refused ≡ false ↔ c.refused ≡ 0) (counts_are cut.journal.entries are) none;
    }

-- ---- faults

pub unloaded : (files : Option (List NamedFile)) (before after : Option ℕ) (options : AnswersOptions) (fault : AnswersFault)
    → IsWhyNotLoaded files before after options.journal.now fault
    → IsWhyNotShown files before after options fault
unloaded files before after options BadStation h = absurd h
unloaded files before after options (Load why) h = h
unloaded files before after options (Journal why) h = absurd h
unloaded files before after options NoMemory h = absurd h
unloaded files before after options Sink h = absurd h

-- the fault of a text says why it is no journal
pub no_journal : {P : Type 0} (text : List ℕ) (cut : Result P JournalFault) (why : JournalFault) → cut ≡ Err why → IfErr cut (λ fault. IsNotWhole text)
    → (cut ≡ Err why_none.Cut → begins_as_journal text ≡ true) → (cut ≡ Err why_none.NoJournal → begins_as_journal text ≡ false) → IsNoJournal text why
no_journal {P} text cut why_none.Cut is not_whole begun other =
    (subst (λ (r : Result P JournalFault). IfErr r (λ fault. IsNotWhole text)) is not_whole, begun is)
no_journal {P} text cut why_none.NoJournal is not_whole begun other =
    (subst (λ (r : Result P JournalFault). IfErr r (λ fault. IsNotWhole text)) is not_whole, other is)

-- and a fault is told as what it is
pub told_as : {T : Type 0} (files : Option (List NamedFile)) (before after : Option ℕ) (options : AnswersOptions) (told : Result T AnswersFault)
    (why : AnswersFault)
    → IsErrAnd told (λ fault. fault ≡ why) → IsWhyNotShown files before after options why → IfErr told (IsWhyNotShown files before after options)
told_as files before after options (Ok done) why is h = tt
told_as files before after options (Err fault) why is h = subst (λ (f : AnswersFault). IsWhyNotShown files before after options f) (sym is) h
