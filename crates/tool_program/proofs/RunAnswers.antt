-- The journal of a run, as its answers are shown.
use Rattle.std.proofs.Common.{◌≡◌, ◌∙◌, ◌==◌, ℕ, Bool, true, false, cond, List, [], ◌∷◌, map, Option, Some, refl, ap, sym}
use Rattle.std.specs.Prelude.{filter}
use Rattle.byte_io.specs.Sink.{grown}
use Rattle.catalogue_core.specs.declared.entry.Entry.{Entry}
use Rattle.dbf_fields.specs.declared.day.Day.{Day}
use Rattle.entry_text.specs.Layout.{entries_text}
use Rattle.folders.specs.declared.named.NamedFile.{NamedFile}
use Rattle.folders.specs.Files.{IsFileOf}
use Rattle.journal_file.specs.declared.cutting.JournalFault.{JournalFault}
use Rattle.journal_file.specs.declared.cutting.JournalFault.TheVariants as why_none
use Rattle.journal_file.specs.WholeText.{IsNotWhole, WholeJournal}
use Rattle.journal_file.proofs.TextLaws.{whole_one}
use Rattle.office_run.specs.declared.counts.CommandCounts.{CommandCounts}
use Rattle.office_run.specs.Closing.{run_files}
use Rattle.office_run.specs.JournalFile.{told_run, IsJournalText}
use Rattle.office_run.specs.Served.{IsServed}
use Rattle.office_run.proofs.OneOpening.{one_file}
use Rattle.station_lines.specs.JournalLines.{line_parts}
use Rattle.tool_program.specs.declared.asked.AnswersOptions.{AnswersOptions}
use Rattle.tool_program.specs.JournalShown.{entries_asked, AreAnswersShown, IsNoJournal}
use Rattle.tool_program.specs.RunAnswers.{AsksForItsOwn, NeverCalledNone, ShowsAnswersOfRun}

module _ (files : Option (List NamedFile)) (setup : List ℕ) (reindex : Bool) (today : Day) (written : List NamedFile) (counts : CommandCounts)
    (served : IsServed files setup reindex today true written counts) where
  -- the text of the run's journal, and what it tells
  abbrev text_of_run : IsJournalText files setup reindex served.run.history.journal (run_files today served.tables served.answers) served.text
  text_of_run = (served.told_text refl).0

  abbrev told_of_run : WholeJournal
  told_of_run = told_run text_of_run.read reindex served.run.history.journal (run_files today served.tables served.answers)

  module _ (later : List NamedFile) (options : AnswersOptions) (there : IsFileOf (Some later) options.journal.now served.text) where
    pub shown_of_run : (refused : Bool) (old new : Option (List ℕ)) (shown : AreAnswersShown (Some later) options refused old new)
        → new ≡ grown old (entries_text (entries_asked shown.station options.refused_only) (map line_parts served.run.history.journal))
    shown_of_run refused old new shown =
        let same : served.text ≡ shown.in_file.text = one_file later options.journal.now served.text shown.in_file.text there shown.in_file.found in
        let one : told_of_run ≡ shown.journal =
        whole_one told_of_run shown.journal (served.told_text refl).1 shown.in_file.whole (sym text_of_run.text_is ∙ (same ∙ shown.in_file.text_is)) in
        shown.wrote ∙ ap (λ (j : WholeJournal). grown old (entries_text (entries_asked shown.station options.refused_only) j.entries)) (sym one)

    whole_there : (text : List ℕ) → IsFileOf (Some later) options.journal.now text → IsNotWhole text → ⊥
    whole_there text found not_whole =
        let same : served.text ≡ text = one_file later options.journal.now served.text text there found in
        not_whole told_of_run (served.told_text refl).1 (sym same ∙ text_of_run.text_is)

    pub never_none : (why : JournalFault) (text : List ℕ) → IsFileOf (Some later) options.journal.now text → IsNoJournal text why → ⊥
    never_none why_none.Cut text found said = whole_there text found said.0
    never_none why_none.NoJournal text found said = whole_there text found said.0

pub answers_of_run : (files : Option (List NamedFile)) (later : List NamedFile) (setup : List ℕ) → ShowsAnswersOfRun files later setup
answers_of_run files later setup options reindex today written counts served there refused old new shown =
    shown_of_run files setup reindex today written counts served later options there refused old new shown

pub never_called_none : (files : Option (List NamedFile)) (later : List NamedFile) (setup : List ℕ) → NeverCalledNone files later setup
never_called_none files later setup options reindex today written counts served there before after why none =
    never_none files setup reindex today written counts served later options there why none.0 none.1 none.2

-- ---- a station's own

one_more : (own : Bool) (e : Entry) (asked : List (ℕ × List ℕ × List ℕ)) (entries : List Entry) → asked ≡ map line_parts entries
    → cond own (line_parts e ∷ asked) asked ≡ map line_parts (cond own (e ∷ entries) entries)
one_more true e asked entries same = ap (λ (l : List (ℕ × List ℕ × List ℕ)). line_parts e ∷ l) same
one_more false e asked entries same = same

pub asks_for_its_own : (journal : List Entry) (station : ℕ) → AsksForItsOwn journal station
asks_for_its_own [] station refused_only = refl
asks_for_its_own (e ∷ es) station refused_only =
    one_more (e.station == station) e _ (filter (λ (x : Entry). x.station == station) es) (asks_for_its_own es station refused_only)
