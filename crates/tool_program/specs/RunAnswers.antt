-- The journal of a run, as its answers are shown.
use Rattle.std.specs.Prelude.{◌≡◌, ◌==◌, ℕ, Bool, true, List, map, filter, Option, Some}
use Rattle.byte_io.specs.Sink.{grown}
use Rattle.catalogue_core.specs.declared.entry.Entry.{Entry}
use Rattle.dbf_fields.specs.declared.day.Day.{Day}
use Rattle.entry_text.specs.Layout.{entries_text, is_asked}
use Rattle.folders.specs.declared.named.NamedFile.{NamedFile}
use Rattle.folders.specs.Files.{IsFileOf}
use Rattle.journal_file.specs.declared.cutting.JournalFault.{JournalFault}
use Rattle.office_run.specs.declared.counts.CommandCounts.{CommandCounts}
use Rattle.office_run.specs.Served.{IsServed}
use Rattle.station_lines.specs.JournalLines.{line_parts}
use Rattle.tool_program.specs.declared.asked.AnswersOptions.{AnswersOptions}
use Rattle.tool_program.specs.declared.journal.AnswersFault.TheVariants.{Journal}
use Rattle.tool_program.specs.JournalShown.{entries_asked, AreAnswersShown, IsWhyNotShown}

-- Where the file that the options name is the journal's of a run, the lines that are written are those of the entries of the run's
-- journal, that are asked for.
abbrev pub ShowsAnswersOfRun : Option (List NamedFile) → List NamedFile → List ℕ → Type 0
ShowsAnswersOfRun files later setup =
    (options : AnswersOptions) (reindex : Bool) (today : Day) (written : List NamedFile) (counts : CommandCounts)
    (served : IsServed files setup reindex today true written counts)
    → IsFileOf (Some later) options.journal.now served.text
    → (refused : Bool) (old new : Option (List ℕ)) (shown : AreAnswersShown (Some later) options refused old new)
    → new ≡ grown old (entries_text (entries_asked shown.station options.refused_only) (map line_parts served.run.history.journal))

-- It is never said that this file is no journal, or is cut.
abbrev pub NeverCalledNone : Option (List NamedFile) → List NamedFile → List ℕ → Type 0
NeverCalledNone files later setup =
    (options : AnswersOptions) (reindex : Bool) (today : Day) (written : List NamedFile) (counts : CommandCounts)
    (served : IsServed files setup reindex today true written counts)
    → IsFileOf (Some later) options.journal.now served.text
    → (before after : Option ℕ) (why : JournalFault) → ¬ IsWhyNotShown (Some later) before after options (Journal why)

-- The entries of a journal that are asked for with the number of a station are this station's own, in their order.
abbrev pub AsksForItsOwn : List Entry → ℕ → Type 0
AsksForItsOwn journal station =
    (refused_only : Bool)
    → filter (is_asked (entries_asked (Some station) refused_only)) (map line_parts journal) ≡ map line_parts (filter (λ e. e.station == station) journal)
