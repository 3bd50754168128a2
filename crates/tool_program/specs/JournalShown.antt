-- A journal whose answers are shown.
use Rattle.std.specs.Prelude.{◌≡◌, ◌↔◌, ℕ, Bool, true, false, List, Option, None, Some, option_copied, option_map}
use Rattle.byte_io.specs.Sink.{grown}
use Rattle.entry_text.specs.declared.entries.EntriesAsked.{EntriesAsked}
use Rattle.entry_text.specs.Layout.{entries_text, refused_count}
use Rattle.folders.specs.declared.named.NamedFile.{NamedFile}
use Rattle.folders.specs.declared.source.LoadFault.{LoadFault}
use Rattle.folders.specs.Files.{load_refusal, IsFileOf}
use Rattle.journal_file.specs.declared.cutting.JournalFault.{JournalFault}
use Rattle.journal_file.specs.declared.cutting.JournalFault.TheVariants as why_none
use Rattle.journal_file.specs.WholeText.{begins_as_journal, whole_text, CanBeTold, IsNotWhole, WholeJournal}
use Rattle.table_reader.specs.Memos.{IsNotHad, IsWhyUnread}
use Rattle.tool_program.specs.declared.asked.AnswersOptions.{AnswersOptions}
use Rattle.tool_program.specs.declared.journal.AnswersFault.{AnswersFault}
use Rattle.tool_program.specs.declared.journal.AnswersFault.TheVariants.{BadStation, Load, Journal, NoMemory, Sink}
use Rattle.tool_program.specs.Range.{record_number}

-- the station whose number a text is; all stations, where there is no text; none, where the text is no number
abbrev pub station_given : Option (List ℕ) → Option (Option ℕ)
station_given None = Some None
station_given (Some text) = option_map (λ n. Some n) (record_number text)

-- which entries are asked for
abbrev pub entries_asked : Option ℕ → Bool → EntriesAsked
entries_asked station refused_only = record { station = station; refused_only = refused_only }

-- the file of this path has the whole text of a journal, which tells this
pub record IsJournalIn (files : Option (List NamedFile)) (path : List ℕ) (journal : WholeJournal) : Type 0 where
  pub text : List ℕ
  pub found : IsFileOf files path text
  pub whole : CanBeTold journal
  pub text_is : text ≡ whole_text journal

-- What was written of the journal whose path the options give: the lines of the entries that are asked for, of all stations or of the one
-- whose number they give, all or the refused ones. `refused` says whether any of the station's is.
pub record AreAnswersShown (files : Option (List NamedFile)) (options : AnswersOptions) (refused : Bool) (old new : Option (List ℕ)) : Type 0 where
  pub station : Option ℕ
  pub given : station_given (option_copied options.station) ≡ Some station
  pub journal : WholeJournal
  pub in_file : IsJournalIn files options.journal.now journal
  pub wrote : new ≡ grown old (entries_text (entries_asked station options.refused_only) journal.entries)
  pub none_refused : refused ≡ false ↔ refused_count (entries_asked station options.refused_only) journal.entries ≡ 0

-- why the file of a path was not loaded
abbrev pub IsWhyNotLoaded : Option (List NamedFile) → Option ℕ → Option ℕ → List ℕ → AnswersFault → Type 0
IsWhyNotLoaded files before after path (Load why) = IsWhyUnread files (IsNotHad files before after) path why
IsWhyNotLoaded files before after path fault = ⊥

-- a text is no whole journal: it begins as one, and is cut, or it does not
abbrev pub IsNoJournal : List ℕ → JournalFault → Type 0
IsNoJournal text why_none.Cut = IsNotWhole text × (begins_as_journal text ≡ true)
IsNoJournal text why_none.NoJournal = IsNotWhole text × (begins_as_journal text ≡ false)

-- Why the answers were not shown, or not all. Of want of memory for the text, and of a sink that failed, it is said only of a journal.
abbrev pub IsWhyNotShown : Option (List NamedFile) → Option ℕ → Option ℕ → AnswersOptions → AnswersFault → Type 0
IsWhyNotShown files before after options BadStation = station_given (option_copied options.station) ≡ None
IsWhyNotShown files before after options (Load why) = IsWhyUnread files (IsNotHad files before after) options.journal.now why
IsWhyNotShown files before after options (Journal why) = (text : List ℕ) × IsFileOf files options.journal.now text × IsNoJournal text why
IsWhyNotShown files before after options NoMemory = (journal : WholeJournal) × IsJournalIn files options.journal.now journal
IsWhyNotShown files before after options Sink = (journal : WholeJournal) × IsJournalIn files options.journal.now journal

-- why no load can give a file, where the number of a station is one
abbrev pub where_given : Option (Option ℕ) → Option LoadFault → Option LoadFault
where_given None refusal = None
where_given (Some station) refusal = refusal

-- why no load can give the journal of the options, where the number of the station is one
abbrev pub answers_refusal : Option (List NamedFile) → AnswersOptions → Option LoadFault
answers_refusal files options = where_given (station_given (option_copied options.station)) (load_refusal files options.journal.now)
