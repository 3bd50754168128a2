-- How a call of the program comes to its end: what it has written, and why it has not.
use Rattle.std.specs.Prelude.{◌≡◌, ◌⊎◌, ℕ, true, false, List, [], Option, None, Some, Result, IsErrAnd, option_copied}
use Rattle.program_frame.specs.InputDays.{FileAnswers}
use Rattle.program_frame.specs.declared.ending.Ending.{Ending}
use Rattle.program_frame.specs.declared.ending.Ending.TheVariants.{Failed}
use Rattle.folders.specs.declared.named.NamedFile.{NamedFile}
use Rattle.folders.specs.declared.source.LoadFault.{LoadFault}
use Rattle.files_in_place.specs.Disk.{DiskMeaning}
use Rattle.folders.specs.Files.{load_refusal, IsUnrecovered}
use Rattle.folders.specs.Paths.{folder_of_path}
use Rattle.tool_program.specs.declared.checking.CheckFault.{CheckFault}
use Rattle.tool_program.specs.declared.checking.CheckFault.TheVariants as check
use Rattle.tool_program.specs.declared.fault.ToolFault.{ToolFault}
use Rattle.tool_program.specs.declared.asked.Asked.{Asked}
use Rattle.tool_program.specs.declared.asked.Asked.TheVariants.{Show, Check, Make, Load, Index, Diff, Answers}
use Rattle.tool_program.specs.declared.asked.CheckOptions.{CheckOptions}
use Rattle.tool_program.specs.declared.asked.DiffOptions.{DiffOptions}
use Rattle.tool_program.specs.declared.asked.AnswersOptions.{AnswersOptions}
use Rattle.tool_program.specs.declared.journal.AnswersFault.{AnswersFault}
use Rattle.tool_program.specs.declared.comparing.CompareFault.{CompareFault}
use Rattle.tool_program.specs.declared.asked.Options.{Options}
use Rattle.tool_program.specs.declared.report.ToolReport.{ToolReport}
use Rattle.tool_program.specs.declared.report.ToolReport.TheVariants.{Good, Loaded, NotOpened, Differ, Refused, Unread}
use Rattle.tool_program.specs.declared.showing.ShowFault.{ShowFault}
use Rattle.tool_program.specs.declared.showing.ShowFault.TheVariants as show
use Rattle.tool_program.specs.Check.{check_load_fault, IsTold, IsVerdict, Loads, TellsBadLine}
use Rattle.tool_program.specs.Command.{IsAskedIn, IsWhyNotRead}
use Rattle.tool_program.specs.Comparison.{AreCompared, IsWhyUncompared}
use Rattle.tool_program.specs.Faults.{path_at_fault, IsToolFaultOf, IsToolFaultOfAnswers, IsToolFaultOfDiff, IsToolFaultOfSetup}
use Rattle.table_reader.specs.Memos.{IsMemosFault, IsNotHad, IsWhyUnread}
use Rattle.tool_program.specs.JournalShown.{answers_refusal, AreAnswersShown, IsWhyNotShown}
use Rattle.table_maker.specs.Placing.{HasFailed}
use Rattle.tool_program.specs.TableLoaded.{IsLoadPlacedBy, IsLoadTakenBy, IsWhyNoTableLoaded}
use Rattle.tool_program.specs.TableIndexed.{IsIndexPlacedBy, IsIndexTakenBy, IsWhyNoIndexMade}
use Rattle.tool_program.specs.TableMade.{IsPlacedBy, IsTakenBy, IsWhyNoTableMade}
use Rattle.table_reader.specs.TableFiles.{IsNoTable}
use Rattle.tool_program.specs.View.{IsNoOrder, IsShown}

-- the exit status of a call that came to its end: 2 for a setup that the server would not open, 1 for tables that differ and for
-- answers that are refusals
abbrev pub report_status : ToolReport → ℕ
report_status Good = 0
report_status (Loaded told) = 0
report_status NotOpened = 2
report_status Differ = 1
report_status Refused = 1
report_status Unread = 0

-- what is said besides: of records that are loaded, which indexes don't fit the new table
abbrev pub report_aside : ToolReport → List ℕ
report_aside (Loaded told) = told
report_aside report = []

-- ---- what was written

-- a table was shown, or nobody reads the output any more
abbrev pub IsShownAs : Option (List NamedFile) → Options → Option (List ℕ) → Option (List ℕ) → ToolReport → Type 0
IsShownAs files options old new Good = IsShown files options old new
IsShownAs files options old new (Loaded told) = ⊥
IsShownAs files options old new NotOpened = ⊥
IsShownAs files options old new Differ = ⊥
IsShownAs files options old new Refused = ⊥
IsShownAs files options old new Unread = Unit {0}

-- all was said of a setup: the server would open it, or would not
abbrev pub IsCheckedAs : Option (List NamedFile) → Loads → CheckOptions → Option (List ℕ) → Option (List ℕ) → ToolReport → Type 0
IsCheckedAs files loads options old new Good =
    IsTold files loads options.setup.now options.bad_lines true old new × IsVerdict files loads options.setup.now true
IsCheckedAs files loads options old new NotOpened =
    IsTold files loads options.setup.now options.bad_lines false old new × IsVerdict files loads options.setup.now false
IsCheckedAs files loads options old new (Loaded told) = ⊥
IsCheckedAs files loads options old new Differ = ⊥
IsCheckedAs files loads options old new Refused = ⊥
IsCheckedAs files loads options old new Unread = Unit {0}

-- two tables were compared: they are the same, or differ
abbrev pub IsComparedAs : Option (List NamedFile) → DiffOptions → Option (List ℕ) → Option (List ℕ) → ToolReport → Type 0
IsComparedAs files options old new Good = AreCompared files options false old new
IsComparedAs files options old new (Loaded told) = ⊥
IsComparedAs files options old new NotOpened = ⊥
IsComparedAs files options old new Differ = AreCompared files options true old new
IsComparedAs files options old new Refused = ⊥
IsComparedAs files options old new Unread = Unit {0}

-- the answers of a journal were shown: none is a refusal, or some are
abbrev pub AreAnswersShownAs : Option (List NamedFile) → AnswersOptions → Option (List ℕ) → Option (List ℕ) → ToolReport → Type 0
AreAnswersShownAs files options old new Good = AreAnswersShown files options false old new
AreAnswersShownAs files options old new (Loaded told) = ⊥
AreAnswersShownAs files options old new NotOpened = ⊥
AreAnswersShownAs files options old new Differ = ⊥
AreAnswersShownAs files options old new Refused = AreAnswersShown files options true old new
AreAnswersShownAs files options old new Unread = Unit {0}

-- a table or an index was made, of which nothing is written
abbrev pub IsMadeAs : Option (List ℕ) → Option (List ℕ) → ToolReport → Type 0
IsMadeAs old new report = (report ≡ Good) × (new ≡ old)

-- the report is that of records that are loaded
abbrev pub IsOfLoaded : ToolReport → Type 0
IsOfLoaded (Loaded told) = Unit {0}
IsOfLoaded report = ⊥

-- records were loaded, of which nothing is written
abbrev pub IsLoadedAs : Option (List ℕ) → Option (List ℕ) → ToolReport → Type 0
IsLoadedAs old new report = IsOfLoaded report × (new ≡ old)

-- what is asked for was written, over these files, after what the output had; `loads` says of what was read of a setup's entries what
-- happened to the count of loads that failed
abbrev pub IsAnswered : Option (List NamedFile) → Loads → Asked → Option (List ℕ) → Option (List ℕ) → ToolReport → Type 0
IsAnswered files loads (Show options) = IsShownAs files options
IsAnswered files loads (Check options) = IsCheckedAs files loads options
IsAnswered files loads (Make options) = IsMadeAs
IsAnswered files loads (Load options) = IsLoadedAs
IsAnswered files loads (Index options) = IsMadeAs
IsAnswered files loads (Diff options) = IsComparedAs files options
IsAnswered files loads (Answers options) = AreAnswersShownAs files options

-- what these words ask for was written
abbrev pub IsAnsweredTo : List (List ℕ) → Option (List NamedFile) → Loads → Option (List ℕ) → Option (List ℕ) → ToolReport → Type 0
IsAnsweredTo words files loads old new report = (asked : Asked) × IsAskedIn words asked × IsAnswered files loads asked old new report

-- a table or an index that is asked for was put into its folder, where a folder of a path is opened so, and a system has answered so
abbrev pub IsPlacedIn : {D : Type 0} → DiskMeaning D → (List ℕ → D → Type 0) → FileAnswers → Option (List NamedFile) → Asked → Type 0
IsPlacedIn {D} m opens answers files (Make options) = IsPlacedBy m (opens (folder_of_path options.out.now)) answers files options
IsPlacedIn {D} m opens answers files (Load options) = IsLoadPlacedBy m (opens (folder_of_path options.out.now)) answers files options
IsPlacedIn {D} m opens answers files (Index options) = IsIndexPlacedBy m (opens (folder_of_path options.out.now)) answers files options
IsPlacedIn {D} m opens answers files asked = Unit {0}

-- a table that these words ask for was put into its folder
abbrev pub IsPlacedTo : {D : Type 0} → DiskMeaning D → (List ℕ → D → Type 0) → FileAnswers → Option (List NamedFile) → List (List ℕ) → Type 0
IsPlacedTo {D} m opens answers files words = (asked : Asked) × IsAskedIn words asked × IsPlacedIn m opens answers files asked

-- a file stood in the way of a table that is asked for
abbrev pub IsTakenIn : {D : Type 0} → DiskMeaning D → (List ℕ → D → Type 0) → Asked → Type 0
IsTakenIn {D} m opens (Make options) = IsTakenBy m (opens (folder_of_path options.out.now)) options
IsTakenIn {D} m opens asked = Unit {0}

-- a file stood in the way of a table that these words ask for
abbrev pub IsTakenTo : {D : Type 0} → DiskMeaning D → (List ℕ → D → Type 0) → List (List ℕ) → Type 0
IsTakenTo {D} m opens words = (asked : Asked) × IsAskedIn words asked × IsTakenIn m opens asked

-- a file stood in the way of the new table of records that are loaded
abbrev pub IsLoadTakenIn : {D : Type 0} → DiskMeaning D → (List ℕ → D → Type 0) → Asked → Type 0
IsLoadTakenIn {D} m opens (Load options) = IsLoadTakenBy m (opens (folder_of_path options.out.now)) options
IsLoadTakenIn {D} m opens asked = Unit {0}

-- a file stood in the way of the new table of records that these words ask to load
abbrev pub IsLoadTakenTo : {D : Type 0} → DiskMeaning D → (List ℕ → D → Type 0) → List (List ℕ) → Type 0
IsLoadTakenTo {D} m opens words = (asked : Asked) × IsAskedIn words asked × IsLoadTakenIn m opens asked

-- a file stood in the way of an index that is asked for
abbrev pub IsIndexTakenIn : {D : Type 0} → DiskMeaning D → (List ℕ → D → Type 0) → Asked → Type 0
IsIndexTakenIn {D} m opens (Index options) = IsIndexTakenBy m (opens (folder_of_path options.out.now)) options
IsIndexTakenIn {D} m opens asked = Unit {0}

-- and of one that these words ask for
abbrev pub IsIndexTakenTo : {D : Type 0} → DiskMeaning D → (List ℕ → D → Type 0) → List (List ℕ) → Type 0
IsIndexTakenTo {D} m opens words = (asked : Asked) × IsAskedIn words asked × IsIndexTakenIn m opens asked

-- a call of the disk of the folder for a table or an index that is asked for has failed, where a folder of a path is opened so
abbrev pub HasFailedIn : {D : Type 0} → DiskMeaning D → (List ℕ → D → Type 0) → Asked → Type 0
HasFailedIn {D} m opens (Make options) = HasFailed m (opens (folder_of_path options.out.now))
HasFailedIn {D} m opens (Load options) = HasFailed m (opens (folder_of_path options.out.now))
HasFailedIn {D} m opens (Index options) = HasFailed m (opens (folder_of_path options.out.now))
HasFailedIn {D} m opens asked = Unit {0}

-- a call of the disk of the folder for a table that these words ask for has failed
abbrev pub HasFailedTo : {D : Type 0} → DiskMeaning D → (List ℕ → D → Type 0) → List (List ℕ) → Type 0
HasFailedTo {D} m opens words = (asked : Asked) × IsAskedIn words asked × HasFailedIn m opens asked

-- ---- why it was not

-- why no load can give the file that is asked for, of two tables the old one, of a journal where the number of a station is one; of a list
-- of fields, a text of CSV and the table of an index it is not said, since the folder comes first
abbrev pub asked_refusal : Option (List NamedFile) → Asked → Option LoadFault
asked_refusal files (Show options) = load_refusal files options.table.now
asked_refusal files (Check options) = load_refusal files options.setup.now
asked_refusal files (Make options) = None
asked_refusal files (Load options) = None
asked_refusal files (Index options) = None
asked_refusal files (Diff options) = load_refusal files options.old_table.now
asked_refusal files (Answers options) = answers_refusal files options

-- the fault says why no load gives the file that is asked for
abbrev pub IsToldUnloaded : Asked → LoadFault → ToolFault → Type 0
IsToldUnloaded (Show options) why = IsToolFaultOf (show.Load why) options.table.now
IsToldUnloaded (Check options) why = IsToolFaultOfSetup (check_load_fault why) options.setup.now
IsToldUnloaded (Make options) why = λ fault. ⊥
IsToldUnloaded (Load options) why = λ fault. ⊥
IsToldUnloaded (Index options) why = λ fault. ⊥
IsToldUnloaded (Diff options) why = IsToolFaultOf (show.Load why) options.old_table.now
IsToldUnloaded (Answers options) why = IsToolFaultOf (show.Load why) options.journal.now

-- and so does an ending
abbrev pub IsEndedUnloaded : Asked → LoadFault → Ending ToolFault → Type 0
IsEndedUnloaded asked why (Failed fault) = IsToldUnloaded asked why fault
IsEndedUnloaded asked why ending = ⊥

-- The words are not read, for this ending; or they are, and where no load gives the file that they ask for, the ending says why.
abbrev pub IsToldFirst : List (List ℕ) → Option (List NamedFile) → Result ToolReport (Ending ToolFault) → Type 0
IsToldFirst words files ended =
    IsErrAnd ended (IsWhyNotRead words)
    ⊎ ((asked : Asked) × IsAskedIn words asked × ((why : LoadFault) → asked_refusal files asked ≡ Some why → IsErrAnd ended (IsEndedUnloaded asked why)))

-- what a fault of showing a table says is true of its files, between these counts of failed loads
abbrev pub IsTrueOfTable : Option (List NamedFile) → Option ℕ → Option ℕ → Options → ShowFault → Type 0
IsTrueOfTable files before after options (show.Load why) = IsWhyUnread files (IsNotHad files before after) options.table.now why
IsTrueOfTable files before after options (show.Memos why) = IsMemosFault files (IsNotHad files before after) options.table.now (option_copied options.memos) why
IsTrueOfTable files before after options (show.Table why) = IsNoTable files (IsNotHad files before after) options.table.now (option_copied options.memos) why
IsTrueOfTable files before after options (show.Order why) = IsNoOrder files before after options why
IsTrueOfTable files before after options (show.Text why) = Unit {0}

-- why a table was not shown, or not all of it: a fault that is true of its files, told with the path of the file that it is one of
abbrev pub IsWhyUnshown : Option (List NamedFile) → Option ℕ → Option ℕ → Options → ToolFault → Type 0
IsWhyUnshown files before after options fault = (why : ShowFault) × IsToolFaultOf why (path_at_fault options why) fault × IsTrueOfTable files before after options why

-- what a fault of checking a setup says is true of it
abbrev pub IsTrueOfSetup : Option (List NamedFile) → (List ℕ → Type 0) → List ℕ → CheckFault → Type 0
IsTrueOfSetup files unread path check.CannotRead = unread path
IsTrueOfSetup files unread path check.Unrecovered = IsUnrecovered files path
IsTrueOfSetup files unread path fault = TellsBadLine files path fault

-- why a setup was not checked, or not all was said of it
abbrev pub IsWhyUnchecked : Option (List NamedFile) → (List ℕ → Type 0) → List ℕ → ToolFault → Type 0
IsWhyUnchecked files unread path fault = (why : CheckFault) × IsToolFaultOfSetup why path fault × IsTrueOfSetup files unread path why

-- why two tables were not compared, or not all was told of them
abbrev pub IsWhyNoDiff : Option (List NamedFile) → Option ℕ → Option ℕ → DiffOptions → ToolFault → Type 0
IsWhyNoDiff files before after options fault =
    (why : CompareFault) × IsToolFaultOfDiff why fault × IsWhyUncompared files before after options why

-- why the answers of a journal were not shown, or not all
abbrev pub IsWhyNoAnswers : Option (List NamedFile) → Option ℕ → Option ℕ → AnswersOptions → ToolFault → Type 0
IsWhyNoAnswers files before after options fault =
    (why : AnswersFault) × IsToolFaultOfAnswers why options.journal.now fault × IsWhyNotShown files before after options why

-- why what is asked for was not written, or not all of it, between these counts of failed loads; `unread` says of a path that its
-- file was not had
abbrev pub IsWhyUnanswered : Option (List NamedFile) → Option ℕ → Option ℕ → Asked → ToolFault → Type 0
IsWhyUnanswered files before after (Show options) = IsWhyUnshown files before after options
IsWhyUnanswered files before after (Check options) = IsWhyUnchecked files (IsNotHad files before after) options.setup.now
IsWhyUnanswered files before after (Make options) = IsWhyNoTableMade files options
IsWhyUnanswered files before after (Load options) = IsWhyNoTableLoaded files options
IsWhyUnanswered files before after (Index options) = IsWhyNoIndexMade files options
IsWhyUnanswered files before after (Diff options) = IsWhyNoDiff files before after options
IsWhyUnanswered files before after (Answers options) = IsWhyNoAnswers files before after options

-- why what these words ask for was not written, or not all of it
abbrev pub IsWhyNotDone : List (List ℕ) → Option (List NamedFile) → Option ℕ → Option ℕ → Ending ToolFault → Type 0
IsWhyNotDone words files before after ending =
    IsWhyNotRead words ending
    ⊎ ((fault : ToolFault) × (asked : Asked) × (ending ≡ Failed fault) × IsAskedIn words asked × IsWhyUnanswered files before after asked fault)
