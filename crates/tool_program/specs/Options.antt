-- What a command line asks for, as `clap` has read it: of its sub-command, the name and a row for each option that is there.
use Rattle.std.specs.Prelude.{◌≡◌, ◌≢◌, ℕ, Bool, true, false, List, Option, Some, None, IsSome, codes, bytes_eq, option_copied, if◌then◌else◌}
use Rattle.clap.specs.Words.{Row, Text, first_of}
use Rattle.setup_check.specs.declared.scripts.BadLinesTold.{BadLinesTold}
use Rattle.setup_check.specs.declared.scripts.BadLinesTold.TheVariants.{Each, First}
use Rattle.program_frame.specs.CommandLine.{IsFlag}
use Rattle.table_text.specs.declared.memo_form.MemoForm.{MemoForm}
use Rattle.table_text.specs.declared.memo_form.MemoForm.TheVariants.{FirstLine, Whole}
use Rattle.table_text.specs.declared.selection.Selection.{Selection}
use Rattle.tool_program.specs.declared.asked.Asked.{Asked}
use Rattle.tool_program.specs.declared.asked.Asked.TheVariants.{Show, Check, Make, Load, Index, Diff, Answers}
use Rattle.tool_program.specs.declared.asked.CheckOptions.{CheckOptions}
use Rattle.tool_program.specs.declared.asked.AnswersOptions.{AnswersOptions}
use Rattle.tool_program.specs.declared.asked.DiffOptions.{DiffOptions}
use Rattle.tool_program.specs.declared.asked.IndexOptions.{IndexOptions}
use Rattle.tool_program.specs.declared.asked.LoadOptions.{LoadOptions}
use Rattle.tool_program.specs.declared.asked.MakeOptions.{MakeOptions}
use Rattle.tool_program.specs.declared.asked.Options.{Options}
use Rattle.tool_program.specs.declared.asked.View.{View}
use Rattle.tool_program.specs.declared.asked.View.TheVariants.{Records, Csv, Fields}
use Rattle.tool_program.specs.declared.range.TheConstants.{MAX_RECORD_NUMBER}
use Rattle.tool_program.specs.Range.{range_in}

-- the first and the last record of a range; all, where none is given
abbrev pub range_given : Option Text → Option (ℕ × ℕ)
range_given None = Some (1, MAX_RECORD_NUMBER)
range_given (Some text) = range_in text

-- the range of records that is given is none
abbrev pub HasBadRange : List Row → Type 0
HasBadRange rows = range_given (first_of (codes "records") rows) ≡ None

-- which records are asked for: those of `--records`, with `--deleted` the marked ones, too
pub record IsSelection (rows : List Row) (selection : Selection) : Type 0 where
  pub range : range_given (first_of (codes "records") rows) ≡ Some (selection.first, selection.last)
  pub deleted : IsFlag rows (codes "deleted") selection.with_deleted

-- memos are shown whole
abbrev pub shows_whole : MemoForm → Bool
shows_whole FirstLine = false
shows_whole Whole = true

-- each bad line of a script is told
abbrev pub is_each : BadLinesTold → Bool
is_each First = false
is_each Each = true

-- what the sub-command of a name shows of a table: its fields, its records as CSV, or, by any other, its records as people read them
abbrev pub IsView : Text → List Row → View → Type 0
IsView name rows Fields = name ≡ codes "fields"
IsView name rows (Csv selection deleted_column) =
    (name ≡ codes "csv") × IsSelection rows selection × IsFlag rows (codes "deleted-column") deleted_column
IsView name rows (Records selection memos) =
    (name ≢ codes "fields") × (name ≢ codes "csv") × IsSelection rows selection × IsFlag rows (codes "memos") (shows_whole memos)

-- what is asked for of a table
pub record IsOfTable (name : Text) (rows : List Row) (options : Options) : Type 0 where
  pub table : first_of (codes "table") rows ≡ Some options.table.now
  pub memos : first_of (codes "memo") rows ≡ option_copied options.memos
  pub order : first_of (codes "order") rows ≡ option_copied options.order
  pub from : first_of (codes "from") rows ≡ option_copied options.from
  pub view : IsView name rows options.view

-- what is asked for of a setup
pub record IsOfSetup (rows : List Row) (options : CheckOptions) : Type 0 where
  pub setup : first_of (codes "setup") rows ≡ Some options.setup.now
  pub lines : IsFlag rows (codes "lines") (is_each options.bad_lines)

-- what is asked for of a table that is made
pub record IsOfMake (rows : List Row) (options : MakeOptions) : Type 0 where
  pub list : first_of (codes "list") rows ≡ Some options.list.now
  pub out : first_of (codes "out") rows ≡ Some options.out.now
  pub today : first_of (codes "today") rows ≡ Some options.today.now
  pub replace : IsFlag rows (codes "replace") options.replace

-- what is asked for of records that are loaded
pub record IsOfLoad (rows : List Row) (options : LoadOptions) : Type 0 where
  pub csv : first_of (codes "csv") rows ≡ Some options.csv.now
  pub table : first_of (codes "into") rows ≡ Some options.table.now
  pub memos : first_of (codes "memo") rows ≡ option_copied options.memos
  pub out : first_of (codes "out") rows ≡ Some options.out.now
  pub today : first_of (codes "today") rows ≡ Some options.today.now
  pub dates : first_of (codes "dates") rows ≡ option_copied options.dates
  pub separator : first_of (codes "separator") rows ≡ option_copied options.separator
  pub cut : IsFlag rows (codes "cut") options.cut
  pub replace : IsFlag rows (codes "replace") options.replace

-- what is asked for of an index that is made
pub record IsOfIndex (rows : List Row) (options : IndexOptions) : Type 0 where
  pub table : first_of (codes "table") rows ≡ Some options.table.now
  pub memos : first_of (codes "memo") rows ≡ option_copied options.memos
  pub expression : first_of (codes "on") rows ≡ Some options.expression.now
  pub out : first_of (codes "out") rows ≡ Some options.out.now
  pub replace : IsFlag rows (codes "replace") options.replace

-- what is asked for of two tables that are compared
pub record IsOfDiff (rows : List Row) (options : DiffOptions) : Type 0 where
  pub old_table : first_of (codes "old") rows ≡ Some options.old_table.now
  pub new_table : first_of (codes "new") rows ≡ Some options.new_table.now
  pub old_memos : first_of (codes "memo-old") rows ≡ option_copied options.old_memos
  pub new_memos : first_of (codes "memo-new") rows ≡ option_copied options.new_memos
  pub key : first_of (codes "key") rows ≡ option_copied options.key

-- what is asked for of a journal's answers
pub record IsOfAnswers (rows : List Row) (options : AnswersOptions) : Type 0 where
  pub journal : first_of (codes "journal") rows ≡ Some options.journal.now
  pub station : first_of (codes "station") rows ≡ option_copied options.station
  pub refused : IsFlag rows (codes "refused") options.refused_only

-- the name is that of a sub-command that shows a table: none of the others
abbrev pub IsOfShow : Text → Type 0
IsOfShow name =
    (name ≢ codes "check") × (name ≢ codes "make") × (name ≢ codes "load") × (name ≢ codes "index") × (name ≢ codes "diff")
    × (name ≢ codes "answers")

-- what a sub-command of this name, with these options, asks for: `check` of a setup, `make` of a table that is made, `load` of
-- records that are loaded, `index` of an index that is made, `diff` of two tables, `answers` of a journal, any other of a table
abbrev pub IsAskedBy : Text → List Row → Asked → Type 0
IsAskedBy name rows (Show options) = IsOfShow name × IsOfTable name rows options
IsAskedBy name rows (Check options) = (name ≡ codes "check") × IsOfSetup rows options
IsAskedBy name rows (Make options) = (name ≡ codes "make") × IsOfMake rows options
IsAskedBy name rows (Load options) = (name ≡ codes "load") × IsOfLoad rows options
IsAskedBy name rows (Index options) = (name ≡ codes "index") × IsOfIndex rows options
IsAskedBy name rows (Diff options) = (name ≡ codes "diff") × IsOfDiff rows options
IsAskedBy name rows (Answers options) = (name ≡ codes "answers") × IsOfAnswers rows options

-- what a command line asks for, of which this is the sub-command
abbrev pub IsAskedOf : Option (Text × List Row) → Asked → Type 0
IsAskedOf None asked = ⊥
IsAskedOf (Some read) asked = IsAskedBy read.0 read.1 asked

-- the first of three texts, where all are there
abbrev pub first_of_three : Option Text → Option Text → Option Text → Option Text
first_of_three (Some first) (Some second) (Some third) = Some first
first_of_three first second third = None

-- the path of the list of fields, where that of the table and the date are there, too
abbrev pub made_list : List Row → Option Text
made_list rows = first_of_three (first_of (codes "list") rows) (first_of (codes "out") rows) (first_of (codes "today") rows)

-- the first of two texts, where both are there
abbrev pub first_of_two : Option Text → Option Text → Option Text
first_of_two (Some first) (Some second) = Some first
first_of_two first second = None

-- the path of the text of CSV, where those of both tables and the date are there, too
abbrev pub loaded_text : List Row → Option Text
loaded_text rows =
    first_of_two (first_of (codes "csv") rows) (first_of_three (first_of (codes "into") rows) (first_of (codes "out") rows) (first_of (codes "today") rows))

-- the path of the table, where the key expression and the path of the index are there, too
abbrev pub indexed_table : List Row → Option Text
indexed_table rows = first_of_three (first_of (codes "table") rows) (first_of (codes "on") rows) (first_of (codes "out") rows)

-- the path of the old table, where that of the new one is there, too
abbrev pub compared_table : List Row → Option Text
compared_table rows = first_of_two (first_of (codes "old") rows) (first_of (codes "new") rows)

-- the path that a sub-command has to have
abbrev pub path_of : Text → List Row → Option Text
path_of name rows =
    if bytes_eq name (codes "check") then first_of (codes "setup") rows
    else if bytes_eq name (codes "make") then made_list rows
    else if bytes_eq name (codes "load") then loaded_text rows
    else if bytes_eq name (codes "index") then indexed_table rows
    else if bytes_eq name (codes "diff") then compared_table rows
    else if bytes_eq name (codes "answers") then first_of (codes "journal") rows
    else first_of (codes "table") rows

-- the sub-command has its path, as `clap` sees to it
abbrev pub HasPath : Option (Text × List Row) → Type 0
HasPath None = ⊥
HasPath (Some read) = IsSome (path_of read.0 read.1)

-- the range of records of a command line is none
abbrev pub AsksBadRange : Option (Text × List Row) → Type 0
AsksBadRange None = ⊥
AsksBadRange (Some read) = HasBadRange read.1
