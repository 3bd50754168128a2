-- What the command line takes: its sub-commands, and the options of each.
use Rattle.std.specs.Prelude.{◌≡◌, true, false, List, Some, codes}
use Rattle.clap.specs.Words.{App, Rule, Text, kind_of, new_app, new_rule, subcommand_of, takes, with_rule, with_subcommand}
use Rattle.clap.specs.declared.builder.action.ArgAction.TheVariants.{Set}
use Rattle.clap.specs.declared.builder.value_parser.ValueParser.TheVariants.{NonEmptyString, String}
use Rattle.clap.specs.declared.error.kind.ErrorKind.TheVariants.{OutOfMemory}
use Rattle.program_frame.specs.CommandLine.{flag_rule, option_rule, program_app, required_rule}
use Rattle.program_frame.specs.declared.ending.Ending.{Ending}
use Rattle.program_frame.specs.declared.ending.Ending.TheVariants as ended
use Rattle.tool_program.specs.declared.fault.ToolFault.{ToolFault}
use Rattle.tool_program.specs.declared.fault.ToolFault.TheVariants as tool
use Rattle.tool_program.specs.declared.asked.Asked.{Asked}
use Rattle.tool_program.specs.Options.{AsksBadRange, HasPath, IsAskedOf}

-- a path that has to be given, and is not empty
abbrev pub path_rule : Text → Rule
path_rule name = record (new_rule name) { action = Some Set; value_names = 1; required = true; parser = Some NonEmptyString }

-- the text of the first key, which may be empty, and wants an order
abbrev pub from_rule : Rule
from_rule = record (option_rule (codes "from")) { parser = Some String; is_free = false }

-- the paths of a table
abbrev pub with_table_paths : App → App
with_table_paths app = with_rule (with_rule app (path_rule (codes "table"))) (option_rule (codes "memo"))

-- a choice of records, and their order
abbrev pub with_record_choice : App → App
with_record_choice app =
    with_rule (with_rule (with_rule (with_rule app (option_rule (codes "records"))) (flag_rule (codes "deleted"))) (option_rule (codes "order"))) from_rule

abbrev pub show_app : App
show_app = with_rule (with_record_choice (with_table_paths (new_app (codes "show")))) (flag_rule (codes "memos"))

abbrev pub fields_app : App
fields_app = with_table_paths (new_app (codes "fields"))

abbrev pub csv_app : App
csv_app = with_rule (with_record_choice (with_table_paths (new_app (codes "csv")))) (flag_rule (codes "deleted-column"))

abbrev pub check_app : App
check_app = with_rule (with_rule (new_app (codes "check")) (path_rule (codes "setup"))) (flag_rule (codes "lines"))

abbrev pub make_app : App
make_app =
    with_rule (with_rule (with_rule (with_rule (new_app (codes "make")) (path_rule (codes "list"))) (required_rule (codes "out"))) (required_rule (codes "today")))
    (flag_rule (codes "replace"))

-- the paths of a text of CSV and of the table whose records come first
abbrev pub with_csv_paths : App → App
with_csv_paths app = with_rule (with_rule (with_rule app (path_rule (codes "csv"))) (required_rule (codes "into"))) (option_rule (codes "memo"))

-- the path of a new table, and its date
abbrev pub with_new_table_path : App → App
with_new_table_path app = with_rule (with_rule app (required_rule (codes "out"))) (required_rule (codes "today"))

-- how a text of CSV is written
abbrev pub with_csv_form : App → App
with_csv_form app = with_rule (with_rule app (option_rule (codes "dates"))) (option_rule (codes "separator"))

abbrev pub load_app : App
load_app =
    with_rule (with_rule (with_csv_form (with_new_table_path (with_csv_paths (new_app (codes "load"))))) (flag_rule (codes "cut")))
    (flag_rule (codes "replace"))

abbrev pub index_app : App
index_app =
    with_rule (with_rule (with_rule (with_table_paths (new_app (codes "index"))) (required_rule (codes "on"))) (required_rule (codes "out")))
    (flag_rule (codes "replace"))

-- the paths of two tables, and of the files of their memos
abbrev pub with_two_table_paths : App → App
with_two_table_paths app =
    with_rule (with_rule (with_rule (with_rule app (path_rule (codes "old"))) (path_rule (codes "new"))) (option_rule (codes "memo-old")))
    (option_rule (codes "memo-new"))

abbrev pub diff_app : App
diff_app = with_rule (with_two_table_paths (new_app (codes "diff"))) (option_rule (codes "key"))

abbrev pub answers_app : App
answers_app =
    with_rule (with_rule (with_rule (new_app (codes "answers")) (path_rule (codes "journal"))) (option_rule (codes "station"))) (flag_rule (codes "refused"))

-- the program, which wants a sub-command
abbrev pub bare_app : App
bare_app = record (program_app (codes "table_tool")) {
  top = record (program_app (codes "table_tool")).top { subcommand_required = true; arg_required_else_help = true };
}

-- the program and its sub-commands that show and check
abbrev pub shown_app : App
shown_app = with_subcommand (with_subcommand (with_subcommand (with_subcommand bare_app show_app.top) fields_app.top) csv_app.top) check_app.top

-- the same and those that make tables and indexes
abbrev pub made_app : App
made_app = with_subcommand (with_subcommand (with_subcommand shown_app make_app.top) load_app.top) index_app.top

-- the program, its sub-commands and their options
abbrev pub tool_app : App
tool_app = with_subcommand (with_subcommand made_app diff_app.top) answers_app.top

-- what the words of a command line ask for, of which the first is the program's name
abbrev pub IsAskedIn : List Text → Asked → Type 0
IsAskedIn words asked = IsAskedOf (subcommand_of tool_app words) asked

-- why these words are not read as what they ask for: they are not taken, their range of records is none, or memory was refused
abbrev pub IsWhyNotRead : List Text → Ending ToolFault → Type 0
IsWhyNotRead words ended.NoText = ⊥
IsWhyNotRead words (ended.CommandLine error) = takes tool_app words ≡ true → kind_of error ≡ OutOfMemory
IsWhyNotRead words (ended.Failed tool.BadRange) = HasPath (subcommand_of tool_app words) → AsksBadRange (subcommand_of tool_app words)
IsWhyNotRead words (ended.Failed tool.NoMemory) = Unit {0}
IsWhyNotRead words (ended.Failed fault) = ⊥
