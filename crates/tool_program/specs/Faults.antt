-- Why a call of the program shows or checks nothing, or not all: of which file, the exit status, and what is said.
use Rattle.std.specs.Prelude.{◌≡◌, ℕ, Bool, true, false, List, ◌++◌, codes, option_copied, unwrap_or}
use Rattle.key_expr.specs.declared.fault.ExprFault.{ExprFault}
use Rattle.key_expr.specs.declared.fault.ExprFault.TheVariants as expression
use Rattle.ndx_index.specs.declared.fault.NdxFault.{NdxFault}
use Rattle.ndx_index.specs.declared.fault.NdxFault.TheVariants as ndx
use Rattle.table_reader.specs.declared.fault.TableReadFault.{TableReadFault}
use Rattle.table_reader.specs.declared.fault.TableReadFault.TheVariants as read
use Rattle.table_reader.specs.TableFiles.{is_image_no_memory, is_load_no_memory}
use Rattle.table_text.specs.declared.fault.TextFault.{TextFault}
use Rattle.table_text.specs.declared.fault.TextFault.TheVariants as text
use Rattle.tool_program.specs.declared.journal.AnswersFault.{AnswersFault}
use Rattle.tool_program.specs.declared.journal.AnswersFault.TheVariants as answers
use Rattle.tool_program.specs.declared.checking.CheckFault.{CheckFault}
use Rattle.tool_program.specs.declared.checking.CheckFault.TheVariants as check
use Rattle.tool_program.specs.declared.comparing.CompareFault.{CompareFault}
use Rattle.tool_program.specs.declared.comparing.CompareFault.TheVariants as compare
use Rattle.tool_program.specs.declared.fault.ToolFault.{ToolFault}
use Rattle.tool_program.specs.declared.fault.ToolFault.TheVariants as tool
use Rattle.tool_program.specs.declared.asked.Options.{Options}
use Rattle.tool_program.specs.declared.order.OrderFault.{OrderFault}
use Rattle.tool_program.specs.declared.order.OrderFault.TheVariants as order
use Rattle.tool_program.specs.declared.showing.ShowFault.{ShowFault}
use Rattle.tool_program.specs.declared.showing.ShowFault.TheVariants as show
use Rattle.program_frame.specs.declared.ending.Failure.TheVariants as failure
use Rattle.program_frame.specs.Endings.{failure_status, failure_words}
use Rattle.table_maker.specs.declared.fault.MakeFault.TheVariants as make
use Rattle.table_maker.specs.declared.index_fault.IndexJobFault.TheVariants as index
use Rattle.table_maker.specs.declared.load_fault.LoadJobFault.TheVariants as load
use Rattle.table_maker.specs.IndexFaults.{index_job_words, index_status}
use Rattle.table_maker.specs.LoadFaults.{load_job_words, load_status}
use Rattle.table_maker.specs.MakeFaults.{make_status, make_words}
use Rattle.tool_program.specs.Reasons.{check_reason, journal_reason, key_reason, show_reason}

-- ---- of which file

-- The path of the file that a fault of showing a table is one of: that of the index or of the memo file, if it is given and the
-- fault is one of it, and else the table's. Of a memo file that is not given only its folder is named, which is the table's.
abbrev pub path_at_fault : Options → ShowFault → List ℕ
path_at_fault options (show.Load why) = options.table.now
path_at_fault options (show.Memos why) = unwrap_or (option_copied options.memos) options.table.now
path_at_fault options (show.Table why) = options.table.now
path_at_fault options (show.Order why) = unwrap_or (option_copied options.order) options.table.now
path_at_fault options (show.Text why) = options.table.now

-- the fault is a want of memory: of an index file's bytes,
abbrev pub is_ndx_no_memory : NdxFault → Bool
is_ndx_no_memory ndx.NoMemory = true
is_ndx_no_memory why = false

-- of its key expression,
abbrev pub is_expression_no_memory : ExprFault → Bool
is_expression_no_memory expression.NoMemory = true
is_expression_no_memory why = false

-- of the order of an index,
abbrev pub is_order_no_memory : OrderFault → Bool
is_order_no_memory (order.Load why) = is_load_no_memory why
is_order_no_memory (order.Index why) = is_ndx_no_memory why
is_order_no_memory (order.Expression why) = is_expression_no_memory why
is_order_no_memory order.Stale = false
is_order_no_memory order.NoMemory = true

-- and of showing a file
abbrev pub is_no_memory : ShowFault → Bool
is_no_memory (show.Load why) = is_load_no_memory why
is_no_memory (show.Memos why) = is_load_no_memory why
is_no_memory (show.Table why) = is_image_no_memory why
is_no_memory (show.Order why) = is_order_no_memory why
is_no_memory (show.Text text.NoMemory) = true
is_no_memory (show.Text text.Sink) = false

-- what is said of a fault of the file of a path: with the path, except out of memory and a failure of the output
abbrev pub IsToolFaultOf : ShowFault → List ℕ → ToolFault → Type 0
IsToolFaultOf fault path tool.BadRange = ⊥
IsToolFaultOf fault path tool.BadStation = ⊥
IsToolFaultOf fault path tool.NoMemory = is_no_memory fault ≡ true
IsToolFaultOf fault path (tool.Table told why) = (told.now ≡ path) × (why ≡ fault) × (is_no_memory fault ≡ false)
IsToolFaultOf fault path (tool.Setup told why) = ⊥
IsToolFaultOf fault path tool.Output = fault ≡ show.Text text.Sink
IsToolFaultOf fault path tool.BadOut = ⊥
IsToolFaultOf fault path tool.BadIndexOut = ⊥
IsToolFaultOf fault path tool.BadDates = ⊥
IsToolFaultOf fault path tool.BadSeparator = ⊥
IsToolFaultOf fault path (tool.Make why) = ⊥
IsToolFaultOf fault path (tool.Journal told why) = ⊥
IsToolFaultOf fault path (tool.Key told why) = ⊥
IsToolFaultOf fault path (tool.Load why) = ⊥
IsToolFaultOf fault path (tool.Index why) = ⊥

-- the fault of a setup is told with its path
abbrev pub IsSetupTold : CheckFault → Type 0
IsSetupTold check.NoMemory = ⊥
IsSetupTold check.Sink = ⊥
IsSetupTold fault = Unit {0}

-- what is said of a fault of the setup of a path: with the path, except out of memory and a failure of the output
abbrev pub IsToolFaultOfSetup : CheckFault → List ℕ → ToolFault → Type 0
IsToolFaultOfSetup fault path tool.BadRange = ⊥
IsToolFaultOfSetup fault path tool.BadStation = ⊥
IsToolFaultOfSetup fault path tool.NoMemory = fault ≡ check.NoMemory
IsToolFaultOfSetup fault path (tool.Table told why) = ⊥
IsToolFaultOfSetup fault path (tool.Setup told why) = (told.now ≡ path) × (why ≡ fault) × IsSetupTold fault
IsToolFaultOfSetup fault path tool.Output = fault ≡ check.Sink
IsToolFaultOfSetup fault path tool.BadOut = ⊥
IsToolFaultOfSetup fault path tool.BadIndexOut = ⊥
IsToolFaultOfSetup fault path tool.BadDates = ⊥
IsToolFaultOfSetup fault path tool.BadSeparator = ⊥
IsToolFaultOfSetup fault path (tool.Make why) = ⊥
IsToolFaultOfSetup fault path (tool.Journal told why) = ⊥
IsToolFaultOfSetup fault path (tool.Key told why) = ⊥
IsToolFaultOfSetup fault path (tool.Load why) = ⊥
IsToolFaultOfSetup fault path (tool.Index why) = ⊥

-- what a fault of a text is told as
abbrev pub IsToolFaultOfText : TextFault → ToolFault → Type 0
IsToolFaultOfText text.Sink fault = fault ≡ tool.Output
IsToolFaultOfText text.NoMemory fault = fault ≡ tool.NoMemory

-- why a table is not read, as why it is not shown
abbrev pub shown_fault : TableReadFault → ShowFault
shown_fault (read.Load why) = show.Load why
shown_fault (read.Memos why) = show.Memos why
shown_fault (read.NoTable why) = show.Table why

-- what a fault of comparing two tables is told as
abbrev pub IsToolFaultOfDiff : CompareFault → ToolFault → Type 0
IsToolFaultOfDiff (compare.Table path why) fault = IsToolFaultOf (shown_fault why) path.now fault
IsToolFaultOfDiff (compare.Key path expression.NoMemory) fault = fault ≡ tool.NoMemory
IsToolFaultOfDiff (compare.Key path why) (tool.Key told said) = (told.now ≡ path.now) × (said ≡ why)
IsToolFaultOfDiff (compare.Key path why) fault = ⊥
IsToolFaultOfDiff (compare.Text why) fault = IsToolFaultOfText why fault

-- what a fault of showing the answers of the journal of a path is told as
abbrev pub IsToolFaultOfAnswers : AnswersFault → List ℕ → ToolFault → Type 0
IsToolFaultOfAnswers answers.BadStation path fault = fault ≡ tool.BadStation
IsToolFaultOfAnswers (answers.Load why) path fault = IsToolFaultOf (show.Load why) path fault
IsToolFaultOfAnswers (answers.Journal why) path (tool.Journal told said) = (told.now ≡ path) × (said ≡ why)
IsToolFaultOfAnswers (answers.Journal why) path fault = ⊥
IsToolFaultOfAnswers answers.NoMemory path fault = fault ≡ tool.NoMemory
IsToolFaultOfAnswers answers.Sink path fault = fault ≡ tool.Output

-- the fault says that the folder for a table or an index can't be read
abbrev pub TellsUnreadFolder : ToolFault → Type 0
TellsUnreadFolder (tool.Make why) = why ≡ failure.Work make.Unread
TellsUnreadFolder (tool.Load why) = why ≡ failure.Work load.Unread
TellsUnreadFolder (tool.Index why) = why ≡ failure.Work index.Unread
TellsUnreadFolder fault = ⊥

-- ---- the exit status, and what is said

-- 1 for the command line, 2 for a file or a setup, 3 for want of memory, 4 for the output or a folder
abbrev pub tool_status : ToolFault → ℕ
tool_status tool.BadRange = 1
tool_status tool.BadStation = 1
tool_status tool.NoMemory = 3
tool_status (tool.Table path why) = 2
tool_status (tool.Setup path why) = 2
tool_status tool.Output = 4
tool_status tool.BadOut = 1
tool_status tool.BadIndexOut = 1
tool_status tool.BadDates = 1
tool_status tool.BadSeparator = 1
tool_status (tool.Make why) = failure_status make_status why
tool_status (tool.Journal path why) = 2
tool_status (tool.Key path why) = 2
tool_status (tool.Load why) = failure_status load_status why
tool_status (tool.Index why) = failure_status index_status why

-- why nothing is shown or checked, or not all; of a file, its path and why
abbrev pub tool_words : ToolFault → List ℕ
tool_words tool.BadRange = codes "--records wants a number N or a range N-M"
tool_words tool.BadStation = codes "--station wants a number N"
tool_words tool.NoMemory = codes "out of memory"
tool_words (tool.Table path why) = path.now ++ (codes ": " ++ show_reason path.now why)
tool_words (tool.Setup path why) = path.now ++ (codes ": " ++ check_reason path.now why)
tool_words tool.Output = codes "the output failed"
tool_words tool.BadOut = codes "--out wants a name that ends with .DBF or .dbf"
tool_words tool.BadIndexOut = codes "--out wants a name that ends with .NDX or .ndx"
tool_words tool.BadDates = codes "--dates is none of YYYYMMDD, YYYY-MM-DD, MM/DD/YYYY, MM/DD/YY and DD.MM.YYYY"
tool_words tool.BadSeparator = codes "--separator is none of , ; and tab"
tool_words (tool.Make why) = failure_words make_words why
tool_words (tool.Journal path why) = path.now ++ journal_reason why
tool_words (tool.Key path why) = path.now ++ (codes ": " ++ key_reason why)
tool_words (tool.Load why) = failure_words load_job_words why
tool_words (tool.Index why) = failure_words index_job_words why
