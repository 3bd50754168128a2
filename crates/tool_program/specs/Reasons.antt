-- Why a file can't be shown, or a setup not checked, in words.
use Rattle.std.specs.Prelude.{ℕ, List, ◌++◌, codes, Some, None}
use Rattle.std.specs.Fmt.{decimal}
use Rattle.dbf_image.specs.FaultWords.{image_name, image_words}
use Rattle.dbf_image.specs.declared.fault.ImageFault.{ImageFault}
use Rattle.dbf_image.specs.declared.fault.ImageFault.TheVariants as image
use Rattle.key_expr.specs.declared.fault.ExprFault.{ExprFault}
use Rattle.key_expr.specs.FaultWords.{expression_name, expression_words}
use Rattle.ndx_index.specs.FaultWords.{ndx_name, ndx_words}
use Rattle.folders.specs.declared.source.LoadFault.TheVariants as load
use Rattle.table_reader.specs.TableFiles.{load_words}
use Rattle.table_text.specs.declared.fault.TextFault.{TextFault}
use Rattle.table_text.specs.declared.fault.TextFault.TheVariants as text
use Rattle.journal_file.specs.declared.cutting.JournalFault.{JournalFault}
use Rattle.journal_file.specs.declared.cutting.JournalFault.TheVariants as journal
use Rattle.tool_program.specs.declared.checking.CheckFault.{CheckFault}
use Rattle.tool_program.specs.declared.checking.CheckFault.TheVariants as check
use Rattle.tool_program.specs.declared.order.OrderFault.{OrderFault}
use Rattle.tool_program.specs.declared.order.OrderFault.TheVariants as order
use Rattle.tool_program.specs.declared.showing.ShowFault.{ShowFault}
use Rattle.tool_program.specs.declared.showing.ShowFault.TheVariants as show

abbrev pub no_memory_words : List ℕ
no_memory_words = codes "out of memory"

-- a fault by its name, and what it says
abbrev pub named_reason : List ℕ → List ℕ → List ℕ
named_reason name words = name ++ (codes ": " ++ words)

-- why records can't be shown in the order of the index file of a path
abbrev pub order_reason : List ℕ → OrderFault → List ℕ
order_reason path (order.Load why) = load_words path why
order_reason path (order.Index why) = named_reason (ndx_name why) (ndx_words why)
order_reason path (order.Expression why) = codes "its key expression is not one for the table: " ++ named_reason (expression_name why) (expression_words why)
order_reason path order.Stale = codes "the index is stale: its keys are not those of the table's records"
order_reason path order.NoMemory = no_memory_words

abbrev pub text_reason : TextFault → List ℕ
text_reason text.Sink = codes "the sink failed"
text_reason text.NoMemory = no_memory_words

-- why the bytes of a file are no table; where the file of its memos is missing, also what to do
abbrev pub table_reason : ImageFault → List ℕ
table_reason image.MemoFileMissing =
    codes "MemoFileMissing: the file of memos is missing: put it beside the table, or name it by --memo (diff: --memo-old, --memo-new)"
table_reason why = named_reason (image_name why) (image_words why)

-- why the file of a path, or its table, is not shown
abbrev pub show_reason : List ℕ → ShowFault → List ℕ
show_reason path (show.Load why) = load_words path why
show_reason path (show.Memos why) = load_words path why
show_reason path (show.Table why) = table_reason why
show_reason path (show.Order why) = order_reason path why
show_reason path (show.Text why) = text_reason why

-- why the setup of a path is not checked
abbrev pub check_reason : List ℕ → CheckFault → List ℕ
check_reason path check.CannotRead = load_words path load.CannotRead
check_reason path check.Unrecovered = load_words path load.Unrecovered
check_reason path (check.BadLine number None) = codes "setup line " ++ (decimal number ++ codes " is bad")
check_reason path (check.BadLine number (Some told)) = told
check_reason path check.NoMemory = no_memory_words
check_reason path check.Sink = text_reason text.Sink

-- why a file is no journal, after its path
abbrev pub journal_reason : JournalFault → List ℕ
journal_reason journal.Cut = codes " is cut"
journal_reason journal.NoJournal = codes " is no journal"

-- why the text of `--key` is no key expression for a table
abbrev pub key_reason : ExprFault → List ℕ
key_reason why = codes "--key is no key expression for the table: " ++ named_reason (expression_name why) (expression_words why)
