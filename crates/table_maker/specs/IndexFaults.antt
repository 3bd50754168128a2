-- Why an index is not made: the exit status, and what is said.
use Rattle.std.specs.Prelude.{ℕ, List, ◌++◌, codes}
use Rattle.key_expr.specs.declared.fault.ExprFault.{ExprFault}
use Rattle.key_expr.specs.FaultWords.{expression_name, expression_words}
use Rattle.table_reader.specs.TableFiles.{table_read_words}
use Rattle.table_maker.specs.MakeFaults.{unread_words}
use Rattle.table_maker.specs.declared.index_fault.IndexJobFault.{IndexJobFault}
use Rattle.table_maker.specs.declared.index_fault.IndexJobFault.TheVariants as told

-- 2 for the files that are read, for the expression and for a file that is there, 3 for want of memory, 4 for the folder
abbrev pub index_status : IndexJobFault → ℕ
index_status (told.Table path why) = 2
index_status (told.Key path why) = 2
index_status told.Write = 4
index_status told.Exists = 2
index_status told.Unread = 4
index_status told.NoMemory = 3

-- why the text of `--on` is no key expression for the table: the fault's name, and what it says
abbrev pub on_words : ExprFault → List ℕ
on_words why = codes "--on is no key expression for the table: " ++ (expression_name why ++ (codes ": " ++ expression_words why))

-- why the index is not made; of a file, its path and why
abbrev pub index_job_words : IndexJobFault → List ℕ
index_job_words (told.Table path why) = path.now ++ (codes ": " ++ table_read_words path.now why)
index_job_words (told.Key path why) = path.now ++ (codes ": " ++ on_words why)
index_job_words told.Write = codes "cannot write the index: is there room, and may the folder be written?"
index_job_words told.Exists = codes "the index is there already: --replace replaces it"
index_job_words told.Unread = unread_words
index_job_words told.NoMemory = codes "out of memory"
