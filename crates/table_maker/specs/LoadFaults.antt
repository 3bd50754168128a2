-- Why the records of a text of CSV are not loaded: the exit status, and what is said.
use Rattle.std.specs.Prelude.{ℕ, List, ◌++◌, codes}
use Rattle.table_loader.specs.FaultWords.{fault_words}
use Rattle.table_reader.specs.TableFiles.{load_words, table_read_words}
use Rattle.table_maker.specs.MakeFaults.{exists_words, unread_words, unwritten_words}
use Rattle.table_maker.specs.declared.load_fault.LoadJobFault.{LoadJobFault}
use Rattle.table_maker.specs.declared.load_fault.LoadJobFault.TheVariants as told

-- 2 for the files that are read and for one that is there, 3 for want of memory, 4 for the folder
abbrev pub load_status : LoadJobFault → ℕ
load_status (told.Csv path why) = 2
load_status (told.Old path why) = 2
load_status (told.Text path why) = 2
load_status told.Write = 4
load_status told.Exists = 2
load_status told.Unread = 4
load_status told.NoMemory = 3

-- why the records are not loaded; of a file, its path and why, as `DATA.CSV: line 2: 3 cells, where the heading has 4`
abbrev pub load_job_words : LoadJobFault → List ℕ
load_job_words (told.Csv path why) = path.now ++ (codes ": " ++ load_words path.now why)
load_job_words (told.Old path why) = path.now ++ (codes ": " ++ table_read_words path.now why)
load_job_words (told.Text path why) = path.now ++ (codes ": " ++ fault_words why)
load_job_words told.Write = unwritten_words
load_job_words told.Exists = exists_words
load_job_words told.Unread = unread_words
load_job_words told.NoMemory = codes "out of memory"
