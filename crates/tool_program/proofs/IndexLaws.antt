-- An index that is made for a command line.
use Rattle.std.proofs.Common.{◌≡◌, ◌∙◌, sym, refl, subst, inl, inr, List, Option, Result, Ok, Err, IfErr}
use Rattle.program_frame.specs.declared.ending.Failure.{Failure}
use Rattle.program_frame.specs.declared.ending.Failure.TheVariants.{BadDate, Work as OfWork, Folder as OfFolder}
use Rattle.table_maker.specs.declared.index_fault.IndexJobFault.{IndexJobFault}
use Rattle.table_maker.specs.declared.index_fault.IndexJobFault.TheVariants as index
use Rattle.folders.specs.declared.named.NamedFile.{NamedFile}
use Rattle.tool_program.specs.declared.fault.ToolFault.{ToolFault}
use Rattle.tool_program.specs.declared.fault.ToolFault.TheVariants as tool
use Rattle.tool_program.specs.declared.asked.IndexOptions.{IndexOptions}
use Rattle.tool_program.specs.declared.report.ToolReport.{ToolReport}
use Rattle.tool_program.specs.Faults.{TellsUnreadFolder}
use Rattle.tool_program.specs.TableIndexed.{told_of_index, IsBadIndex, IsWhyNoIndexMade}

-- ---- that a file is there

-- it is told as such
pub index_told_exists : (why : Failure IndexJobFault) → told_of_index why ≡ tool.Index (OfWork index.Exists) → why ≡ OfWork index.Exists
index_told_exists BadDate e = cc
index_told_exists (OfFolder why) e = cc
index_told_exists (OfWork index.NoMemory) e = absurd cc
index_told_exists (OfWork index.Exists) e = refl
index_told_exists (OfWork index.Unread) e = cc
index_told_exists (OfWork index.Write) e = cc
index_told_exists (OfWork (index.Table path fault)) e = cc
index_told_exists (OfWork (index.Key path fault)) e = cc

-- ---- that the folder can't be read

-- it is told as such
pub index_told_unread : (why : Failure IndexJobFault) → TellsUnreadFolder (told_of_index why) → why ≡ OfWork index.Unread
index_told_unread BadDate e = e
index_told_unread (OfFolder why) e = e
index_told_unread (OfWork index.NoMemory) e = absurd e
index_told_unread (OfWork index.Exists) e = e
index_told_unread (OfWork index.Unread) e = e
index_told_unread (OfWork index.Write) e = e
index_told_unread (OfWork (index.Table path fault)) e = e
index_told_unread (OfWork (index.Key path fault)) e = e

-- the options say no work, but not so
pub bad_index_unread : (options : IndexOptions) (fault : ToolFault) → IsBadIndex options fault → TellsUnreadFolder fault → ⊥
bad_index_unread options tool.BadIndexOut bad e = e
bad_index_unread options fault bad e = bad

-- ---- what is told of an index that is not made

told_output : (why : Failure IndexJobFault) → told_of_index why ≡ tool.Output → ⊥
told_output BadDate e = absurd cc
told_output (OfFolder why) e = absurd cc
told_output (OfWork index.NoMemory) e = absurd cc
told_output (OfWork index.Exists) e = absurd cc
told_output (OfWork index.Unread) e = absurd cc
told_output (OfWork index.Write) e = absurd cc
told_output (OfWork (index.Table path fault)) e = absurd cc
told_output (OfWork (index.Key path fault)) e = absurd cc

pub indexed_output : (files : Option (List NamedFile)) (options : IndexOptions) (told : Result ToolReport ToolFault)
    → IfErr told (IsWhyNoIndexMade files options) → told ≡ Err tool.Output → ⊥
indexed_output files options (Ok report) why e = absurd cc
indexed_output files options (Err fault) (inl bad) e = let is : fault ≡ tool.Output = cc in subst (IsBadIndex options) is bad
indexed_output files options (Err fault) (inr h) e = let is : told_of_index h.1 ≡ tool.Output = sym h.3 ∙ cc in told_output h.1 is
