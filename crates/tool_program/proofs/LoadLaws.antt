-- Records that are loaded for a command line.
use Rattle.std.proofs.Common.{◌≡◌, ◌∙◌, sym, refl, subst, inl, inr, List, Option, Result, Ok, Err, IfErr, IfOk}
use Rattle.program_frame.specs.declared.ending.Failure.{Failure}
use Rattle.program_frame.specs.declared.ending.Failure.TheVariants.{BadDate, Work as OfWork, Folder as OfFolder}
use Rattle.table_maker.specs.declared.load_fault.LoadJobFault.{LoadJobFault}
use Rattle.table_maker.specs.declared.load_fault.LoadJobFault.TheVariants as load
use Rattle.folders.specs.declared.named.NamedFile.{NamedFile}
use Rattle.tool_program.specs.declared.fault.ToolFault.{ToolFault}
use Rattle.tool_program.specs.declared.fault.ToolFault.TheVariants as tool
use Rattle.tool_program.specs.declared.asked.LoadOptions.{LoadOptions}
use Rattle.tool_program.specs.declared.report.ToolReport.{ToolReport}
use Rattle.tool_program.specs.declared.report.ToolReport.TheVariants.{Differ, Good, Loaded, NotOpened, Refused, Unread}
use Rattle.tool_program.specs.Answers.{IsOfLoaded}
use Rattle.tool_program.specs.Faults.{TellsUnreadFolder}
use Rattle.tool_program.specs.TableLoaded.{told_of_load, IsBadLoad, IsWhyNoTableLoaded}

-- ---- that a file is there

-- it is told as such
pub load_told_exists : (why : Failure LoadJobFault) → told_of_load why ≡ tool.Load (OfWork load.Exists) → why ≡ OfWork load.Exists
load_told_exists BadDate e = cc
load_told_exists (OfFolder why) e = cc
load_told_exists (OfWork load.NoMemory) e = absurd cc
load_told_exists (OfWork load.Exists) e = refl
load_told_exists (OfWork load.Unread) e = cc
load_told_exists (OfWork load.Write) e = cc
load_told_exists (OfWork (load.Csv path fault)) e = cc
load_told_exists (OfWork (load.Old path fault)) e = cc
load_told_exists (OfWork (load.Text path fault)) e = cc

-- ---- that the folder can't be read

-- it is told as such
pub load_told_unread : (why : Failure LoadJobFault) → TellsUnreadFolder (told_of_load why) → why ≡ OfWork load.Unread
load_told_unread BadDate e = e
load_told_unread (OfFolder why) e = e
load_told_unread (OfWork load.NoMemory) e = absurd e
load_told_unread (OfWork load.Exists) e = e
load_told_unread (OfWork load.Unread) e = e
load_told_unread (OfWork load.Write) e = e
load_told_unread (OfWork (load.Csv path fault)) e = e
load_told_unread (OfWork (load.Old path fault)) e = e
load_told_unread (OfWork (load.Text path fault)) e = e

-- the options say no work, but not so
pub bad_load_unread : (options : LoadOptions) (fault : ToolFault) → IsBadLoad options fault → TellsUnreadFolder fault → ⊥
bad_load_unread options tool.BadOut bad e = e
bad_load_unread options tool.BadDates bad e = e
bad_load_unread options tool.BadSeparator bad e = e
bad_load_unread options (tool.Load BadDate) bad e = cc
bad_load_unread options fault bad e = bad

-- ---- what is told of records that are not loaded

told_output : (why : Failure LoadJobFault) → told_of_load why ≡ tool.Output → ⊥
told_output BadDate e = absurd cc
told_output (OfFolder why) e = absurd cc
told_output (OfWork load.NoMemory) e = absurd cc
told_output (OfWork load.Exists) e = absurd cc
told_output (OfWork load.Unread) e = absurd cc
told_output (OfWork load.Write) e = absurd cc
told_output (OfWork (load.Csv path fault)) e = absurd cc
told_output (OfWork (load.Old path fault)) e = absurd cc
told_output (OfWork (load.Text path fault)) e = absurd cc

pub loaded_unread : (told : Result ToolReport ToolFault) → IfOk told IsOfLoaded → told ≡ Ok Unread → ⊥
loaded_unread (Ok Good) loaded e = absurd loaded
loaded_unread (Ok (Loaded text)) loaded e = absurd cc
loaded_unread (Ok NotOpened) loaded e = absurd loaded
loaded_unread (Ok Differ) loaded e = absurd loaded
loaded_unread (Ok Refused) loaded e = absurd loaded
loaded_unread (Ok Unread) loaded e = absurd loaded
loaded_unread (Err why) loaded e = absurd cc

pub loaded_output : (files : Option (List NamedFile)) (options : LoadOptions) (told : Result ToolReport ToolFault) → IfErr told (IsWhyNoTableLoaded files options) → told ≡ Err tool.Output → ⊥
loaded_output files options (Ok report) why e = absurd cc
loaded_output files options (Err fault) (inl bad) e = let is : fault ≡ tool.Output = cc in subst (IsBadLoad options) is bad
loaded_output files options (Err fault) (inr h) e = let is : told_of_load h.1 ≡ tool.Output = sym h.3 ∙ cc in told_output h.1 is
