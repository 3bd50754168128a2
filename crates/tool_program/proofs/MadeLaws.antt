-- A table that is made for a command line.
use Rattle.std.proofs.Common.{◌≡◌, ◌∙◌, sym, refl, subst, inl, inr, List, Option, Some, None, Result, Ok, Err, IfErr, IfOk}
use Rattle.clap.specs.Words.{Text}
use Rattle.program_frame.specs.declared.ending.Failure.{Failure}
use Rattle.program_frame.specs.declared.ending.Failure.TheVariants.{BadDate, Work as OfWork, Folder as OfFolder}
use Rattle.table_maker.specs.declared.fault.MakeFault.{MakeFault}
use Rattle.table_maker.specs.declared.fault.MakeFault.TheVariants as make
use Rattle.tool_program.specs.declared.fault.ToolFault.{ToolFault}
use Rattle.tool_program.specs.declared.fault.ToolFault.TheVariants as tool
use Rattle.tool_program.specs.declared.asked.MakeOptions.{MakeOptions}
use Rattle.tool_program.specs.Options.{first_of_three, first_of_two}
use Rattle.folders.specs.declared.named.NamedFile.{NamedFile}
use Rattle.tool_program.specs.declared.report.ToolReport.{ToolReport}
use Rattle.tool_program.specs.declared.report.ToolReport.TheVariants.{Good, Unread}
use Rattle.tool_program.specs.Faults.{TellsUnreadFolder}
use Rattle.tool_program.specs.TableMade.{told_of, IsBadMake, IsWhyNoTableMade}

-- ---- one of three texts is missing

pub none_first : (a b c : Option Text) → a ≡ None → first_of_three a b c ≡ None
none_first None b c e = refl
none_first (Some x) b c e = absurd cc

pub none_second : (a b c : Option Text) → b ≡ None → first_of_three a b c ≡ None
none_second None b c e = refl
none_second (Some x) None c e = refl
none_second (Some x) (Some y) c e = absurd cc

pub none_third : (a b c : Option Text) → c ≡ None → first_of_three a b c ≡ None
none_third None b c e = refl
none_third (Some x) None c e = refl
none_third (Some x) (Some y) None e = refl
none_third (Some x) (Some y) (Some z) e = absurd cc

-- ---- one of two is

pub none_of_two : (a b : Option Text) → a ≡ None → first_of_two a b ≡ None
none_of_two None b e = refl
none_of_two (Some x) b e = absurd cc

pub none_after : (a b : Option Text) → b ≡ None → first_of_two a b ≡ None
none_after None b e = refl
none_after (Some x) None e = refl
none_after (Some x) (Some y) e = absurd cc

-- ---- that a file is there

-- it is told as such
pub told_exists : (why : Failure MakeFault) → told_of why ≡ tool.Make (OfWork make.Exists) → why ≡ OfWork make.Exists
told_exists BadDate e = cc
told_exists (OfFolder why) e = cc
told_exists (OfWork make.NoMemory) e = absurd cc
told_exists (OfWork make.Exists) e = refl
told_exists (OfWork make.Unread) e = cc
told_exists (OfWork make.Write) e = cc
told_exists (OfWork (make.Load path fault)) e = cc
told_exists (OfWork (make.List path fault)) e = cc

-- ---- that the folder can't be read

-- it is told as such
pub told_unread : (why : Failure MakeFault) → TellsUnreadFolder (told_of why) → why ≡ OfWork make.Unread
told_unread BadDate e = e
told_unread (OfFolder why) e = e
told_unread (OfWork make.NoMemory) e = absurd e
told_unread (OfWork make.Exists) e = e
told_unread (OfWork make.Unread) e = e
told_unread (OfWork make.Write) e = e
told_unread (OfWork (make.Load path fault)) e = e
told_unread (OfWork (make.List path fault)) e = e

-- the options say no work, but not so
pub bad_unread : (options : MakeOptions) (fault : ToolFault) → IsBadMake options fault → TellsUnreadFolder fault → ⊥
bad_unread options tool.BadOut bad e = e
bad_unread options (tool.Make BadDate) bad e = cc
bad_unread options fault bad e = bad

-- ---- what is told of a table that is made, or not made

pub made_unread : (told : Result ToolReport ToolFault) → IfOk told (λ report. report ≡ Good) → told ≡ Ok Unread → ⊥
made_unread (Ok report) good e = absurd cc
made_unread (Err why) good e = absurd cc

told_output : (why : Failure MakeFault) → told_of why ≡ tool.Output → ⊥
told_output BadDate e = absurd cc
told_output (OfFolder why) e = absurd cc
told_output (OfWork make.NoMemory) e = absurd cc
told_output (OfWork make.Exists) e = absurd cc
told_output (OfWork make.Unread) e = absurd cc
told_output (OfWork make.Write) e = absurd cc
told_output (OfWork (make.Load path fault)) e = absurd cc
told_output (OfWork (make.List path fault)) e = absurd cc

pub made_output : (files : Option (List NamedFile)) (options : MakeOptions) (told : Result ToolReport ToolFault) → IfErr told (IsWhyNoTableMade files options) → told ≡ Err tool.Output → ⊥
made_output files options (Ok report) why e = absurd cc
made_output files options (Err fault) (inl bad) e = let is : fault ≡ tool.Output = cc in subst (IsBadMake options) is bad
made_output files options (Err fault) (inr h) e = let is : told_of h.1 ≡ tool.Output = sym h.3 ∙ cc in told_output h.1 is
