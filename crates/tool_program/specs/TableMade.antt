-- A table that is made for a command line, and why it is not.
use Rattle.std.specs.Prelude.{◌≡◌, ◌⊎◌, ℕ, Bool, false, List, ◌++◌, Option}
use Rattle.dbf_fields.specs.Date.{SaysDay}
use Rattle.files_in_place.specs.Disk.{DiskMeaning}
use Rattle.folders.specs.declared.named.NamedFile.{NamedFile}
use Rattle.folders.specs.Paths.{name_at_end}
use Rattle.program_frame.specs.BesideDay.{IsWithoutDay}
use Rattle.program_frame.specs.InputDays.{FileAnswers, IsDayBeside}
use Rattle.program_frame.specs.Dates.{IsRunDate}
use Rattle.program_frame.specs.declared.ending.Failure.{Failure}
use Rattle.program_frame.specs.declared.ending.Failure.TheVariants as failure
use Rattle.table_maker.specs.declared.fault.MakeFault.{MakeFault}
use Rattle.table_maker.specs.declared.fault.MakeFault.TheVariants as make
use Rattle.table_maker.specs.declared.job.MakeJob.{MakeJob}
use Rattle.table_maker.specs.Making.{table_extension}
use Rattle.table_maker.specs.MadeTable.{AreFilesOfJob, IsFreeOfTable, IsUnmadeInto}
use Rattle.table_maker.specs.Placing.{HasMadeInto, IsInTheWay}
use Rattle.tool_program.specs.declared.fault.ToolFault.{ToolFault}
use Rattle.tool_program.specs.declared.fault.ToolFault.TheVariants as tool
use Rattle.tool_program.specs.declared.asked.MakeOptions.{MakeOptions}

-- the name at the end of a path is this stem and the extension of a table
abbrev pub IsStemOf : List ℕ → List ℕ → Bool → Type 0
IsStemOf path stem in_capitals = name_at_end path ≡ stem ++ table_extension in_capitals

-- the work is what the options say
pub record IsJobOf (options : MakeOptions) (job : MakeJob) : Type 0 where
  pub list : job.list.now ≡ options.list.now
  pub stem : IsStemOf options.out.now job.stem.now job.in_capitals
  pub today : SaysDay options.today.now job.today

-- the options say no work: the name is none of a table, or the date is none
abbrev pub IsBadMake : MakeOptions → ToolFault → Type 0
IsBadMake options tool.BadOut = (stem : List ℕ) (in_capitals : Bool) → ¬ IsStemOf options.out.now stem in_capitals
IsBadMake options (tool.Make failure.BadDate) = ¬ IsRunDate options.today.now
IsBadMake options why = ⊥

-- out of memory is said as such
abbrev pub told_of : Failure MakeFault → ToolFault
told_of (failure.Work make.NoMemory) = tool.NoMemory
told_of why = tool.Make why

-- the table was put into the folder of this disk, over no file that was there unless it is replaced; no day was open there, nor in the
-- folder of the list of its fields
abbrev pub IsPlacedBy : {D : Type 0} → DiskMeaning D → (D → Type 0) → FileAnswers → Option (List NamedFile) → MakeOptions → Type 0
IsPlacedBy {D} m is_opened answers files options =
    (job : MakeJob) × IsJobOf options job × IsDayBeside answers job.list.now false
    × HasMadeInto m (IsWithoutDay m answers is_opened) (AreFilesOfJob files job) (λ before. options.replace ≡ false → IsFreeOfTable job before)

-- a file stood in the way of the table in that folder
abbrev pub IsTakenBy : {D : Type 0} → DiskMeaning D → (D → Type 0) → MakeOptions → Type 0
IsTakenBy {D} m is_opened options = (job : MakeJob) × IsJobOf options job × IsInTheWay m is_opened (IsFreeOfTable job)

-- why a table was not made
abbrev pub IsWhyNoTableMade : Option (List NamedFile) → MakeOptions → ToolFault → Type 0
IsWhyNoTableMade files options fault =
    IsBadMake options fault
    ⊎ ((job : MakeJob) × (why : Failure MakeFault) × IsJobOf options job × (fault ≡ told_of why) × IsUnmadeInto files job options.replace why)
