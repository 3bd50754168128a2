-- An index of a table that is made for a command line, and why it is not.
use Rattle.std.specs.Prelude.{◌≡◌, ◌⊎◌, false, List, Option, option_copied}
use Rattle.files_in_place.specs.Disk.{DiskMeaning}
use Rattle.folders.specs.declared.named.NamedFile.{NamedFile}
use Rattle.folders.specs.Paths.{name_at_end}
use Rattle.program_frame.specs.BesideDay.{IsWithoutDay}
use Rattle.program_frame.specs.InputDays.{FileAnswers}
use Rattle.program_frame.specs.declared.ending.Failure.{Failure}
use Rattle.program_frame.specs.declared.ending.Failure.TheVariants as failure
use Rattle.table_maker.specs.declared.index_fault.IndexJobFault.{IndexJobFault}
use Rattle.table_maker.specs.declared.index_fault.IndexJobFault.TheVariants as index
use Rattle.table_maker.specs.declared.index_job.IndexJob.{IndexJob}
use Rattle.table_maker.specs.MadeIndex.{IsFreeOfIndex, IsIndexDay, IsIndexName, IsMadeIndex, IsUnindexedInto}
use Rattle.table_maker.specs.Placing.{HasMadeInto, IsInTheWay}
use Rattle.tool_program.specs.declared.fault.ToolFault.{ToolFault}
use Rattle.tool_program.specs.declared.fault.ToolFault.TheVariants as tool
use Rattle.tool_program.specs.declared.asked.IndexOptions.{IndexOptions}

-- the work is what the options say
pub record IsIndexJobOf (options : IndexOptions) (job : IndexJob) : Type 0 where
  pub table : job.table.now ≡ options.table.now
  pub memos : option_copied job.memos ≡ option_copied options.memos
  pub expression : job.expression.now ≡ options.expression.now
  pub name : job.name.now ≡ name_at_end options.out.now
  pub of_index : IsIndexName job.name.now

-- the options say no work: the name is none of an index
abbrev pub IsBadIndex : IndexOptions → ToolFault → Type 0
IsBadIndex options tool.BadIndexOut = ¬ IsIndexName (name_at_end options.out.now)
IsBadIndex options why = ⊥

-- a want of memory is told as such
abbrev pub told_of_index : Failure IndexJobFault → ToolFault
told_of_index (failure.Work index.NoMemory) = tool.NoMemory
told_of_index why = tool.Index why

-- the index was put into the folder of this disk, over no file that was there unless it is replaced; no day was open there, nor in a
-- folder from which it comes
abbrev pub IsIndexPlacedBy : {D : Type 0} → DiskMeaning D → (D → Type 0) → FileAnswers → Option (List NamedFile) → IndexOptions → Type 0
IsIndexPlacedBy {D} m is_opened answers files options =
    (job : IndexJob) × IsIndexJobOf options job × IsIndexDay answers job false
    × HasMadeInto m (IsWithoutDay m answers is_opened) (IsMadeIndex files job) (λ before. options.replace ≡ false → IsFreeOfIndex job before)

-- a file stood in the way of the index in that folder
abbrev pub IsIndexTakenBy : {D : Type 0} → DiskMeaning D → (D → Type 0) → IndexOptions → Type 0
IsIndexTakenBy {D} m is_opened options = (job : IndexJob) × IsIndexJobOf options job × IsInTheWay m is_opened (IsFreeOfIndex job)

-- why the index was not made
abbrev pub IsWhyNoIndexMade : Option (List NamedFile) → IndexOptions → ToolFault → Type 0
IsWhyNoIndexMade files options fault =
    IsBadIndex options fault
    ⊎ ((job : IndexJob) × (why : Failure IndexJobFault) × IsIndexJobOf options job × (fault ≡ told_of_index why)
    × IsUnindexedInto files job options.replace why)
