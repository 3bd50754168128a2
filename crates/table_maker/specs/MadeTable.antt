-- An empty table that is made in a folder, and why it is not.
use Rattle.std.specs.Prelude.{Bool, List, Option}
use Rattle.files_in_place.specs.Folder.{Folder}
use Rattle.folders.specs.declared.named.NamedFile.{NamedFile}
use Rattle.program_frame.specs.Jobs.{ComesToItsEnd}
use Rattle.program_frame.specs.declared.ending.Failure.{Failure}
use Rattle.table_maker.specs.declared.fault.MakeFault.{MakeFault}
use Rattle.table_maker.specs.declared.fault.MakeFault.TheVariants as make
use Rattle.table_maker.specs.declared.job.Made.{Made}
use Rattle.table_maker.specs.declared.job.MakeJob.{MakeJob}
use Rattle.table_maker.specs.Making.{names_of_table, AreMadeFiles, IsWhyNotMade}
use Rattle.table_maker.specs.Placing.{IsFree, IsUnplacedInto, LookFaults}

-- neither name of a job's table has a file
abbrev pub IsFreeOfTable : MakeJob → Folder → Type 0
IsFreeOfTable job folder = IsFree (names_of_table job.stem.now job.in_capitals) folder

-- these are the files of a job's table, over these files
abbrev pub AreFilesOfJob : Option (List NamedFile) → MakeJob → List NamedFile → Type 0
AreFilesOfJob files job made = AreMadeFiles files job.list.now job.stem.now job.in_capitals job.today made

-- the faults of looking for its names
abbrev pub make_look : LookFaults MakeFault
make_look = record { exists = make.Exists; unread = make.Unread }

-- why a job's table is not in the folder of a path, where this says whether its files may be replaced
abbrev pub IsUnmadeInto : Option (List NamedFile) → MakeJob → Bool → Failure MakeFault → Type 0
IsUnmadeInto files job replace why =
    IsUnplacedInto make_look make.NoMemory (IsWhyNotMade files job.list.now) (ComesToItsEnd (λ made (told : Made). AreFilesOfJob files job made)) replace why
