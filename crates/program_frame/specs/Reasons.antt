-- What a program says of a whole run that did not come to its end, and of a folder that has not got the new files: why, and
-- an exit status.
use Rattle.std.specs.Prelude.{ℕ, List, ◌++◌, codes, Option, Some, None}
use Rattle.std.specs.Fmt.{decimal}
use Rattle.catalogue_core.specs.declared.opening.OpenFault.{OpenFault}
use Rattle.catalogue_core.specs.declared.opening.OpenFault.TheVariants as opening
use Rattle.office_run.specs.declared.close_fault.CloseFault.{CloseFault}
use Rattle.office_run.specs.declared.close_fault.CloseFault.TheVariants as close
use Rattle.folders.specs.Paths.{folder_of_path}
use Rattle.office_run.specs.declared.fault.FileFault.{FileFault}
use Rattle.office_run.specs.declared.fault.FileFault.TheVariants as file
use Rattle.office_run.specs.declared.fault.ServeFault.{ServeFault}
use Rattle.office_run.specs.declared.fault.ServeFault.TheVariants as serve
use Rattle.program_frame.specs.declared.folder.FolderFault.{FolderFault}
use Rattle.program_frame.specs.declared.folder.FolderFault.TheVariants as folder
use Rattle.dbf_image.specs.FaultWords.{image_name}
use Rattle.ndx_index.specs.FaultWords.{ndx_name}
use Rattle.program_frame.specs.FaultNames.{close_name, open_name, run_name}

-- the fault that memory was refused
abbrev pub no_memory : ServeFault
no_memory = serve.NoMemory

-- the exit status: 1 for the setup, 2 for a file and the opening, 3 for the run and for want of memory, 4 for the writing
abbrev pub fault_status : ServeFault → ℕ
fault_status (serve.Setup bad) = 1
fault_status (serve.File path fault) = 2
fault_status (serve.Refused fault) = 2
fault_status (serve.Run fault) = 3
fault_status serve.NoMemory = 3
fault_status (serve.Close fault) = 4

-- why the file of a path was not read, without the path; where its folder is not recovered, also what to do
abbrev pub file_reason : List ℕ → FileFault → List ℕ
file_reason path file.CannotRead = codes "cannot read: is it there, a file, and may it be read?"
file_reason path file.Unrecovered = codes "the folder is not recovered: start with --out " ++ folder_of_path path
file_reason path (file.Image fault) = image_name fault
file_reason path (file.Ndx fault) = ndx_name fault

-- why the file of a path was not read
abbrev pub unread_file : List ℕ → FileFault → List ℕ
unread_file path fault = path ++ (codes ": " ++ file_reason path fault)

-- the fault that the file of a name was not written
abbrev pub unwritten : List ℕ → List ℕ
unwritten name = codes "cannot write " ++ (name ++ codes ": is there room, and may the folder be written?")

abbrev pub close_reason : CloseFault → List ℕ
close_reason (close.Write name) = unwritten name
close_reason (close.TooManyBlocks table) = codes "close: " ++ close_name (close.TooManyBlocks table)
close_reason close.DateOutside = codes "close: " ++ close_name close.DateOutside
close_reason close.NoMemory = codes "close: " ++ close_name close.NoMemory

-- which line of a setup is bad, and why; where memory was refused for that, its number alone
abbrev pub bad_setup_told : ℕ → Option (List ℕ) → List ℕ
bad_setup_told number (Some told) = told
bad_setup_told number None = codes "setup line " ++ (decimal number ++ codes " is bad: table_tool check says why")

-- a table by its number, which counts the TABLE lines of the setup, and then more
abbrev pub table_told : ℕ → List ℕ → List ℕ
table_told table more = codes ": table " ++ (decimal table ++ more)

-- an index by its number, which counts the INDEX lines of its table, and then more
abbrev pub index_told : ℕ → ℕ → List ℕ → List ℕ
index_told table index more = codes ": index " ++ (decimal index ++ (codes " of table " ++ (decimal table ++ more)))

-- where the tables, indexes and stations of a setup don't go together, and what to do
abbrev pub open_place : OpenFault → List ℕ
open_place opening.NoStation = codes ": the setup has no STATION line"
open_place opening.TooManyStations = codes ": a setup has at most 16 STATION lines"
open_place opening.TooManyTables = codes ": a setup has at most 10 TABLE lines"
open_place (opening.DuplicateTable table) = table_told table (codes " of the setup has the name of an earlier one")
open_place (opening.TooManyIndexes table) = table_told table (codes " of the setup has more than 7 indexes")
open_place (opening.DuplicateIndex table index) = index_told table index (codes " of the setup has the name of an earlier one")
open_place (opening.BadExpression table index fault) =
    index_told table index (codes " of the setup has no key expression for it: table_tool check says why")
open_place (opening.IndexStale table index) =
    index_told table index (codes " of the setup is stale: --reindex makes it anew, table_tool check says more")
open_place opening.NoMemory = codes ": out of memory"

-- why a catalogue was not opened
abbrev pub open_reason : OpenFault → List ℕ
open_reason fault = (codes "open: " ++ open_name fault) ++ open_place fault

-- why a whole run did not come to its end
abbrev pub fault_reason : ServeFault → List ℕ
fault_reason (serve.Setup bad) = bad_setup_told bad.number bad.told
fault_reason (serve.File path fault) = unread_file path fault
fault_reason (serve.Refused fault) = open_reason fault
fault_reason (serve.Run fault) = codes "run: " ++ run_name fault
fault_reason (serve.Close fault) = close_reason fault
fault_reason serve.NoMemory = codes "run: NoMemory"

-- the fault that a new file of this name can't take its place
abbrev pub unreplaced : List ℕ → List ℕ
unreplaced name = codes "cannot recover the folder: " ++ (name ++ codes ": cannot be replaced")

-- why the folder for the new files has not got them
abbrev pub folder_reason : FolderFault → List ℕ
folder_reason folder.InUse = codes "another run writes into the folder"
folder_reason folder.Unopened = codes "cannot open the folder of --out: is it there, and may it be opened?"
folder_reason folder.Unrecovered = codes "cannot recover the folder"
folder_reason folder.BadList = codes "cannot recover the folder: ~niqarthu.list is no list of new files"
folder_reason (folder.Unreplaced name) = unreplaced name
folder_reason (folder.UnknownDay log why) = unread_file log why
folder_reason folder.DayOpen = codes "a day is open in the folder: station_prompt goes on with it"
folder_reason folder.Unwritten = codes "cannot write the new files"
folder_reason folder.Unfinished = codes "not all new files are in place: the next start goes on"
