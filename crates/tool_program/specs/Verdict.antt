-- Whether the server opens what a setup names, in words.
use Rattle.std.specs.Prelude.{Bool, true, false, ℕ, List, [], ◌∷◌, ◌++◌, codes, Option, Some, None}
use Rattle.std.specs.Fmt.{decimal}
use Rattle.catalogue_core.specs.declared.opening.OpenFault.{OpenFault}
use Rattle.catalogue_core.specs.declared.opening.OpenFault.TheVariants as open_fault
use Rattle.station_lines.specs.declared.script.format.TheConstants.{LF}
use Rattle.office_run.specs.declared.fault.FileFault.{FileFault}
use Rattle.office_run.specs.declared.fault.FileFault.TheVariants as file
use Rattle.office_run.specs.declared.fault.ServeFault.{ServeFault}
use Rattle.office_run.specs.declared.fault.ServeFault.TheVariants as serve

-- what a file is not
abbrev pub file_words : FileFault → List ℕ
file_words file.CannotRead = codes " can't be read"
file_words file.Unrecovered = codes " lies in a folder that is not recovered"
file_words (file.Image fault) = codes " is no table"
file_words (file.Ndx fault) = codes " is no index"

-- a table by its number, from 1 in the order of the setup
abbrev pub table_words : ℕ → List ℕ
table_words table = codes "table " ++ decimal table

-- an index by its number, from 1 among those of its table
abbrev pub index_words : ℕ → ℕ → List ℕ
index_words table index = codes "index " ++ (decimal index ++ (codes " of " ++ table_words table))

-- why the server does not open what it has read
abbrev pub open_words : OpenFault → List ℕ
open_words open_fault.NoStation = codes "there is no station"
open_words open_fault.TooManyStations = codes "there are too many stations"
open_words open_fault.TooManyTables = codes "there are too many tables"
open_words (open_fault.DuplicateTable table) = table_words table ++ codes " has the name of an earlier one"
open_words (open_fault.TooManyIndexes table) = table_words table ++ codes " has too many indexes"
open_words (open_fault.DuplicateIndex table index) = index_words table index ++ codes " has the name of an earlier one"
open_words (open_fault.BadExpression table index fault) = index_words table index ++ codes " has no key expression for its table"
open_words (open_fault.IndexStale table index) = index_words table index ++ codes " is stale"
open_words open_fault.NoMemory = codes "out of memory"

-- Why the server opens nothing, in words. What a run or a close ends in is none of opening.
abbrev pub unopened_words : ServeFault → List ℕ
unopened_words (serve.Setup bad) = codes "line " ++ (decimal bad.number ++ codes " of the setup is bad")
unopened_words (serve.File path fault) = path ++ file_words fault
unopened_words (serve.Refused fault) = open_words fault
unopened_words (serve.Run fault) = []
unopened_words (serve.Close fault) = []
unopened_words serve.NoMemory = codes "out of memory"

-- that the server opens all; while a day is open beside a table, once that is closed
abbrev pub good_line : Bool → List ℕ
good_line true = codes "good: the server opens all once the day is closed" ++ LF ∷ []
good_line false = codes "good: the server opens all" ++ LF ∷ []

-- the last line of a check
abbrev pub verdict_line : Bool → Option ServeFault → List ℕ
verdict_line is_day_open None = good_line is_day_open
verdict_line is_day_open (Some fault) = codes "bad: the server opens nothing: " ++ (unopened_words fault ++ LF ∷ [])
