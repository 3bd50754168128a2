-- Records of a text of CSV that are put after those of a table for a command line, in a new table, and why they are not.
use Rattle.std.specs.Prelude.{◌≡◌, ◌⊎◌, ℕ, Bool, false, List, Option, Some, None, bytes_eq, codes, option_copied, if◌then◌else◌}
use Rattle.dbf_fields.specs.Date.{SaysDay}
use Rattle.files_in_place.specs.Disk.{DiskMeaning}
use Rattle.folders.specs.declared.named.NamedFile.{NamedFile}
use Rattle.program_frame.specs.BesideDay.{IsWithoutDay}
use Rattle.program_frame.specs.InputDays.{FileAnswers}
use Rattle.program_frame.specs.Dates.{IsRunDate}
use Rattle.program_frame.specs.Jobs.{ComesToItsEnd}
use Rattle.program_frame.specs.declared.ending.Failure.{Failure}
use Rattle.program_frame.specs.declared.ending.Failure.TheVariants as failure
use Rattle.table_loader.specs.declared.form.CsvForm.{CsvForm}
use Rattle.table_loader.specs.declared.form.DateForm.{DateForm}
use Rattle.table_loader.specs.declared.form.DateForm.TheVariants.{American, AmericanShort, Digits, German, Iso}
use Rattle.table_loader.specs.declared.form.Separator.{Separator}
use Rattle.table_loader.specs.declared.form.Separator.TheVariants.{Comma, Semicolon, Tab}
use Rattle.table_maker.specs.declared.job.Made.{Made}
use Rattle.table_maker.specs.declared.load_fault.LoadJobFault.{LoadJobFault}
use Rattle.table_maker.specs.declared.load_fault.LoadJobFault.TheVariants as load
use Rattle.table_maker.specs.declared.load_job.LoadJob.{LoadJob}
use Rattle.table_maker.specs.LoadedTable.{load_look, AreLoadedFiles, IsFreeOfLoad, IsLoadDay, IsWhyNotLoaded}
use Rattle.table_maker.specs.Placing.{HasMadeInto, IsInTheWay, IsUnplacedInto}
use Rattle.tool_program.specs.declared.fault.ToolFault.{ToolFault}
use Rattle.tool_program.specs.declared.fault.ToolFault.TheVariants as tool
use Rattle.tool_program.specs.declared.asked.LoadOptions.{LoadOptions}
use Rattle.tool_program.specs.TableMade.{IsStemOf}

-- the form of dates that a word names; eight digits, where none is given
abbrev pub dates_named : Option (List ℕ) → Option DateForm
dates_named None = Some Digits
dates_named (Some word) =
    if bytes_eq word (codes "YYYYMMDD") then Some Digits
    else (if bytes_eq word (codes "YYYY-MM-DD") then Some Iso
    else (if bytes_eq word (codes "MM/DD/YYYY") then Some American
    else (if bytes_eq word (codes "MM/DD/YY") then Some AmericanShort
    else (if bytes_eq word (codes "DD.MM.YYYY") then Some German
    else None))))

-- the separator that a word names; the comma, where none is given
abbrev pub separator_named : Option (List ℕ) → Option Separator
separator_named None = Some Comma
separator_named (Some word) =
    if bytes_eq word (codes ",") then Some Comma
    else (if bytes_eq word (codes ";") then Some Semicolon
    else (if bytes_eq word (codes "tab") then Some Tab
    else None))

-- a text of CSV is written as the options say
pub record IsFormOf (options : LoadOptions) (form : CsvForm) : Type 0 where
  pub dates : dates_named (option_copied options.dates) ≡ Some form.dates
  pub separator : separator_named (option_copied options.separator) ≡ Some form.separator
  pub cut : form.cut ≡ options.cut

-- the work is what the options say
pub record IsLoadJobOf (options : LoadOptions) (job : LoadJob) : Type 0 where
  pub csv : job.csv.now ≡ options.csv.now
  pub table : job.table.now ≡ options.table.now
  pub memos : option_copied job.memos ≡ option_copied options.memos
  pub stem : IsStemOf options.out.now job.stem.now job.in_capitals
  pub today : SaysDay options.today.now job.today
  pub form : IsFormOf options job.form

-- the options say no work: the name is none of a table, the form of dates or the separator is none, or the date is
abbrev pub IsBadLoad : LoadOptions → ToolFault → Type 0
IsBadLoad options tool.BadOut = (stem : List ℕ) (in_capitals : Bool) → ¬ IsStemOf options.out.now stem in_capitals
IsBadLoad options tool.BadDates = dates_named (option_copied options.dates) ≡ None
IsBadLoad options tool.BadSeparator = separator_named (option_copied options.separator) ≡ None
IsBadLoad options (tool.Load failure.BadDate) = ¬ IsRunDate options.today.now
IsBadLoad options why = ⊥

-- out of memory is said as such
abbrev pub told_of_load : Failure LoadJobFault → ToolFault
told_of_load (failure.Work load.NoMemory) = tool.NoMemory
told_of_load why = tool.Load why

-- the new table was put into the folder of this disk, over no file that was there unless it is replaced; no day was open there, nor in a
-- folder from which it comes
abbrev pub IsLoadPlacedBy : {D : Type 0} → DiskMeaning D → (D → Type 0) → FileAnswers → Option (List NamedFile) → LoadOptions → Type 0
IsLoadPlacedBy {D} m is_opened answers files options =
    (job : LoadJob) × IsLoadJobOf options job × IsLoadDay answers job false
    × HasMadeInto m (IsWithoutDay m answers is_opened) (AreLoadedFiles files job) (λ before. options.replace ≡ false → IsFreeOfLoad job before)

-- a file stood in the way of the new table in that folder
abbrev pub IsLoadTakenBy : {D : Type 0} → DiskMeaning D → (D → Type 0) → LoadOptions → Type 0
IsLoadTakenBy {D} m is_opened options = (job : LoadJob) × IsLoadJobOf options job × IsInTheWay m is_opened (IsFreeOfLoad job)

-- why a job's table is not in its folder
abbrev pub IsUnloadedInto : Option (List NamedFile) → LoadJob → Bool → Failure LoadJobFault → Type 0
IsUnloadedInto files job replace why =
    IsUnplacedInto load_look load.NoMemory (IsWhyNotLoaded files (λ _. Unit {0}) job) (ComesToItsEnd (λ made (told : Made). AreLoadedFiles files job made))
    replace why

-- why the records were not loaded
abbrev pub IsWhyNoTableLoaded : Option (List NamedFile) → LoadOptions → ToolFault → Type 0
IsWhyNoTableLoaded files options fault =
    IsBadLoad options fault
    ⊎ ((job : LoadJob) × (why : Failure LoadJobFault) × IsLoadJobOf options job × (fault ≡ told_of_load why) × IsUnloadedInto files job options.replace why)
