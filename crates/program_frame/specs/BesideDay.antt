-- Work in a folder in which a live day is open.
use Rattle.std.specs.Prelude.{◌≡◌, ◌⊎◌, true, false}
use Rattle.files_in_place.specs.Disk.{DiskMeaning}
use Rattle.files_in_place.specs.Folder.{recovered}
use Rattle.open_day.specs.OpenDay.{has_open_day, mark_name}
use Rattle.program_frame.specs.declared.ending.Failure.{Failure}
use Rattle.program_frame.specs.declared.ending.Failure.TheVariants as failure
use Rattle.program_frame.specs.declared.folder.FolderFault.TheVariants as folder
use Rattle.program_frame.specs.InputDays.{FileAnswers, IsMarkAt}
use Rattle.program_frame.specs.Placing.{IsRecovered}

-- why work was not begun in a folder that was recovered: a day is open there, or memory was refused, or the disk failed
abbrev pub IsDayRefusal : {F : Type 0} → F → Failure F → Type 0
IsDayRefusal no_memory failure.BadDate = ⊥
IsDayRefusal no_memory (failure.Work fault) = fault ≡ no_memory
IsDayRefusal no_memory (failure.Folder folder.DayOpen) = Unit {0}
IsDayRefusal no_memory (failure.Folder folder.Unrecovered) = Unit {0}
IsDayRefusal no_memory (failure.Folder why) = ⊥

-- A day was open in the folder as recovery leaves it, and it is left so: recovery has done its work, and nothing else was changed.
pub record IsLeftOpen {D : Type 0} (m : DiskMeaning D) (start now : D) : Type 0 where
  pub open_before : has_open_day (recovered (m.seen start)) ≡ true
  pub left : IsRecovered m start now

-- The mark in the folder as recovery leaves it names the log of a day that is open, as a system has answered of that log; and it is left so.
pub record IsLeftMarked {D : Type 0} (m : DiskMeaning D) (answers : FileAnswers) (start now : D) : Type 0 where
  pub marked_before : IsMarkAt answers (recovered (m.seen start) mark_name) true
  pub left : IsRecovered m start now

-- That a day is open was said of work: it is open in the folder for the new files, or by the log that its mark names, or this says that it
-- is in a folder from which the work reads. The folder for the new files was recovered, and nothing else was changed in it.
abbrev pub IsLeftForDay : {D : Type 0} → DiskMeaning D → FileAnswers → Type 0 → D → D → Type 0
IsLeftForDay m answers input_day start now =
    (m.keeps_promises → IsLeftOpen m start now)
    ⊎ (m.keeps_promises → IsLeftMarked m answers start now)
    ⊎ (input_day × (m.keeps_promises → IsRecovered m start now))

-- it is the folder that is meant, and as recovery leaves it no day is open in it, nor by the log that its mark names
pub record IsWithoutDay {D : Type 0} (m : DiskMeaning D) (answers : FileAnswers) (is_folder : D → Type 0) (disk : D) : Type 0 where
  pub meant : is_folder disk
  pub closed : m.keeps_promises → has_open_day (recovered (m.seen disk)) ≡ false
  pub unmarked : m.keeps_promises → IsMarkAt answers (recovered (m.seen disk) mark_name) false

-- the folder that is meant was opened, and as recovery leaves it a day is open in it, or by the log that its mark names
pub record HasOpenDayIn {D : Type 0} (m : DiskMeaning D) (answers : FileAnswers) (is_folder : D → Type 0) : Type 0 where
  pub disk : D
  pub meant : is_folder disk
  pub is_open : (m.keeps_promises → has_open_day (recovered (m.seen disk)) ≡ true)
      ⊎ (m.keeps_promises → IsMarkAt answers (recovered (m.seen disk) mark_name) true)
