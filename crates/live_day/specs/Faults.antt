-- Why a line was not answered, or a day's lines were not all.
use Rattle.std.specs.Prelude.{◌≤◌, ◌^◌, length}
use Rattle.catalogue_core.specs.Replay.{History}
use Rattle.catalogue_core.specs.declared.catalogue.Stop.{Stop}
use Rattle.catalogue_core.specs.declared.catalogue.Stop.TheVariants as of_catalogue
use Rattle.files_in_place.specs.Disk.{DiskMeaning}
use Rattle.live_log.specs.Gates.{log_of}
use Rattle.live_log.specs.declared.faults.LogFault.{LogFault}
use Rattle.live_log.specs.declared.faults.LogFault.TheVariants as of_log
use Rattle.live_day.specs.Days.{parts_of}
use Rattle.live_day.specs.declared.faults.LineFault.{LineFault}
use Rattle.live_day.specs.declared.faults.LineFault.TheVariants as of_line
use Rattle.live_day.specs.declared.keyboard.TypingFault.{TypingFault}
use Rattle.live_day.specs.declared.keyboard.TypingFault.TheVariants as of_typing
use Rattle.live_day.specs.declared.run_fault.RunFault.{RunFault}
use Rattle.live_day.specs.declared.run_fault.RunFault.TheVariants as of_run

-- why a line was not performed, as a fault of a line
abbrev pub line_fault_of : Stop → LineFault
line_fault_of of_catalogue.NoMemory = of_line.NoMemory
line_fault_of of_catalogue.JournalFull = of_line.JournalFull

-- why the lines were not all answered, where no line was had
abbrev pub typing_fault_of : TypingFault → RunFault
typing_fault_of of_typing.NoMemory = of_run.NoMemory
typing_fault_of of_typing.Failed = of_run.Unread

-- a line was performed whose entry may not be in the log
abbrev pub IsOfLog : RunFault → Type 0
IsOfLog (of_run.Log fault) = Unit {0}
IsOfLog why = ⊥

module _ {D : Type 0} (m : DiskMeaning D) where
  -- where the disk keeps its promises, the log of the journal would have 2^63 bytes or more: with its head 2^64, and a head has fewer than 2^63
  abbrev pub IsLogTooLong : History → Type 0
  IsLogTooLong h = m.keeps_promises → 2 ^ 63 ≤ length (log_of (parts_of h.journal))

  -- Why the entries of a group may not be in the log: memory was refused, the disk failed, or the log would be too long. No earlier group has
  -- failed.
  abbrev pub IsGroupFault : History → LogFault → Type 0
  IsGroupFault h of_log.Closed = ⊥
  IsGroupFault h of_log.TooLong = IsLogTooLong h
  IsGroupFault h why = Unit {0}

  -- Why the lines of a day were not all answered: a group is not in the log; or the screen, or the keyboard, has failed so; or memory was
  -- refused.
  abbrev pub IsDayFault : Type 0 → Type 0 → History → RunFault → Type 0
  IsDayFault unshown unread h (of_run.Log why) = IsGroupFault h why
  IsDayFault unshown unread h of_run.Screen = unshown
  IsDayFault unshown unread h of_run.Unread = unread
  IsDayFault unshown unread h of_run.NoMemory = Unit {0}
