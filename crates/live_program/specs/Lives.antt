-- A life of the program: from the folder that an earlier one left to its own end, and what a crash at any moment of it leaves.
use Rattle.std.specs.Prelude.{◌≡◌, ◌⊎◌, true, ◌≤◌, ℕ, List, [], ◌++◌, length, Option, Result, Ok, Err}
use Rattle.std.specs.List.{AllByRecursion}
use Rattle.catalogue_core.specs.Replay.{History, AreOfStations, IsLegal}
use Rattle.dbf_fields.specs.declared.day.Day.{Day}
use Rattle.files_in_place.specs.Disk.{DiskMeaning, LeavesOnly}
use Rattle.files_in_place.specs.Folder.{Folder, recovered}
use Rattle.files_in_place.specs.Recovery.{RecoversTo, SameFree}
use Rattle.folders.specs.declared.named.NamedFile.{NamedFile}
use Rattle.folders.specs.Placed.{with_files}
use Rattle.live_log.specs.Gates.{log_of, or_empty_log, StandsFor}
use Rattle.live_log.specs.Placing.{IsOldOrPlacedWith}
use Rattle.live_day.specs.declared.keyboard.Typed.{Typed}
use Rattle.live_day.specs.Days.{parts_of, HasGoneOn}
use Rattle.live_day.specs.Sessions.{IsDayRun}
use Rattle.live_day.specs.Shows.{ShownLine, at_count, HasFrontIn, MayBeTold}
use Rattle.live_day.specs.Stops.{IsDayStopped}
use Rattle.program_frame.specs.Placing.{RecoversAsOneOf}
use Rattle.clap.specs.Words.{Text, kind_of, takes}
use Rattle.clap.specs.declared.error.kind.ErrorKind.TheVariants.{OutOfMemory}
use Rattle.program_frame.specs.declared.ending.Ending.{Ending}
use Rattle.program_frame.specs.declared.ending.Ending.TheVariants as ending
use Rattle.program_frame.specs.declared.ending.Failure.{Failure}
use Rattle.live_program.specs.Asked.{prompt_app, IsAskedIn}
use Rattle.live_program.specs.Closings.{AreEndFiles, IsDayPlaced}
use Rattle.live_program.specs.declared.closing.DayEnd.{DayEnd}
use Rattle.open_day.specs.OpenDay.{log_name}
use Rattle.journal_file.specs.declared.sum.FileSum.{FileSum}
use Rattle.live_program.specs.Heads.{head_of, IsBehindHead}
use Rattle.live_program.specs.Openings.{AreFilesRead, AreTablesOpened}
use Rattle.live_program.specs.declared.failure.LiveFailure.{LiveFailure}
use Rattle.live_program.specs.declared.lived.Lived.{Lived}
use Rattle.live_program.specs.declared.options.Options.{Options}

-- the date of a day's end, and how many commands the day before it had
abbrev pub end_of_day : Day → ℕ → DayEnd
end_of_day today earlier = record { today = today; earlier = earlier }

-- What was found: the tables of the setup as they were opened; the head of a log that tells which files were read for that; the entries
-- that the folder's log has, behind this head if a day is open, which hold on them; and how many commands the day had that was closed
-- before, which the log tells in its head, or as that of the closed day.
pub record IsFound (files : Option (List NamedFile)) (options : Options) (folder : Folder) (head : List ℕ) (first : History) (earlier : ℕ) : Type 0 where
  pub opened : AreTablesOpened files options.setup.now options.reindex first.opened
  pub read : List FileSum
  pub known : AreFilesRead files options.setup.now read
  pub head_is : head ≡ head_of read options.reindex earlier
  pub body : List ℕ
  pub behind : IsBehindHead read options.reindex (or_empty_log (folder log_name)) earlier body
  pub log : StandsFor body (parts_of first.journal)
  pub legal : IsLegal first.opened first.journal
  pub of_stations : AreOfStations first.opened first.journal

-- Recovery makes of what is left the folder that was found, with a log of this head and of the journal's first entries, so many at least.
abbrev pub IsOpenStill : List ℕ → ℕ → History → Folder → Folder → Type 0
IsOpenStill head least last found left = HasFrontIn log_name head least (parts_of last.journal) found (recovered left)

-- Recovery makes of what is left the folder that was found, with the files of the day's end in their places, the closed log among them.
abbrev pub IsClosedNow : History → DayEnd → Folder → Folder → Type 0
IsClosedNow last end found left = (files : List NamedFile) × AreEndFiles last end files × RecoversTo (with_files files found) left

-- one of the two: never is a log without its tables, nor are new files beside a log
abbrev pub IsOpenOrClosed : List ℕ → ℕ → History → DayEnd → Folder → Folder → Type 0
IsOpenOrClosed head least last end found left = IsOpenStill head least last found left ⊎ IsClosedNow last end found left

module _ {D : Type 0} (m : DiskMeaning D) where
  -- Whatever a crash since a line was shown may have left has the entries of which the line was told, in the log or in the day's
  -- files.
  pub record IsNeverLost (head : List ℕ) (found : Folder) (last : History) (end : DayEnd) (now : D) (s : ShownLine) : Type 0 where
    pub told : MayBeTold (at_count last s.count) s.station s.line
    pub among : s.count ≤ length last.journal
    pub kept : (left : Folder) → m.left_since now s.moment left → IsOpenOrClosed head s.count last end found left

  -- From the one disk to the other the journal goes on, and is a legal one of the day's stations. No line that was shown is lost. A crash at
  -- any moment leaves what it might have left before, or a log of the journal's first entries, what was found among them, or the day's files.
  pub record GoesOn (before : Folder → Type 0) (head : List ℕ) (found : Folder) (first last : History) (end : DayEnd) (shown shown_then : List ShownLine)
      (start now : D) : Type 0 where
    pub journal : HasGoneOn first last
    pub legal : IsLegal last.opened last.journal
    pub of_stations : AreOfStations last.opened last.journal
    pub lines : List ShownLine
    pub more : shown_then ≡ shown ++ lines
    pub each : AllByRecursion (IsNeverLost head found last end now) lines
    pub moments : LeavesOnly m start now (λ left. before left ⊎ IsOpenOrClosed head (length first.journal) last end found left)

  -- the journal goes on so, and at the day's end all lines that were typed were obeyed, one after another, and the day's files are
  -- in their places
  pub record IsClosedDay (ended : Type 0) (typed typed_then : List Typed) (before : Folder → Type 0) (head : List ℕ) (found : Folder) (first : History) (end : DayEnd)
      (shown shown_then : List ShownLine) (start now : D) (lived : Lived) : Type 0 where
    pub last : History
    pub goes_on : GoesOn before head found first last end shown shown_then start now
    pub run : IsDayRun ended typed typed_then first last shown shown_then
    pub placed : IsDayPlaced last end found (m.seen now)
    pub count : lived.count ≡ length last.journal

  -- A crash now leaves these first entries: recovery makes of what is left the folder that was found, with a log of so many at least, or with
  -- the day's files. Or nothing was performed, and it is what might have been left before.
  abbrev pub IsLeftNow : (Folder → Type 0) → List ℕ → Folder → History → History → DayEnd → D → ℕ → Type 0
  IsLeftNow before head found first last end now least =
      (left : Folder) → m.may_leave now left → IsOpenOrClosed head least last end found left ⊎ ((last ≡ first) × before left)

  -- Or it was stopped, or could not be closed: then the lines before were obeyed, one after another, and answered, and a crash now leaves
  -- their entries; of one group more the first may be obeyed.
  pub record IsUnclosedDay (typed typed_then : List Typed) (before : Folder → Type 0) (head : List ℕ) (found : Folder) (first : History) (end : DayEnd)
      (shown shown_then : List ShownLine) (start now : D) : Type 0 where
    pub last : History
    pub goes_on : GoesOn before head found first last end shown shown_then start now
    pub run : IsDayStopped (IsLeftNow before head found first last end now) typed typed_then first last shown shown_then

  -- a day that had begun ended so
  abbrev pub EndsDay : Type 0 → List Typed → List Typed → (Folder → Type 0) → List ℕ → Folder → History → DayEnd → List ShownLine → List ShownLine → D → D
      → Result Lived (Failure LiveFailure) → Type 0
  EndsDay ended typed typed_then before head found first end shown shown_then start now (Ok lived) =
      IsClosedDay ended typed typed_then before head found first end shown shown_then start now lived
  EndsDay ended typed typed_then before head found first end shown shown_then start now (Err why) =
      IsUnclosedDay typed typed_then before head found first end shown shown_then start now

  -- No day has begun: nothing was shown, and of what a crash leaves recovery makes what it makes of a folder that might have been left before.
  pub record HasNotBegun (shown shown_then : List ShownLine) (start now : D) : Type 0 where
    pub unshown : shown_then ≡ shown
    pub moments : LeavesOnly m start now (RecoversAsOneOf (m.may_leave start))

  -- A day was not begun on a folder that was recovered: what a crash leaves stands for its files, or for these with a log of the same
  -- entries in the place of the one that was found.
  abbrev pub IsUnbegunDay : Option (List NamedFile) → Options → D → D → Type 0
  IsUnbegunDay files options disk now = LeavesOnly m disk now (λ left. SameFree (m.seen disk) (recovered left))
      ⊎ ((head : List ℕ) × (first : History) × (earlier : ℕ) × IsFound files options (m.seen disk) head first earlier
      × LeavesOnly m disk now (IsOldOrPlacedWith log_name (head ++ log_of (parts_of first.journal)) [] (m.seen disk)))

  -- a life has begun on what it found in the folder of a disk, once that was recovered, and ended so
  pub record IsBegunLife (ended : Type 0) (typed typed_then : List Typed) (files : Option (List NamedFile)) (options : Options)
      (shown shown_then : List ShownLine) (start now : D) (how : Result Lived (Failure LiveFailure)) : Type 0 where
    pub head : List ℕ
    pub first : History
    pub earlier : ℕ
    pub found : IsFound files options (recovered (m.seen start)) head first earlier
    pub ends : EndsDay ended typed typed_then (RecoversAsOneOf (m.may_leave start)) head (recovered (m.seen start)) first (end_of_day options.today earlier)
        shown shown_then start now how

  -- A life over the folder of a disk: it has begun, or has failed before.
  abbrev pub IsLife : Type 0 → List Typed → List Typed → Option (List NamedFile) → Options → List ShownLine → List ShownLine → D → D
      → Result Lived (Failure LiveFailure) → Type 0
  IsLife ended typed typed_then files options shown shown_then start now (Ok lived) =
      IsBegunLife ended typed typed_then files options shown shown_then start now (Ok lived)
  IsLife ended typed typed_then files options shown shown_then start now (Err why) =
      HasNotBegun shown shown_then start now ⊎ IsBegunLife ended typed typed_then files options shown shown_then start now (Err why)

-- A life over the folder of a disk that was opened so.
pub record IsOpenedLife {D : Type 0} (m : DiskMeaning D) (is_opened : D → Type 0) (ended : Type 0) (typed typed_then : List Typed)
    (files : Option (List NamedFile)) (options : Options) (shown shown_then : List ShownLine) (how : Result Lived (Failure LiveFailure)) : Type 0 where
  pub start : D
  pub now : D
  pub opened : is_opened start
  pub life : m.keeps_promises → IsLife m ended typed typed_then files options shown shown_then start now how

-- a life over the folder of a disk ended so, or the folder was not opened, and nothing was shown
abbrev pub IsLifeOver : {D : Type 0} → DiskMeaning D → (D → Type 0) → Type 0 → List Typed → List Typed → Option (List NamedFile) → Options
    → List ShownLine → List ShownLine → Result Lived (Failure LiveFailure) → Type 0
IsLifeOver m is_opened ended typed typed_then files options shown shown_then (Ok lived) =
    IsOpenedLife m is_opened ended typed typed_then files options shown shown_then (Ok lived)
IsLifeOver m is_opened ended typed typed_then files options shown shown_then (Err why) =
    (shown_then ≡ shown) ⊎ IsOpenedLife m is_opened ended typed typed_then files options shown shown_then (Err why)

-- The words ask for a life over the folder of a path, and it ended so.
pub record IsAskedLife {D : Type 0} (m : DiskMeaning D) (opens : List ℕ → D → Type 0) (files : Option (List NamedFile)) (words : List Text)
    (ended : Type 0) (typed typed_then : List Typed) (shown shown_then : List ShownLine) (how : Result Lived (Failure LiveFailure)) : Type 0 where
  pub options : Options
  pub asked : IsAskedIn words options
  pub life : IsLifeOver m (opens options.out.now) ended typed typed_then files options shown shown_then how

-- Why there was no such life, or why it ended before its time: the words were not taken, or it failed. Lines are shown in it alone.
abbrev pub IsUnlived : {D : Type 0} → DiskMeaning D → (List ℕ → D → Type 0) → Option (List NamedFile) → List Text → Type 0 → List Typed
    → List Typed → List ShownLine → List ShownLine → Ending (Failure LiveFailure) → Type 0
IsUnlived m opens files words ended typed typed_then shown shown_then ending.NoText = ⊥
IsUnlived m opens files words ended typed typed_then shown shown_then (ending.CommandLine error) =
    (shown_then ≡ shown) × (takes prompt_app words ≡ true → kind_of error ≡ OutOfMemory)
IsUnlived m opens files words ended typed typed_then shown shown_then (ending.Failed why) =
    (shown_then ≡ shown) ⊎ IsAskedLife m opens files words ended typed typed_then shown shown_then (Err why)
