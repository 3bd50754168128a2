-- What is said of a station whose lines or answers were not all had, and of a day's end.
use Rattle.std.specs.Prelude.{◌≡◌, ◌≤◌, Bool, true, false, ℕ, ◌+◌, List, [], ◌∷◌, ◌++◌, codes, Option, Some, None, Result, IfErr, IfOk, IfSome, IsErr, OnOk}
use Rattle.std.specs.Io.KnownBytes.{Appends}
use Rattle.std.specs.Process.{exit_status}
use Rattle.clap.specs.Words.{Text}
use Rattle.folders.specs.declared.named.NamedFile.{NamedFile}
use Rattle.std.specs.Fmt.{decimal}
use Rattle.station_lines.specs.declared.script.format.TheConstants.{LF}
use Rattle.live_day.specs.declared.keyboard.TypingFault.TheVariants as typing
use Rattle.office_run.specs.declared.fault.ServeFault.TheVariants as serve
use Rattle.office_run.specs.declared.run_fault.RunFault.TheVariants as run
use Rattle.program_frame.specs.declared.ending.Ending.{Ending}
use Rattle.program_frame.specs.declared.ending.Ending.TheVariants as ending
use Rattle.program_frame.specs.declared.ending.Failure.{Failure}
use Rattle.program_frame.specs.declared.ending.Failure.TheVariants as failure
use Rattle.live_program.specs.declared.failure.LiveFailure.{LiveFailure}
use Rattle.live_program.specs.declared.failure.LiveFailure.TheVariants as live
use Rattle.live_program.specs.declared.lived.Lived.{Lived}
use Rattle.live_program.specs.declared.running.TheConstants.{PROGRAM}
use Rattle.live_program.specs.Endings.{count_line, no_memory, reason, status}
use Rattle.live_program.specs.Sayings.{HasSaidFor}
use Rattle.program_frame.specs.declared.telling.Told.{Told}
use Rattle.program_frame.specs.Endings.{ending_line, ending_status, failure_status, failure_words}
use Rattle.program_frame.specs.Telling.{unprinted_line}
use Rattle.live_stations.specs.declared.threads.ThreadFault.{ThreadFault}
use Rattle.live_stations.specs.declared.threads.ThreadFault.TheVariants as thread
use Rattle.live_stations.specs.declared.day.StationLeft.{StationLeft}
use Rattle.live_stations.specs.declared.typist.LinesEnd.{LinesEnd}
use Rattle.live_stations.specs.declared.typist.LinesEnd.TheVariants as ended

-- a line on a station, its LF too
abbrev pub station_said : ℕ → List ℕ → List ℕ
station_said station words = codes "station_prompt: station " ++ (decimal station ++ (codes ": " ++ (words ++ LF ∷ [])))

-- why no more lines of a station are read, where it did not end them
abbrev pub end_words : LinesEnd → Option (List ℕ)
end_words ended.Unopened = Some (codes "its path can't be opened")
end_words ended.Unprinted = Some (codes "its answers can't be shown any more")
end_words (ended.Unread typing.Failed) = Some (codes "its lines can't be read any more")
end_words (ended.Unread typing.NoMemory) = Some (codes "memory was refused for a line, and no more are read")
end_words end = None

-- what is said of a station, if there are words
abbrev pub said_if_some : ℕ → Option (List ℕ) → List ℕ
said_if_some station None = []
said_if_some station (Some words) = station_said station words

-- what is said of a station, unless this is so
abbrev pub said_unless : Bool → ℕ → List ℕ → List ℕ
said_unless true station words = []
said_unless false station words = station_said station words

-- what is said of a station whose lines or answers were not all had
abbrev pub station_text : ℕ → LinesEnd → Bool → List ℕ
station_text station end all_printed =
    said_if_some station (end_words end) ++ said_unless all_printed station (codes "not all its answers were shown")

-- what there is to say of each station from this one on
abbrev pub stations_text : {K W : Type 0} → ℕ → List (StationLeft K W) → List ℕ
stations_text n [] = []
stations_text n (left ∷ stations) = station_text n left.end left.all_printed ++ stations_text (n + 1) stations

-- whether a station was shown all its answers, and would have been shown more
abbrev pub shows_all : LinesEnd → Bool → Bool
shows_all ended.Unprinted all_printed = false
shows_all end all_printed = all_printed

-- a station, by what it has left, was shown all its answers, and would have been shown more
abbrev pub is_shown_all : {K W : Type 0} → StationLeft K W → Bool
is_shown_all left = shows_all left.end left.all_printed

-- why no day was lived where a station has no threads
abbrev pub unlived : ThreadFault → Ending (Failure LiveFailure)
unlived (thread.NoThread station) = ending.Failed (failure.Work (live.Serve (serve.Run (run.NoThread station))))
unlived thread.NoMemory = ending.Failed (failure.Work (live.Serve serve.NoMemory))

-- why a day of so many stations has not begun: one of them has no threads, or memory was refused
abbrev pub IsThreadFault : ℕ → ThreadFault → Type 0
IsThreadFault count (thread.NoThread station) = (1 ≤ station) × (station ≤ count)
IsThreadFault count thread.NoMemory = Unit {0}

-- The end of a day was told, with this exit status: how many commands there were, on the one stream, or why it ended before its
-- time, on the other, after what was said there at its start and nothing else.
pub record IsEndTold {O E : Type 0} (files : Option (List NamedFile)) (words : List Text) (printed : O → Option (List ℕ)) (said : E → Option (List ℕ))
    (old new : O) (first err : E) (ended : Result Lived (Ending (Failure LiveFailure))) (told : Told) : Type 0 where
  pub before : Option (List ℕ)
  pub begun : HasSaidFor files words (said first) before
  pub done : IfOk ended (λ lived. exit_status told.status ≡ 0)
  pub failed : IfErr ended (λ why. exit_status told.status ≡ ending_status (failure_status status) why)
  pub text : IfOk ended (λ lived. OnOk told.out (Appends (printed old) (printed new) (count_line lived.count)))
  pub line : IfErr ended (λ why. IfSome (ending_line (failure_words reason) (failure.Work no_memory) PROGRAM.now why) (λ line.
      OnOk told.err (Appends before (said err) line)))
  pub unprinted : IsErr told.out → OnOk told.err (Appends before (said err) (unprinted_line PROGRAM.now))
