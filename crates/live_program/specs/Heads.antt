-- The head of a log: the files with which its day began, and the day that was closed before.
use Rattle.std.specs.Prelude.{◌≡◌, ◌≢◌, ◌⊎◌, ◌<◌, ◌++◌, ℕ, Bool, true, false, List, []}
use Rattle.journal_file.specs.declared.reads.ReadsFault.{ReadsFault}
use Rattle.journal_file.specs.declared.reads.ReadsFault.TheVariants as reads
use Rattle.journal_file.specs.declared.sum.FileSum.{FileSum}
use Rattle.journal_file.specs.WholeText.{read_word, reads_and, IsOtherFile, IsReadsFault}
use Rattle.office_run.specs.declared.fault.ServeFault.TheVariants as serve
use Rattle.open_day.specs.OpenDay.{earlier_and, is_open_log, BeginsWithNoEarlier, IsEarlier}
use Rattle.live_program.specs.declared.failure.LiveFailure.{LiveFailure}
use Rattle.live_program.specs.declared.failure.LiveFailure.TheVariants as live

-- the head of a day's log: the lines of the files that were read, whether the indexes were made anew, and how many commands the day had
-- that was closed before
abbrev pub head_of : List FileSum → Bool → ℕ → List ℕ
head_of read reindex earlier = reads_and read reindex (earlier_and earlier [])

-- the log of a day that is open begins with its head, and tells in it how many commands the day had that was closed before
pub record IsOpenBehind (read : List FileSum) (reindex : Bool) (log : List ℕ) (earlier : ℕ) (body : List ℕ) : Type 0 where
  pub is_open : is_open_log log ≡ true
  pub log_is : log ≡ reads_and read reindex (earlier_and earlier body)

-- that of another day has no head, and may be that of the day that was closed
pub record IsClosedBehind (log : List ℕ) (earlier : ℕ) (body : List ℕ) : Type 0 where
  pub is_closed : is_open_log log ≡ false
  pub body_is : body ≡ log
  pub before : IsEarlier log earlier

-- what a log tells: how many commands the day had that was closed before, and what stands behind the head
abbrev pub IsBehindHead : List FileSum → Bool → List ℕ → ℕ → List ℕ → Type 0
IsBehindHead read reindex log earlier body = IsOpenBehind read reindex log earlier body ⊎ IsClosedBehind log earlier body

-- a file's place is one of so many
abbrev pub IsPlaceIn : ReadsFault → ℕ → Type 0
IsPlaceIn (reads.File place) count = place < count
IsPlaceIn fault count = Unit {0}

-- why a day does not go on with a log that begins otherwise: a file is another one, or what is said of the indexes
abbrev pub IsHeadFault : List ℕ → List FileSum → Bool → LiveFailure → Type 0
IsHeadFault log read reindex (live.OtherFile path) = (place : ℕ) × (other : IsOtherFile log read place) × (path ≡ other.sum.path)
IsHeadFault log read reindex live.OtherReindex = IsReadsFault log read reindex reads.Reindex
IsHeadFault log read reindex (live.Serve serve.NoMemory) = Unit {0}
IsHeadFault log read reindex why = ⊥

-- the log does not begin with the line of a file
abbrev pub BeginsWithNoFile : List ℕ → Type 0
BeginsWithNoFile log = (rest : List ℕ) → log ≢ read_word ++ rest

-- it does, and may be told from another day's
abbrev pub BeginsWithFile : List ℕ → Type 0
BeginsWithFile log = (rest : List ℕ) × (log ≡ read_word ++ rest)

-- the lines of all files are first, and then not the one of the day that was closed before
abbrev pub EndsOtherwise : List ℕ → List FileSum → Bool → Type 0
EndsOtherwise log read reindex = (counted : List ℕ) × (log ≡ reads_and read reindex counted) × BeginsWithNoEarlier counted

-- The log is that of a day that is open, and none of this version, which needs no memory to be seen where it does not begin with the line of
-- a file; or it begins with such a line, and then otherwise.
abbrev pub IsHeadFailure : List ℕ → List FileSum → Bool → LiveFailure → Type 0
IsHeadFailure log read reindex why =
    (is_open_log log ≡ true)
    × (((why ≡ live.OtherVersion) × (BeginsWithNoFile log ⊎ EndsOtherwise log read reindex)) ⊎ (BeginsWithFile log × IsHeadFault log read reindex why))
