-- Lines that are there together.
use Rattle.std.specs.Prelude.{◌≡◌, ◌≤◌, ℕ, List, ◌++◌, length, map, take, slice_get, Option, Some, MatchOption, Result, Ok, Err}
use Rattle.catalogue_core.specs.Replay.{History}
use Rattle.live_day.specs.declared.group.Front.{Front}
use Rattle.live_day.specs.declared.keyboard.Typed.{Typed}
use Rattle.live_day.specs.declared.notice.Notice.{Notice}
use Rattle.live_day.specs.declared.typing.Then.{Then}
use Rattle.live_day.specs.declared.typing.Then.TheVariants.{More, Over, Failed}
use Rattle.live_day.specs.declared.waiting.WaitingAnswer.{WaitingAnswer}
use Rattle.live_day.specs.declared.wish.Wish.TheVariants.{Quit}
use Rattle.live_day.specs.Sessions.{Told, AreObeyed, IsEnd, IsObeyed, IsWishTyped, notice_told}
use Rattle.live_day.specs.Shows.{MayBeSaid}
use Rattle.live_day.specs.Typing.{HasTyped, HasTypedFirst, IsAllTyped}

-- a typed line is not `QUIT`
abbrev pub IsNoQuit : Typed → Type 0
IsNoQuit typed = ¬ (IsWishTyped typed Quit)

-- an answer that waits, as it will be told
abbrev pub told_by : WaitingAnswer → Told
told_by answer = (answer.station, answer.count, answer.line)

-- answers that wait, as they will be told
abbrev pub all_told_by : List WaitingAnswer → List Told
all_told_by answers = map told_by answers

-- these answers will be told once those that wait have become more
pub record WaitsToTell (waiting waiting_then : List WaitingAnswer) (told : List Told) : Type 0 where
  pub answers : List WaitingAnswer
  pub more : waiting_then ≡ waiting ++ answers
  pub told_is : told ≡ all_told_by answers

-- nothing is performed of the line, and where the station is told this it is obeyed
pub record IsRefused (station : ℕ) (typed : Typed) (h : History) (n : Notice) : Type 0 where
  pub said : MayBeSaid h n
  pub obeyed : IsObeyed station typed h station h (notice_told station h n)

-- a line was obeyed, and its answer waits; or nothing was performed of it
abbrev pub HasMade : ℕ → Typed → History → History → List WaitingAnswer → List WaitingAnswer → Result ℕ Notice → Type 0
HasMade station typed old new waiting waiting_then (Ok next) =
    (told : List Told) × WaitsToTell waiting waiting_then told × IsObeyed station typed old next new told
HasMade station typed old new waiting waiting_then (Err n) = IsRefused station typed old n

-- nothing is performed of the next line
pub record IsNextRefused (lines : List Typed) (front : Front) (h : History) (n : Notice) : Type 0 where
  pub typed : Typed
  pub next : slice_get lines front.count ≡ Some typed
  pub refused : IsRefused front.station typed h n

-- the first of these lines were obeyed, one after another, and their answers wait; nothing is performed of the next, if there is one
pub record IsFrontObeyed (station : ℕ) (lines : List Typed) (old : History) (front : Front) (new : History) : Type 0 where
  pub within : front.count ≤ length lines
  pub obeyed : AreObeyed (take front.count lines) station old front.station new (all_told_by front.answers.items)
  pub stopped : MatchOption front.stopped (front.count ≡ length lines) (IsNextRefused lines front new)

-- What was typed since is these lines, and after them nothing; or QUIT, which ends the day, or no more come. It is the first lines of the
-- text. Where the next line could not be read, it is these lines too.
abbrev pub IsGroupTyped : Type 0 → Option (List ℕ) → Option (List ℕ) → List Typed → List Typed → List Typed → Then → Type 0
IsGroupTyped ended text text_then typed typed_then lines More = (typed_then ≡ typed ++ lines) × HasTyped text text_then typed typed_then
IsGroupTyped ended text text_then typed typed_then lines Over =
    (end : List Typed) × IsEnd (IsAllTyped ended text text_then) end × (typed_then ≡ typed ++ lines ++ end) × HasTyped text text_then typed typed_then
IsGroupTyped ended text text_then typed typed_then lines (Failed fault) = (typed_then ≡ typed ++ lines) × HasTypedFirst text typed typed_then
