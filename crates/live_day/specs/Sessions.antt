-- What is made of the lines that are typed, one after another.
use Rattle.std.specs.Prelude.{◌≡◌, ◌≢◌, ◌⊎◌, ◌≤◌, ◌<◌, ℕ, List, [], ◌∷◌, ◌++◌, length, map, Option, Some, None}
use Rattle.catalogue_core.specs.declared.command.Command.TheVariants.{Bad}
use Rattle.catalogue_core.specs.Replay.{History}
use Rattle.station_lines.specs.declared.script.line.Line.{Line}
use Rattle.station_lines.specs.declared.script.line.Line.TheVariants.{Run}
use Rattle.station_lines.specs.Script.Meaning.{Means}
use Rattle.live_day.specs.declared.keyboard.Typed.{Typed}
use Rattle.live_day.specs.declared.keyboard.Typed.TheVariants.{Text, TooLong, Cut}
use Rattle.live_day.specs.declared.notice.Notice.{Notice}
use Rattle.live_day.specs.declared.notice.Notice.TheVariants.{NoMemory, JournalFull, NoStation}
use Rattle.live_day.specs.declared.notice.Notice.TheVariants as notice
use Rattle.live_day.specs.declared.wish.Wish.{Wish}
use Rattle.live_day.specs.declared.wish.Wish.TheVariants.{Station, Quit, Perform}
use Rattle.live_day.specs.Days.{AnswersLine, HasNoRoomFor}
use Rattle.live_day.specs.Shows.{ShownLine, notice_text}
use Rattle.live_day.specs.Wishes.{IsWishOf}

-- a station, how many entries the journal has, and a line that it is told of these
abbrev pub Told : Type 0
Told = ℕ × ℕ × List ℕ

-- what was told in a line that was shown: the station, how many entries the journal had, and the line
abbrev pub told_in : ShownLine → Told
told_in s = (s.station, s.count, s.line)

-- this was told between the one moment and the other
pub record TellsMore (shown shown_then : List ShownLine) (told : List Told) : Type 0 where
  pub lines : List ShownLine
  pub more : shown_then ≡ shown ++ lines
  pub told_is : told ≡ map told_in lines

-- what a typed line means in a script: one that is too long can't be read, one that was cut means nothing
abbrev pub MeansTyped : Typed → Line → Type 0
MeansTyped (Text line) meaning = Means line meaning
MeansTyped TooLong meaning = meaning ≡ Run Bad
MeansTyped Cut meaning = ⊥

-- what a typed line asks for: one that is too long or was cut, nothing of the keyboard
abbrev pub IsWishTyped : Typed → Wish → Type 0
IsWishTyped (Text line) wish = IsWishOf line wish
IsWishTyped TooLong wish = wish ≡ Perform
IsWishTyped Cut wish = wish ≡ Perform

-- one line is told, of all entries that the journal has
abbrev pub one_told : ℕ → History → List ℕ → List Told
one_told station h line = (station, length h.journal, line) ∷ []

-- a station is told its answer, if there is one
abbrev pub answer_told : ℕ → History → Option (List ℕ) → List Told
answer_told station h None = []
answer_told station h (Some line) = one_told station h line

-- the station is told this notice
abbrev pub notice_told : ℕ → History → Notice → List Told
notice_told station h n = one_told station h (notice_text n)

-- the line is a whole one and was performed by its meaning, and its answer is told of the journal as it is then: of its own entry, where it has one
pub record IsLineAnswered (station : ℕ) (typed : Typed) (old new : History) (told : List Told) : Type 0 where
  pub whole : typed ≢ Cut
  pub answer : Option (List ℕ)
  pub by_meaning : (meaning : Line) → MeansTyped typed meaning → AnswersLine meaning station old new answer
  pub told_is : told ≡ answer_told station new answer

-- What is told of a line of which nothing was performed: want of memory; or that the journal is full, where it is and the line would be an
-- entry; or that the line was cut, where it was.
abbrev pub IsLineRefused : Typed → History → Notice → Type 0
IsLineRefused typed h NoMemory = Unit {0}
IsLineRefused typed h JournalFull = HasNoRoomFor (MeansTyped typed) h
IsLineRefused typed h NoStation = ⊥
IsLineRefused typed h notice.Cut = typed ≡ Cut

-- nothing was performed, and that is told
pub record IsNotPerformed (station : ℕ) (typed : Typed) (old new : History) (told : List Told) : Type 0 where
  pub same : new ≡ old
  pub why : Notice
  pub refused : IsLineRefused typed old why
  pub told_is : told ≡ notice_told station old why

-- a line was performed and its answer told, or nothing was performed, and that was told
abbrev pub IsLineDone : ℕ → Typed → History → History → List Told → Type 0
IsLineDone station typed old new told = IsLineAnswered station typed old new told ⊎ IsNotPerformed station typed old new told

-- the station of this number has the keyboard next, where there is one; else that there is none is told
abbrev pub IsSeated : History → ℕ → ℕ → ℕ → List Told → Type 0
IsSeated h wanted station next told =
    ((1 ≤ wanted) × (wanted ≤ h.opened.stations) × (next ≡ wanted) × (told ≡ []))
    ⊎ (((wanted < 1) ⊎ (h.opened.stations < wanted)) × (next ≡ station) × (told ≡ notice_told station h NoStation))

-- what is made of a line by what it asks for: which station has the keyboard next, what was performed, and what is told
abbrev pub IsMade : Wish → ℕ → Typed → History → ℕ → History → List Told → Type 0
IsMade (Station wanted) station typed old next new told = (new ≡ old) × IsSeated old wanted station next told
IsMade Quit station typed old next new told = ⊥
IsMade Perform station typed old next new told = (next ≡ station) × IsLineDone station typed old new told

-- what is made of a typed line
pub record IsObeyed (station : ℕ) (typed : Typed) (old : History) (next : ℕ) (new : History) (told : List Told) : Type 0 where
  pub wish : Wish
  pub asked : IsWishTyped typed wish
  pub made : IsMade wish station typed old next new told

-- the first line is obeyed, and then it goes on so
pub record ObeysFirst (goes_on : ℕ → History → List Told → Type 0) (station : ℕ) (typed : Typed) (old : History) (told : List Told) : Type 0 where
  pub next : ℕ
  pub mid : History
  pub first : List Told
  pub others : List Told
  pub obeyed : IsObeyed station typed old next mid first
  pub rest : goes_on next mid others
  pub told_is : told ≡ first ++ others

-- what is made of typed lines, one after another
abbrev pub AreObeyed : List Typed → ℕ → History → ℕ → History → List Told → Type 0
AreObeyed [] station old next new told = (next ≡ station) × (new ≡ old) × (told ≡ [])
AreObeyed (line ∷ lines) station old next new told = ObeysFirst (λ s h others. AreObeyed lines s h next new others) station line old told

-- the line that ends a day is QUIT; or there is none, since no more come
abbrev pub IsEnd : Type 0 → List Typed → Type 0
IsEnd ended [] = ended
IsEnd ended (line ∷ lines) = IsWishTyped line Quit × (lines ≡ [])

-- The lines that were typed were obeyed up to now, one after another, from the first station on; and these are those that were told.
pub record HasObeyed (typed typed_now : List Typed) (old now : History) (shown shown_now : List ShownLine) (station : ℕ) : Type 0 where
  pub lines : List Typed
  pub read : typed_now ≡ typed ++ lines
  pub told : List Told
  pub obeyed : AreObeyed lines 1 old station now told
  pub tells : TellsMore shown shown_now told

-- All lines that were typed were obeyed, one after another, up to QUIT or to the end of what is typed.
pub record IsDayRun (ended : Type 0) (typed typed_then : List Typed) (old new : History) (shown shown_then : List ShownLine) : Type 0 where
  pub end : List Typed
  pub at_end : IsEnd ended end
  pub typed_before : List Typed
  pub read : typed_then ≡ typed_before ++ end
  pub station : ℕ
  pub obeyed : HasObeyed typed typed_before old new shown shown_then station
