-- The lines of the keyboard that are none of a script.
use Rattle.std.specs.Prelude.{◌≡◌, ◌<◌, ◌^◌, ◌&&◌, Bool, true, false, ℕ, List, codes, drop, take}
use Rattle.std.specs.Str.{str_eq_ignore_ascii_case}
use Rattle.std.specs.Fmt.{decimal}
use Rattle.station_lines.specs.BadSetupLines.{plain_word, second_plain_word}
use Rattle.station_lines.specs.JournalLines.{IsNoNumber}
use Rattle.station_lines.specs.Script.Reading.{is_empty}
use Rattle.live_day.specs.declared.wish.TheConstants.{STATION_WORD_BYTES}
use Rattle.live_day.specs.declared.wish.Wish.{Wish}
use Rattle.live_day.specs.declared.wish.Wish.TheVariants.{Station, Quit, Perform}

-- the line is QUIT, in letters of either case; blanks at its ends count for nothing
abbrev pub is_quit : List ℕ → Bool
is_quit line = str_eq_ignore_ascii_case (plain_word line) (codes "QUIT") && is_empty (second_plain_word line)

-- the bytes are STATION and a blank, in letters of either case
abbrev pub is_station_word : List ℕ → Bool
is_station_word word = str_eq_ignore_ascii_case word (codes "STATION ")

-- STATION and a blank, and after them this
abbrev pub BeginsWithStation : List ℕ → List ℕ → Type 0
BeginsWithStation line number = (is_station_word (take STATION_WORD_BYTES line) ≡ true) × (drop STATION_WORD_BYTES line ≡ number)

-- what a line asks for: STATION and a number, QUIT, and else nothing of the keyboard
abbrev pub IsWishOf : List ℕ → Wish → Type 0
IsWishOf line (Station n) = (is_quit line ≡ false) × BeginsWithStation line (decimal n) × (n < 2 ^ 64)
IsWishOf line Quit = is_quit line ≡ true
IsWishOf line Perform = (is_quit line ≡ false) × ((number : List ℕ) → BeginsWithStation line number → IsNoNumber number)
