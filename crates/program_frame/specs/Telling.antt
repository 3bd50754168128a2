-- What a program says at its end, where that is the same for all of them: the exit status, and what is printed.
use Rattle.std.specs.Prelude.{ℕ, List, ◌++◌, ◌∷◌, [], codes, Option, Some, None, Result, Ok, Err}
use Rattle.clap.specs.declared.error.kind.ErrorKind.{ErrorKind}
use Rattle.clap.specs.declared.error.kind.ErrorKind.TheVariants as kind
use Rattle.station_lines.specs.declared.script.format.TheConstants.{LF}

-- ---- the exit status

-- the exit status if an argument is no UTF-8 text
abbrev pub no_text_status : ℕ
no_text_status = 1

-- the exit status if `clap` gave no options: the help or the version is asked for, memory was refused, or there is a mistake
abbrev pub mistake_status : ErrorKind → ℕ
mistake_status kind.DisplayHelp = 0
mistake_status kind.DisplayVersion = 0
mistake_status kind.OutOfMemory = 3
mistake_status _ = 1

-- ---- what is printed

-- the line on standard error if standard output took no text of this program
abbrev pub unprinted_line : List ℕ → List ℕ
unprinted_line program = program ++ (codes ": cannot print" ++ LF ∷ [])

-- the line on standard error if an argument is no UTF-8 text
abbrev pub no_text_line : List ℕ
no_text_line = codes "error: an argument is no UTF-8 text" ++ LF ∷ []

-- the line for which `clap` has no text of its own: that memory was refused
abbrev pub mistake_line : List ℕ → ErrorKind → Option (List ℕ)
mistake_line no_memory_line kind.OutOfMemory = Some no_memory_line
mistake_line no_memory_line _ = None

-- ---- a call that came to its end

-- what stands before the words that standard output took no text, if they are said besides
abbrev pub said_before : {R E : Type 0} → (R → List ℕ) → Result R E → List ℕ
said_before aside (Ok report) = aside report
said_before aside (Err ending) = []
