-- The lines of a text of CSV, each as the texts between its commas.
use Rattle.std.specs.Prelude.{◌≡◌, ◌≢◌, ℕ, ◌+◌, ◌++◌, Bool, true, false, List, [], ◌∷◌, length, Option, Some, None, IsSome}
use Rattle.std.proofs.Common.{Bor}
use Rattle.csv.specs.Machine.{ends_at_end}
use Rattle.csv.specs.Reading.{Ready, is_flexible, reader_config, reader_state, reader_trim, records, records_from, source_of, strip_bom}
use Rattle.csv.specs.declared.parser.Config.{Config}
use Rattle.csv.specs.declared.parser.State.{State}
use Rattle.csv.specs.declared.parser.Terminator.TheVariants.{CRLF}
use Rattle.csv.specs.declared.reader.Reader.{Reader}
use Rattle.csv.specs.declared.reader.Trim.TheVariants as trim
use Rattle.table_loader.specs.declared.form.Separator.{Separator}
use Rattle.table_loader.specs.declared.form.Separator.TheVariants.{Comma, Semicolon, Tab}

-- the byte order mark, which some programs write before a text: U+FEFF in UTF-8, EF BB BF
abbrev pub utf8_mark : List ℕ
utf8_mark = 0xEF ∷ 0xBB ∷ 0xBF ∷ []

-- no such mark stands before the text
abbrev pub HasNoMark : List ℕ → Type 0
HasNoMark text = (rest : List ℕ) → text ≢ utf8_mark ++ rest

-- what stands between two cells of a line
abbrev pub separator_byte : Separator → ℕ
separator_byte Comma = 44
separator_byte Semicolon = 59
separator_byte Tab = 9

-- how a text is read whose cells this byte separates
abbrev pub separated : ℕ → Config
separated by = record { delimiter = by; quote = 34; escape = None; double_quote = true; quoting = true; comment = None; terminator = CRLF }

-- The lines of a text whose cells this byte separates, after a byte order mark at its start, as the reader of CSV takes them: a text
-- between quotes may go over several lines of the file, and a line of the file without a byte is none.
abbrev pub csv_lines : ℕ → List ℕ → List (List (List ℕ))
csv_lines by text = records (separated by) (strip_bom text)

-- the lines of bytes that are left, read from a state on
abbrev pub lines_from : ℕ → State → Option (List ℕ) → List (List (List ℕ))
lines_from by state None = []
lines_from by state (Some bytes) = records_from (separated by) (length bytes + 1) state bytes

-- the bytes that a reader has left
abbrev pub bytes_left : Reader (Bor (List ℕ)) → Option (List ℕ)
bytes_left reader = source_of (λ source. Some source.now) reader

-- the byte that separates its cells
abbrev pub separator_of : Reader (Bor (List ℕ)) → ℕ
separator_of reader = (reader_config reader).delimiter

-- the lines that it has left
abbrev pub lines_left : Reader (Bor (List ℕ)) → List (List (List ℕ))
lines_left reader = lines_from (separator_of reader) (reader_state reader) (bytes_left reader)

-- a reader of CSV, between two lines of bytes that are known; its lines may have cells of any number
pub record ReadsCsv (reader : Reader (Bor (List ℕ))) : Type 0 where
  pub config : reader_config reader ≡ separated (separator_of reader)
  pub trims : reader_trim reader ≡ trim.None
  pub any_length : is_flexible reader ≡ true
  pub ready : Ready reader
  pub known : IsSome (bytes_left reader)
  pub between : ends_at_end (reader_state reader) ≡ false

-- the first of the lines is taken, or there is none
abbrev pub IsNextLine : Bool → List (List (List ℕ)) → List (List ℕ) → List (List (List ℕ)) → Type 0
IsNextLine true lines cells rest = lines ≡ cells ∷ rest
IsNextLine false lines cells rest = lines ≡ []
