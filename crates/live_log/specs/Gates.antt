-- The bytes of a log: lines of the journal, each after a gate, which is one byte, and its sum.
use Rattle.std.specs.Prelude.{◌≡◌, ◌≢◌, ◌⊎◌, ◌<◌, ◌+◌, ℕ, length, map, take, List, [], ◌∷◌, ◌++◌, Option, Some, None}
use Rattle.catalogue_core.specs.declared.entry.Entry.{Entry}
use Rattle.dbf_fields.specs.declared.format.TheConstants.{BLANK}
use Rattle.hex.specs.Hex.{encode_lower}
use Rattle.sha2.specs.Sha256.{sha256}
use Rattle.station_lines.specs.JournalLines.{entry_and, lines_and, line_parts, HasSmallNumbers, HaveSmallNumbers}
use Rattle.live_log.specs.declared.faults.ReadFault.{ReadFault}
use Rattle.live_log.specs.declared.faults.ReadFault.TheVariants.{Changed, NoMemory}
use Rattle.live_log.specs.declared.gates.TheConstants.{OPEN_GATE, SHUT_GATE}
use Rattle.live_log.specs.declared.lines.ReadLines.{ReadLines}
use Rattle.live_log.specs.declared.lines.TheConstants.{SUM_BYTES}

-- what an entry's line shows: the station, the command's line and the answer's
abbrev pub LineParts : Type 0
LineParts = ℕ × List ℕ × List ℕ

-- the sum of an entry's line: the first 8 bytes of its SHA-256, in hex with small letters
unfoldable pub sum_of_line : List ℕ → List ℕ
sum_of_line line = encode_lower (take SUM_BYTES (sha256 line))

-- what a log has after an entry's gate, and what stands after it: the sum of the entry's line, a blank, and this line
abbrev pub log_line_and : LineParts → List ℕ → List ℕ
log_line_and e rest = sum_of_line (entry_and e []) ++ (BLANK ∷ entry_and e rest)

-- an entry's line is first, after its sum
pub record BeginsWithLogLine (text : List ℕ) (e : LineParts) (rest : List ℕ) : Type 0 where
  pub is : text ≡ log_line_and e rest
  pub small : HasSmallNumbers e

-- no entry's line is first after its sum
abbrev pub BeginsWithNoLogLine : List ℕ → Type 0
BeginsWithNoLogLine text = (e : LineParts) (rest : List ℕ) → HasSmallNumbers e → text ≢ log_line_and e rest

-- the lines of entries, each with its sum after an open gate, and what stands after them
abbrev pub gated : List LineParts → List ℕ → List ℕ
gated [] rest = rest
gated (e ∷ es) rest = OPEN_GATE ∷ log_line_and e (gated es rest)

-- the log of these entries and of nothing else: their lines, and a shut gate
abbrev pub log_of : List LineParts → List ℕ
log_of es = gated es (SHUT_GATE ∷ [])

-- What may stand after lines behind open gates, and the entries of it that count: a shut gate, and anything behind it, of which nothing
-- counts; or a gate that was torn when it was to be opened, and is neither open nor shut. The group behind that one was on the disk
-- before, so all of it is whole, and counts.
abbrev pub IsLogEnd : List ℕ → List LineParts → Type 0
IsLogEnd [] last = ⊥
IsLogEnd (gate ∷ rest) last =
    ((gate ≡ SHUT_GATE) × (last ≡ [])) ⊎ ((gate ≢ SHUT_GATE) × (gate ≢ OPEN_GATE) × (OPEN_GATE ∷ rest ≡ log_of last))

-- The log is these entries' lines: the first ones after open gates, and then such an end.
pub record StandsFor (log : List ℕ) (es : List LineParts) : Type 0 where
  pub front : List LineParts
  pub last : List LineParts
  pub rest : List ℕ
  pub is : log ≡ gated front rest
  pub end : IsLogEnd rest last
  pub all : es ≡ front ++ last
  pub small : HaveSmallNumbers es

-- the log stands for the entries, with the group or without it
abbrev pub StandsForEither : List ℕ → List LineParts → List LineParts → Type 0
StandsForEither log es group = StandsFor log es ⊎ StandsFor log (es ++ group)

-- the bytes are those of a group of entries, one at least: their lines after open gates, and a shut gate
pub record IsGroup (group : List LineParts) (bytes : List ℕ) : Type 0 where
  pub is : bytes ≡ log_of group
  pub some : 0 < length group
  pub small : HaveSmallNumbers group

-- the bytes are the log of some entries and of nothing else
pub record IsWholeLog (bytes : List ℕ) : Type 0 where
  pub entries : List LineParts
  pub is : bytes ≡ log_of entries
  pub small : HaveSmallNumbers entries

-- the file's log, where there is a file, and else the log without entries
abbrev pub or_empty_log : Option (List ℕ) → List ℕ
or_empty_log None = log_of []
or_empty_log (Some log) = log

-- The bytes are the entries' lines after open gates, and their numbers are of 64 bits.
pub record HasPutEntries (entries : List Entry) (bytes : List ℕ) : Type 0 where
  pub is : bytes ≡ gated (map line_parts entries) []
  pub small : HaveSmallNumbers (map line_parts entries)

-- What a log says: the journal's text, which is its entries' lines without gates and sums, the log of these entries and of nothing else,
-- and how many there are.
pub record IsLogText (log journal whole : List ℕ) (count : ℕ) : Type 0 where
  pub entries : List LineParts
  pub count_is : count ≡ length entries
  pub stands : StandsFor log entries
  pub journal_is : journal ≡ lines_and entries []
  pub whole_is : whole ≡ log_of entries

-- ---- a log that says nothing

-- an open gate and an entry's line after its sum are not first
abbrev pub BeginsWithNoGatedLine : List ℕ → Type 0
BeginsWithNoGatedLine text = (e : LineParts) (rest : List ℕ) → HasSmallNumbers e → text ≢ OPEN_GATE ∷ log_line_and e rest

-- The entry of this number is the first that does not stand in the log as it was put: those before it do, and the log stands for no
-- entries.
pub record IsChangedAt (log : List ℕ) (number : ℕ) : Type 0 where
  pub front : List LineParts
  pub rest : List ℕ
  pub is : log ≡ gated front rest
  pub small : HaveSmallNumbers front
  pub number_is : number ≡ length front + 1
  pub no_line : BeginsWithNoGatedLine rest
  pub none : (es : List LineParts) → StandsFor log es → ⊥

-- why a log says nothing: it is changed, or memory was refused
abbrev pub IsLogUnread : List ℕ → ReadFault → Type 0
IsLogUnread log (Changed number) = IsChangedAt log number
IsLogUnread log NoMemory = Unit {0}

-- ---- reading

-- these entries' lines were read beside those before
pub record AddsLines (old new : ReadLines) (more : List LineParts) : Type 0 where
  pub journal_is : new.journal.items ≡ old.journal.items ++ lines_and more []
  pub whole_is : new.whole.items ≡ old.whole.items ++ gated more []
  pub count_is : new.count ≡ old.count + length more
  pub small : HaveSmallNumbers more

-- the text was read up to the rest
pub record HasReadTo (old new : ReadLines) (text rest : List ℕ) : Type 0 where
  pub more : List LineParts
  pub is : text ≡ gated more rest
  pub adds : AddsLines old new more

-- After an open gate of the text no entry's line stands after its sum: that of the entry of this number, where so many entries are before
-- the text.
pub record HasNoLine (count : ℕ) (text : List ℕ) (number : ℕ) : Type 0 where
  pub more : List LineParts
  pub left : List ℕ
  pub is : text ≡ gated more (OPEN_GATE ∷ left)
  pub small : HaveSmallNumbers more
  pub none : BeginsWithNoLogLine left
  pub number_is : number ≡ count + length more + 1

-- why the lines of a text were not read
abbrev pub AreLinesUnread : ℕ → List ℕ → ReadFault → Type 0
AreLinesUnread count text (Changed number) = HasNoLine count text number
AreLinesUnread count text NoMemory = Unit {0}

-- the same fault, of the entry of this number
abbrev pub fault_at : ℕ → ReadFault → ReadFault
fault_at number (Changed other) = Changed number
fault_at number NoMemory = NoMemory

-- why what stands after the lines was not read: it is no end of a log
abbrev pub IsEndUnread : ℕ → List ℕ → ReadFault → Type 0
IsEndUnread count end (Changed number) = (number ≡ count + 1) × ((last : List LineParts) → HaveSmallNumbers last → IsLogEnd end last → ⊥)
IsEndUnread count end NoMemory = Unit {0}
