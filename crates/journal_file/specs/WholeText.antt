-- The whole text of a journal's file: which files the run read, its entries, and which files it wrote.
use Rattle.std.specs.Prelude.{◌≡◌, ◌≢◌, ℕ, ◌^◌, ◌<◌, Bool, true, false, ◌||◌, bytes_eq, List, [], ◌∷◌, ◌++◌, codes, length, take, Option, Some, None}
use Rattle.std.specs.List.{AllByRecursion}
use Rattle.std.specs.Fmt.{decimal}
use Rattle.hex.specs.Hex.{encode_lower}
use Rattle.sha2.specs.Sha256.{sha256}
use Rattle.dbf_fields.specs.declared.format.TheConstants.{BLANK}
use Rattle.station_lines.specs.declared.script.format.TheConstants.{LF}
use Rattle.station_lines.specs.JournalLines.{lines_and, HaveSmallNumbers}
use Rattle.journal_file.specs.declared.sum.FileSum.{FileSum}
use Rattle.journal_file.specs.declared.sum.TheConstants.{DIGEST_LEN}
use Rattle.journal_file.specs.declared.cutting.JournalParts.{JournalParts}
use Rattle.journal_file.specs.declared.reads.ReadsFault.{ReadsFault}
use Rattle.journal_file.specs.declared.reads.ReadsFault.TheVariants.{File, Reindex, NoMemory}

-- ---- what is said of a file

-- its path, how many bytes it has, and the digits of their digest
abbrev pub sum_as : List ℕ → ℕ → List ℕ → FileSum
sum_as path count digest = record { path = path; length = count; digest = digest }

-- what is said of a file: its path, how many bytes it has, and the hex digits of their SHA-256
abbrev pub sum_of_file : List ℕ → List ℕ → FileSum
sum_of_file path bytes = sum_as path (length bytes) (encode_lower (sha256 bytes))

-- the files that were read, and one more, where a journal is wanted
abbrev pub with_sum : Option (List FileSum) → FileSum → Option (List FileSum)
with_sum None sum = None
with_sum (Some sums) sum = Some (sums ++ sum ∷ [])

-- both counts are numbers of 64 bits, and the digest has its digits
abbrev pub IsSum : FileSum → Type 0
IsSum sum = (length sum.path < 2 ^ 64) × (sum.length < 2 ^ 64) × (length sum.digest ≡ DIGEST_LEN)

-- A file's line, and what stands after it: a word, how many bytes the path and the file have, the digest, and the path.
abbrev pub sum_and : List ℕ → FileSum → List ℕ → List ℕ
sum_and word sum rest =
    word ++ (decimal (length sum.path) ++ (BLANK ∷ (decimal sum.length ++ (BLANK ∷ (sum.digest ++ (BLANK ∷ (sum.path ++ (LF ∷ rest))))))))

-- the lines of files, one after another, and what stands after them
abbrev pub sums_and : List ℕ → List FileSum → List ℕ → List ℕ
sums_and word [] rest = rest
sums_and word (sum ∷ sums) rest = sum_and word sum (sums_and word sums rest)

-- the word before a file that was read
abbrev pub read_word : List ℕ
read_word = codes "read "

-- what stands in a line before a file that was written
abbrev pub wrote_word : List ℕ
wrote_word = codes "wrote "

-- ---- the whole text

-- what a journal's file tells: the files that the run read, whether the indexes were made anew, what the lines of its
-- entries show, and the files that it wrote
pub record WholeJournal : Type 0 where
  pub read : List FileSum
  pub reindex : Bool
  pub entries : List (ℕ × List ℕ × List ℕ)
  pub wrote : List FileSum

-- whether the indexes were made anew
abbrev pub reindex_and : Bool → List ℕ → List ℕ
reindex_and true rest = codes "reindex yes" ++ (LF ∷ rest)
reindex_and false rest = codes "reindex no" ++ (LF ∷ rest)

-- the lines of the files that were read, whether the indexes were made anew, and what stands after them
abbrev pub reads_and : List FileSum → Bool → List ℕ → List ℕ
reads_and read reindex rest = sums_and read_word read (reindex_and reindex rest)

-- the word before the number of entries
abbrev pub entries_word : List ℕ
entries_word = codes "entries "

-- how many entries there are
abbrev pub count_and : ℕ → List ℕ → List ℕ
count_and count rest = entries_word ++ (decimal count ++ (LF ∷ rest))

-- the lines before the entries
abbrev pub head_and : List FileSum → Bool → ℕ → List ℕ → List ℕ
head_and read reindex count rest = sums_and read_word read (reindex_and reindex (count_and count rest))

-- the last line
abbrev pub end_line : List ℕ
end_line = codes "end" ++ LF ∷ []

-- the lines after the entries
abbrev pub tail_text : List FileSum → List ℕ
tail_text wrote = sums_and wrote_word wrote end_line

-- the whole text of a journal
abbrev pub whole_text : WholeJournal → List ℕ
whole_text j = head_and j.read j.reindex (length j.entries) (lines_and j.entries (tail_text j.wrote))

-- lines can tell it: all numbers are of 64 bits, and each digest has its digits
pub record CanBeTold (j : WholeJournal) : Type 0 where
  pub read : AllByRecursion IsSum j.read
  pub few : length j.entries < 2 ^ 64
  pub entries : HaveSmallNumbers j.entries
  pub wrote : AllByRecursion IsSum j.wrote

-- ---- a text that is cut

-- these parts of the text, which is a journal's, show what it tells
pub record IsCutInto (text : List ℕ) (parts : JournalParts) : Type 0 where
  pub journal : WholeJournal
  pub whole : CanBeTold journal
  pub text_is : text ≡ whole_text journal
  pub read : parts.read.now ≡ sums_and read_word journal.read []
  pub reindex : parts.reindex ≡ journal.reindex
  pub count : parts.count ≡ length journal.entries
  pub entries : parts.entries.now ≡ lines_and journal.entries []
  pub wrote : parts.wrote.now ≡ sums_and wrote_word journal.wrote []

-- the text is the whole text of no journal
abbrev pub IsNotWhole : List ℕ → Type 0
IsNotWhole text = (j : WholeJournal) → CanBeTold j → text ≢ whole_text j

-- a text begins with another
abbrev pub has_front : List ℕ → List ℕ → Bool
has_front front text = bytes_eq front (take (length front) text)

-- the text begins with `read `, as far as it goes
abbrev pub begins_as_journal : List ℕ → Bool
begins_as_journal text = has_front read_word text || has_front text read_word

-- ---- the lines of given files

-- The lines of the files before the one at this place are first in the text, and then not its own.
pub record IsOtherFile (text : List ℕ) (read : List FileSum) (place : ℕ) : Type 0 where
  pub before : List FileSum
  pub sum : FileSum
  pub after : List FileSum
  pub rest : List ℕ
  pub order : read ≡ before ++ sum ∷ after
  pub place_is : place ≡ length before
  pub is : text ≡ sums_and read_word before rest
  pub other : (more : List ℕ) → rest ≢ sum_and read_word sum more

-- why the lines of these files, and whether the indexes were made anew, are not first in the text
abbrev pub IsReadsFault : List ℕ → List FileSum → Bool → ReadsFault → Type 0
IsReadsFault text read reindex (File place) = IsOtherFile text read place
IsReadsFault text read reindex Reindex = (rest : List ℕ) × (text ≡ sums_and read_word read rest) × ((more : List ℕ) → rest ≢ reindex_and reindex more)
IsReadsFault text read reindex NoMemory = Unit {0}

-- ---- its steps

-- a file's line is first
pub record BeginsWithSum (word text : List ℕ) (sum : FileSum) (rest : List ℕ) : Type 0 where
  pub is : text ≡ sum_and word sum rest
  pub small : IsSum sum

-- no file's line is first
abbrev pub BeginsWithNoSum : List ℕ → List ℕ → Type 0
BeginsWithNoSum word text = (sum : FileSum) (rest : List ℕ) → IsSum sum → text ≢ sum_and word sum rest

-- the lines of files are first, as many as there are
pub record BeginsWithSums (word text lines rest : List ℕ) : Type 0 where
  pub sums : List FileSum
  pub are : AllByRecursion IsSum sums
  pub is : text ≡ sums_and word sums rest
  pub lines_are : lines ≡ sums_and word sums []
  pub last : BeginsWithNoSum word rest

-- whether the indexes were made anew is not first
abbrev pub BeginsWithNoReindex : List ℕ → Type 0
BeginsWithNoReindex text = (reindex : Bool) (rest : List ℕ) → text ≢ reindex_and reindex rest

-- the lines of files that were read, and whether the indexes were made anew, are first
pub record BeginsWithReads (text rest : List ℕ) : Type 0 where
  pub sums : List FileSum
  pub are : AllByRecursion IsSum sums
  pub reindex : Bool
  pub is : text ≡ reads_and sums reindex rest

-- no such lines are first
abbrev pub BeginsWithNoReads : List ℕ → Type 0
BeginsWithNoReads text = (sums : List FileSum) (reindex : Bool) (rest : List ℕ) → AllByRecursion IsSum sums → text ≢ reads_and sums reindex rest

-- the number of entries is first
pub record BeginsWithCount (text : List ℕ) (count : ℕ) (rest : List ℕ) : Type 0 where
  pub is : text ≡ count_and count rest
  pub small : count < 2 ^ 64

-- no number of entries is first
abbrev pub BeginsWithNoCount : List ℕ → Type 0
BeginsWithNoCount text = (count : ℕ) (rest : List ℕ) → count < 2 ^ 64 → text ≢ count_and count rest

-- the lines before the entries are first
pub record BeginsWithHead (text read : List ℕ) (reindex : Bool) (count : ℕ) (rest : List ℕ) : Type 0 where
  pub sums : List FileSum
  pub are : AllByRecursion IsSum sums
  pub small : count < 2 ^ 64
  pub is : text ≡ head_and sums reindex count rest
  pub lines_are : read ≡ sums_and read_word sums []

-- no lines that stand before entries are first
abbrev pub BeginsWithNoHead : List ℕ → Type 0
BeginsWithNoHead text =
    (sums : List FileSum) (reindex : Bool) (count : ℕ) (rest : List ℕ) → AllByRecursion IsSum sums → count < 2 ^ 64
    → text ≢ head_and sums reindex count rest

-- the lines of so many entries are first
pub record BeginsWithEntries (text : List ℕ) (count : ℕ) (lines rest : List ℕ) : Type 0 where
  pub entries : List (ℕ × List ℕ × List ℕ)
  pub small : HaveSmallNumbers entries
  pub counted : length entries ≡ count
  pub is : text ≡ lines_and entries rest
  pub lines_are : lines ≡ lines_and entries []

-- the lines of so many entries are not first
abbrev pub BeginsWithFewer : List ℕ → ℕ → Type 0
BeginsWithFewer text count =
    (entries : List (ℕ × List ℕ × List ℕ)) (rest : List ℕ) → HaveSmallNumbers entries → length entries ≡ count
    → text ≢ lines_and entries rest

-- the text is that of the lines after the entries
pub record IsTail (text wrote : List ℕ) : Type 0 where
  pub sums : List FileSum
  pub are : AllByRecursion IsSum sums
  pub is : text ≡ tail_text sums
  pub lines_are : wrote ≡ sums_and wrote_word sums []

-- the text is not that of lines after entries
abbrev pub IsNoTail : List ℕ → Type 0
IsNoTail text = (sums : List FileSum) → AllByRecursion IsSum sums → text ≢ tail_text sums
