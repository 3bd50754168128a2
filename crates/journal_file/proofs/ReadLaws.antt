-- The lines of given files, where they are first in a text.
use Rattle.std.proofs.Common.{◌≡◌, ◌≢◌, ◌∙◌, ℕ, ◌+◌, ◌<◌, ◌≤◌, Bool, List, [], ◌∷◌, ◌++◌, length, take, drop, get_or, sym, ap, arith}
use Rattle.std.proofs.lemmas.List.{length-take-le, take_more, take_all, drop_more, take-append-drop}
use Rattle.journal_file.specs.declared.sum.FileSum.{FileSum}
use Rattle.journal_file.specs.WholeText.{read_word, reads_and, reindex_and, sum_and, sums_and, BeginsWithNoReads, BeginsWithNoReindex, BeginsWithReads, BeginsWithSums, IsOtherFile, IsReadsFault}
use Rattle.journal_file.specs.declared.reads.ReadsFault.TheVariants.{Reindex}
use Rattle.journal_file.proofs.TextLaws.{no_sum_at_reindex, reindex_one, reindex_then, sum_then, sums_more, sums_one, sums_then}

-- a file's line is first
pub line_first : (text line rest : List ℕ) (sum : FileSum) → line ≡ [] ++ sum_and read_word sum [] → text ≡ line ++ rest → text ≡ sum_and read_word sum rest
line_first text line rest sum made is = is ∙ ap (λ (l : List ℕ). l ++ rest) made ∙ sum_then read_word sum [] rest

pub no_line_first : (text line : List ℕ) (sum : FileSum) → line ≡ [] ++ sum_and read_word sum [] → ((rest : List ℕ) → text ≢ line ++ rest) → (more : List ℕ) → text ≢ sum_and read_word sum more
no_line_first text line sum made none more is = none more (is ∙ sym (ap (λ (l : List ℕ). l ++ more) made ∙ sum_then read_word sum [] more))

-- the lines of the first so many files are first, one after another
pub more_read : (text rest after : List ℕ) (read : List FileSum) (i : ℕ) (sum : FileSum) → i < length read → sum ≡ get_or read i sum → text ≡ sums_and read_word (take i read) rest → rest ≡ sum_and read_word sum after
    → text ≡ sums_and read_word (take (i + 1) read) after
more_read text rest after read i sum inside is before here =
    let more : take (i + 1) read ≡ take i read ++ sum ∷ [] = take_more read i sum inside ∙ ap (λ (x : FileSum). take i read ++ x ∷ []) (sym is) in
    before ∙ ap (λ (l : List ℕ). sums_and read_word (take i read) l) here
    ∙ sym (sums_more read_word (take i read) (sum ∷ []) after) ∙ sym (ap (λ (xs : List FileSum). sums_and read_word xs after) more)

-- the line of the next one is not
pub other_read : (text rest : List ℕ) (read : List FileSum) (i : ℕ) (sum : FileSum) → i < length read → sum ≡ get_or read i sum → text ≡ sums_and read_word (take i read) rest → ((more : List ℕ) → rest ≢ sum_and read_word sum more)
    → IsOtherFile text read i
other_read text rest read i sum inside is before none = record {
  before = take i read;
  sum = sum;
  after = drop (i + 1) read;
  rest = rest;
  order = sym (take-append-drop i read) ∙ ap (λ (l : List FileSum). take i read ++ l) (drop_more read i sum inside ∙ ap (λ (x : FileSum). x ∷ drop (i + 1) read) (sym is));
  place_is = sym (length-take-le i read (omega (arith, inside)));
  is = before;
  other = none;
}

pub all_read : (text rest : List ℕ) (read : List FileSum) (i : ℕ) → length read ≤ i → text ≡ sums_and read_word (take i read) rest → text ≡ sums_and read_word read rest
all_read text rest read i end is = is ∙ ap (λ (xs : List FileSum). sums_and read_word xs rest) (take_all i read end)

-- the lines were added, one after another
pub read_pushed : (before after whole line : List ℕ) (read : List FileSum) (reindex : Bool) → before ≡ [] → after ≡ before ++ sums_and read_word read []
    → line ≡ reindex_and reindex [] → whole ≡ after ++ line → whole ≡ reads_and read reindex []
read_pushed before after whole line read reindex none pushed made is =
    is ∙ ap (λ (l : List ℕ). l ++ line) (pushed ∙ ap (λ (l : List ℕ). l ++ sums_and read_word read []) none)
    ∙ ap (λ (l : List ℕ). sums_and read_word read [] ++ l) made ∙ sums_then read_word read [] (reindex_and reindex [])

-- what says so whether the indexes were made anew stands after them
pub reads_first : (text rest left line : List ℕ) (read : List FileSum) (reindex : Bool) → text ≡ sums_and read_word read rest → line ≡ reindex_and reindex [] → rest ≡ line ++ left → text ≡ reads_and read reindex left
reads_first text rest left line read reindex first made is =
    first ∙ ap (λ (l : List ℕ). sums_and read_word read l) (is ∙ ap (λ (l : List ℕ). l ++ left) made ∙ reindex_then reindex left)

pub no_reindex_first : (text rest line : List ℕ) (read : List FileSum) (reindex : Bool) → text ≡ sums_and read_word read rest → line ≡ reindex_and reindex [] → ((more : List ℕ) → rest ≢ line ++ more) → IsReadsFault text read reindex Reindex
no_reindex_first text rest line read reindex first made none =
    (rest, first, λ more is. none more (is ∙ sym (ap (λ (l : List ℕ). l ++ more) made ∙ reindex_then reindex more)))

-- a text that begins so, of its parts
pub reads_then : (read : List FileSum) (reindex : Bool) (rest : List ℕ) → reads_and read reindex [] ++ rest ≡ reads_and read reindex rest
reads_then read reindex rest = sums_then read_word read (reindex_and reindex []) rest ∙ ap (λ (l : List ℕ). sums_and read_word read l) (reindex_then reindex rest)

-- ---- the lines of any files

pub any_reads : (text lines after rest : List ℕ) (reindex : Bool) → BeginsWithSums read_word text lines after → after ≡ reindex_and reindex rest → BeginsWithReads text rest
any_reads text lines after rest reindex first is = record { sums = first.sums; are = first.are; reindex = reindex; is = first.is ∙ ap (λ (l : List ℕ). sums_and read_word first.sums l) is }

pub no_reads : (text lines after : List ℕ) → BeginsWithSums read_word text lines after → BeginsWithNoReindex after → BeginsWithNoReads text
no_reads text lines after first none sums reindex rest are is =
    let same = sums_one read_word first.sums sums after (reindex_and reindex rest) first.are are first.last (no_sum_at_reindex reindex rest) (sym first.is ∙ is) in
    none reindex rest same.rest

-- such lines end in one way
pub reads_one : (text rest other : List ℕ) → BeginsWithReads text rest → BeginsWithReads text other → rest ≡ other
reads_one text rest other a b =
    let same = sums_one read_word a.sums b.sums (reindex_and a.reindex rest) (reindex_and b.reindex other) a.are b.are (no_sum_at_reindex a.reindex rest) (no_sum_at_reindex b.reindex other) (sym a.is ∙ b.is) in
    (reindex_one a.reindex b.reindex rest other same.rest).rest
