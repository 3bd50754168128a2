-- When the head of a log is first in it, and when its last line.
use Rattle.std.proofs.Common.{◌≡◌, ◌≢◌, ◌∙◌, ℕ, List, ◌∷◌, ◌++◌, sym, ap}
use Rattle.std.specs.Fmt.{decimal}
use Rattle.std.proofs.lemmas.List.{append_cancel_left}
use Rattle.dbf_fields.specs.declared.format.TheConstants.{BLANK}
use Rattle.station_lines.specs.JournalLines.{BeginsWithNumber, BeginsWithNoNumber}
use Rattle.station_lines.proofs.JournalLaws.{cut_number_one}
use Rattle.journal_file.specs.WholeText.{BeginsWithNoReads, BeginsWithReads}
use Rattle.journal_file.proofs.ReadLaws.{reads_one}
use Rattle.open_day.specs.OpenDay.{commands_line, earlier_word, BeginsWithEarlier, BeginsWithLogHead, BeginsWithNoEarlier, BeginsWithNoLogHead}

-- ---- the line of the day that was closed before

-- its word is not first
pub no_earlier_word : (text : List ℕ) → ((rest : List ℕ) → text ≢ earlier_word ++ rest) → BeginsWithNoEarlier text
no_earlier_word text none count rest small is = none (decimal count ++ (BLANK ∷ (commands_line ++ rest))) is

-- no number stands after it
pub no_earlier_count : (text counted : List ℕ) → text ≡ earlier_word ++ counted → BeginsWithNoNumber counted → BeginsWithNoEarlier text
no_earlier_count text counted first none count rest small is =
    none count (commands_line ++ rest) small (append_cancel_left earlier_word counted (decimal count ++ (BLANK ∷ (commands_line ++ rest))) (sym first ∙ is))

-- the line does not end after that
pub no_earlier_end : (text counted words : List ℕ) (n : ℕ) → text ≡ earlier_word ++ counted → BeginsWithNumber counted n words → ((rest : List ℕ) → words ≢ commands_line ++ rest)
    → BeginsWithNoEarlier text
no_earlier_end text counted words n first number none count rest small is =
    let same = cut_number_one n count words (commands_line ++ rest) number.small small
    (sym number.is ∙ append_cancel_left earlier_word counted (decimal count ++ (BLANK ∷ (commands_line ++ rest))) (sym first ∙ is)) in
    none rest same.rest

pub earlier_first : (text counted words rest : List ℕ) (n : ℕ) → text ≡ earlier_word ++ counted → BeginsWithNumber counted n words → words ≡ commands_line ++ rest → BeginsWithEarlier text n rest
earlier_first text counted words rest n first number last = record {
  is = first ∙ ap (λ (l : List ℕ). earlier_word ++ l) (number.is ∙ ap (λ (l : List ℕ). decimal n ++ (BLANK ∷ l)) last);
  small = number.small;
}

-- ---- the head

pub no_head_reads : (log : List ℕ) → BeginsWithNoReads log → BeginsWithNoLogHead log
no_head_reads log none counted count body reads told = none reads.sums reads.reindex counted reads.are reads.is

pub no_head_earlier : (log counted : List ℕ) → BeginsWithReads log counted → BeginsWithNoEarlier counted → BeginsWithNoLogHead log
no_head_earlier log counted first none other count body reads told = none count body told.small (reads_one log counted other first reads ∙ told.is)

pub head_first : (log counted body : List ℕ) (count : ℕ) → BeginsWithReads log counted → BeginsWithEarlier counted count body → BeginsWithLogHead log body
head_first log counted body count reads told = record { counted = counted; reads = reads; count = count; told = told }
