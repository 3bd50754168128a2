-- The head of a log, and why a day does not go on with it.
use Rattle.std.proofs.Common.{◌≡◌, ◌∙◌, ◌+◌, ℕ, Bool, true, false, List, [], ◌∷◌, ◌++◌, length, get_or, inl, inr, refl, ap, arith, length-append}
use Rattle.journal_file.specs.declared.reads.ReadsFault.{ReadsFault}
use Rattle.journal_file.specs.declared.reads.ReadsFault.TheVariants as reads
use Rattle.journal_file.specs.declared.sum.FileSum.{FileSum}
use Rattle.journal_file.specs.WholeText.{read_word, reads_and, IsReadsFault}
use Rattle.journal_file.proofs.ReadLaws.{reads_then}
use Rattle.open_day.specs.OpenDay.{earlier_and, is_open_log, BeginsWithEarlier, BeginsWithNoEarlier, IsEarlier}
use Rattle.live_program.specs.Heads.{head_of, BeginsWithNoFile, IsBehindHead, IsHeadFailure, IsHeadFault, IsPlaceIn}
use Rattle.live_program.specs.declared.failure.LiveFailure.{LiveFailure}
use Rattle.live_program.specs.declared.failure.LiveFailure.TheVariants as live

-- a file whose line is not there is one of them
pub place_inside : (text : List ℕ) (read : List FileSum) (reindex : Bool) (fault : ReadsFault) → IsReadsFault text read reindex fault → IsPlaceIn fault (length read)
place_inside text read reindex (reads.File place) is = omega (arith, is.place_is, ap length is.order, length-append is.before (is.sum ∷ is.after))
place_inside text read reindex reads.Reindex is = tt
place_inside text read reindex reads.NoMemory is = tt

at_place : (before after : List FileSum) (sum other : FileSum) → get_or (before ++ sum ∷ after) (length before) other ≡ sum
at_place [] after sum other = refl
at_place (x ∷ before) after sum other = at_place before after sum other

-- it is told by its path
pub told_file : (text : List ℕ) (read : List FileSum) (reindex : Bool) (place : ℕ) (item : FileSum) (path : List ℕ) → item ≡ get_or read place item → path ≡ item.path → IsReadsFault text read reindex (reads.File place)
    → IsHeadFault text read reindex (live.OtherFile path)
told_file text read reindex place item path at is fault =
    let here : item ≡ fault.sum =
    at ∙ ap (λ (xs : List FileSum). get_or xs place item) fault.order ∙ ap (λ (n : ℕ). get_or (fault.before ++ fault.sum ∷ fault.after) n item) fault.place_is
    ∙ at_place fault.before fault.after fault.sum item in
    (place, fault, is ∙ ap (λ (s : FileSum). s.path) here)

pub told_reindex : (text : List ℕ) (read : List FileSum) (reindex : Bool) → IsReadsFault text read reindex reads.Reindex → IsHeadFault text read reindex live.OtherReindex
told_reindex text read reindex fault = fault

-- its lines, and the last one behind them
pub head_joined : (reads line both : List ℕ) (read : List FileSum) (reindex : Bool) (earlier : ℕ) → reads ≡ reads_and read reindex [] → line ≡ earlier_and earlier [] → both ≡ reads ++ line
    → both ≡ head_of read reindex earlier
head_joined reads line both read reindex earlier first last is =
    is ∙ ap (λ (l : List ℕ). l ++ line) first ∙ reads_then read reindex line ∙ ap (λ (l : List ℕ). reads_and read reindex l) last

-- ---- what a log tells that was found

-- the log of a day that is not open
pub behind_none : (read : List FileSum) (reindex : Bool) (log : List ℕ) (earlier : ℕ) → is_open_log log ≡ false → IsEarlier log earlier → IsBehindHead read reindex log earlier log
behind_none read reindex log earlier closed before = inr (record { is_closed = closed; body_is = refl; before = before })

pub behind_all : (read : List FileSum) (reindex : Bool) (log counted body : List ℕ) (earlier : ℕ) → is_open_log log ≡ true → log ≡ reads_and read reindex counted → BeginsWithEarlier counted earlier body
    → IsBehindHead read reindex log earlier body
behind_all read reindex log counted body earlier opened first told = inl (record {
  is_open = opened;
  log_is = first ∙ ap (λ (l : List ℕ). reads_and read reindex l) told.is;
})

-- a log that does not begin with the line of a file
pub no_line_first : (log : List ℕ) (read : List FileSum) (reindex : Bool) → is_open_log log ≡ true → BeginsWithNoFile log → IsHeadFailure log read reindex live.OtherVersion
no_line_first log read reindex opened none = (opened, inl (refl, inl none))

-- one whose head has not its last line
pub no_line_last : (log counted : List ℕ) (read : List FileSum) (reindex : Bool) → is_open_log log ≡ true → log ≡ reads_and read reindex counted → BeginsWithNoEarlier counted
    → IsHeadFailure log read reindex live.OtherVersion
no_line_last log counted read reindex opened first none = (opened, inl (refl, inr (counted, first, none)))

-- one that begins with the line of a file, and then otherwise
pub other_lines : (log rest : List ℕ) (read : List FileSum) (reindex : Bool) (why : LiveFailure) → is_open_log log ≡ true → log ≡ read_word ++ rest → IsHeadFault log read reindex why
    → IsHeadFailure log read reindex why
other_lines log rest read reindex why opened first fault = (opened, inr ((rest, first), fault))
