-- What is said of stations, and of a day's end.
use Rattle.std.proofs.Common.{◌≡◌, ◌∙◌, ℕ, zero, suc, ◌+◌, ◌<◌, ◌≤◌, List, [], ◌∷◌, ◌++◌, length, get_or, take, refl, sym, ap, subst, append_assoc, arith}
use Rattle.std.specs.Prelude.{Option, Result, Ok, Err, IfErr, IfOk, IfSome, IsErr, OnOk}
use Rattle.std.specs.Process.{exit_status}
use Rattle.std.specs.Io.KnownBytes.{Appends}
use Rattle.std.proofs.KnownBytes.{Appends-trans}
use Rattle.std.proofs.lemmas.List.{append-nil, take_more}
use Rattle.live_stations.specs.declared.day.StationLeft.{StationLeft}
use Rattle.live_program.specs.declared.failure.LiveFailure.{LiveFailure}
use Rattle.live_program.specs.declared.lived.Lived.{Lived}
use Rattle.live_program.specs.declared.running.TheConstants.{PROGRAM}
use Rattle.clap.specs.Words.{Text}
use Rattle.folders.specs.declared.named.NamedFile.{NamedFile}
use Rattle.live_program.specs.Sayings.{HasSaidFor}
use Rattle.live_program.specs.Endings.{count_line, no_memory, reason, status}
use Rattle.program_frame.specs.declared.ending.Ending.{Ending}
use Rattle.program_frame.specs.declared.ending.Failure.{Failure}
use Rattle.program_frame.specs.declared.ending.Failure.TheVariants.{Work}
use Rattle.program_frame.specs.declared.telling.Told.{Told}
use Rattle.program_frame.specs.Endings.{ending_line, ending_status, failure_status, failure_words}
use Rattle.program_frame.specs.Telling.{said_before, unprinted_line}
use Rattle.live_stations.specs.declared.threads.ThreadFault.{ThreadFault}
use Rattle.live_stations.specs.declared.threads.ThreadFault.TheVariants.{NoThread}
use Rattle.live_stations.specs.Tellings.{station_text, stations_text, IsEndTold, IsThreadFault}

texts_more : {K W : Type 0} (n : ℕ) (lefts : List (StationLeft K W)) (left : StationLeft K W)
    → stations_text n (lefts ++ left ∷ []) ≡ stations_text n lefts ++ station_text (n + length lefts) left.end left.all_printed
texts_more n [] left =
    append-nil (station_text n left.end left.all_printed)
    ∙ ap (λ (k : ℕ). station_text k left.end left.all_printed) (let same : n ≡ n + 0 = omega arith in same)
texts_more n (l ∷ lefts) left =
    ap (λ (t : List ℕ). station_text n l.end l.all_printed ++ t) (texts_more (n + 1) lefts left)
    ∙ ap (λ (k : ℕ). station_text n l.end l.all_printed ++ (stations_text (n + 1) lefts ++ station_text k left.end left.all_printed))
    (let same : (n + 1) + length lefts ≡ n + suc (length lefts) = omega arith in same)
    ∙ sym (append_assoc (station_text n l.end l.all_printed) (stations_text (n + 1) lefts) (station_text (n + suc (length lefts)) left.end left.all_printed))

length_front : {A : Type 0} (xs : List A) (i : ℕ) → i < length xs → length (take i xs) ≡ i
length_front [] i inside = absurd (omega (arith, inside))
length_front (x ∷ xs) zero inside = refl
length_front (x ∷ xs) (suc i) inside = ap suc (length_front xs i (omega (arith, inside)))

-- one station more
pub one_told : {K W : Type 0} (text mid next : Option (List ℕ)) (lefts : List (StationLeft K W)) (i : ℕ) (left : StationLeft K W) → i < length lefts → left ≡ get_or lefts i left
    → Appends text mid (stations_text 1 (take i lefts)) → Appends mid next (station_text (i + 1) left.end left.all_printed) → Appends text next (stations_text 1 (take (i + 1) lefts))
one_told {K} {W} text mid next lefts i left inside is before told =
    let front = take i lefts in
    let more : take (i + 1) lefts ≡ front ++ left ∷ [] = take_more lefts i left inside ∙ ap (λ (l : StationLeft K W). front ++ l ∷ []) (sym is) in
    let number : 1 + length front ≡ i + 1 = omega (arith, length_front lefts i inside) in
    let texts : stations_text 1 (take (i + 1) lefts) ≡ stations_text 1 front ++ station_text (i + 1) left.end left.all_printed =
    ap (stations_text 1) more ∙ texts_more 1 front left ∙ ap (λ (k : ℕ). stations_text 1 front ++ station_text k left.end left.all_printed) number in
    subst (Appends text next) (sym texts) (Appends-trans text mid next (stations_text 1 front) (station_text (i + 1) left.end left.all_printed) before told)

-- that a station has no threads, where it is one of so many
pub fault_of_station : (count station : ℕ) (fault : ThreadFault) → fault ≡ NoThread station → (1 ≤ station) × (station ≤ count) → IsThreadFault count fault
fault_of_station count station fault is one = subst (IsThreadFault count) (sym is) one

-- a day says nothing besides
nothing_aside : (ended : Result Lived (Ending (Failure LiveFailure))) → said_before (λ (lived : Lived). []) ended ≡ []
nothing_aside (Ok lived) = refl
nothing_aside (Err why) = refl

-- what `tell` says of the end of a day
pub end_told : {O E : Type 0} (files : Option (List NamedFile)) (words : List Text) (printed : O → Option (List ℕ)) (said : E → Option (List ℕ)) (old new : O) (first before err : E) (ended : Result Lived (Ending (Failure LiveFailure))) (told : Told)
    → HasSaidFor files words (said first) (said before) → IfOk ended (λ lived. exit_status told.status ≡ 0) → IfErr ended (λ why. exit_status told.status ≡ ending_status (failure_status status) why)
    → IfOk ended (λ lived. OnOk told.out (Appends (printed old) (printed new) (count_line lived.count)))
    → IfErr ended (λ why. IfSome (ending_line (failure_words reason) (Work no_memory) PROGRAM.now why) (λ line. OnOk told.err (Appends (said before) (said err) line)))
    → (IsErr told.out → OnOk told.err (Appends (said before) (said err) (said_before (λ (lived : Lived). []) ended ++ unprinted_line PROGRAM.now)))
    → IsEndTold files words printed said old new first err ended told
end_told files words printed said old new first before err ended told begun done failed text line unprinted = record {
  before = said before;
  begun = begun;
  done = done;
  failed = failed;
  text = text;
  line = line;
  unprinted = λ gone. subst (λ (aside : List ℕ). OnOk told.err (Appends (said before) (said err) (aside ++ unprinted_line PROGRAM.now))) (nothing_aside ended) (unprinted gone);
}
