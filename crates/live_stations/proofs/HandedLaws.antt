-- What is handed to those who print.
use Rattle.std.proofs.Common.{◌≡◌, ◌≢◌, ◌∙◌, Bool, true, false, ℕ, ◌+◌, ◌<◌, ◌==◌, List, [], ◌∷◌, ◌++◌, length, set, get_or, take, drop, sym, ap, subst, append_assoc, arith}
use Rattle.std.proofs.lemmas.Bool.Decides.{nat_tests}
use Rattle.std.specs.Prelude.{Result, Ok, Err, OnErr}
use Rattle.std.proofs.lemmas.List.{append-nil, map-append, take-append-drop}
use Rattle.files_in_place.specs.Disk.{DiskMeaning}
use Rattle.live_day.specs.declared.waiting.WaitingAnswer.{WaitingAnswer}
use Rattle.live_day.specs.Days.{DayValue}
use Rattle.live_day.specs.Waiting.{all_shown_after, shown_after, ShowsFront}
use Rattle.rtrb.specs.declared.producer.Producer.{Producer}
use Rattle.rtrb.specs.Ring.{sent, SameProducer}
use Rattle.live_day.specs.Shows.{ShownLine}
use Rattle.live_stations.specs.Handed.{AnswerRing, AreHandedFrom, IsHanded, if_shown_to, shown_to}
use Rattle.live_stations.proofs.PairLaws.{pair_set}

pub same_producer : {T A P : Type 0} (a b c : Producer T A P) → SameProducer a b → SameProducer b c → SameProducer a c
same_producer a b c p q = ((q.0.0 ∙ p.0.0, q.0.1 ∙ p.0.1, q.0.2 ∙ p.0.2, q.0.3 ∙ p.0.3), q.1 ∙ p.1)

shown_more : (n : ℕ) (shown : List ShownLine) (s : ShownLine) → shown_to n (shown ++ s ∷ []) ≡ shown_to n shown ++ if_shown_to (s.station == n) s.line
shown_more n [] s = append-nil (if_shown_to (s.station == n) s.line)
shown_more n (t ∷ shown) s =
    ap (λ (lines : List (List ℕ)). if_shown_to (t.station == n) t.line ++ lines) (shown_more n shown s)
    ∙ sym (append_assoc (if_shown_to (t.station == n) t.line) (shown_to n shown) (if_shown_to (s.station == n) s.line))

shown_here : (n station : ℕ) (line : List ℕ) → station ≡ n → if_shown_to (station == n) line ≡ line ∷ []
shown_here n station line e = let b : (station == n) ≡ true = grind (arith, nat_tests) in ap (λ (t : Bool). if_shown_to t line) b

shown_elsewhere : (n station : ℕ) (line : List ℕ) → station ≢ n → if_shown_to (station == n) line ≡ []
shown_elsewhere n station line e = let b : (station == n) ≡ false = grind (arith, nat_tests) in ap (λ (t : Bool). if_shown_to t line) b

-- a line was handed to a station
pub handed_more : (shown : List ShownLine) (first rings : List AnswerRing) (k : ℕ) (old new : AnswerRing) (s : ShownLine) → AreHandedFrom shown 1 first rings → k < length rings
    → get_or rings k old ≡ old → SameProducer old new → sent new ≡ sent old ++ s.line ∷ [] → s.station ≡ 1 + k → AreHandedFrom (shown ++ s ∷ []) 1 first (set rings k new)
handed_more shown first rings k old new s are inside at ring more station =
    pair_set (λ m f r. IsHanded shown m f r) (λ m f r. IsHanded (shown ++ s ∷ []) m f r) 1 k first rings old new are inside
    (λ f found.
    let is = subst (λ (r : AnswerRing). IsHanded shown (1 + k) f r) at found in
    record {
      ring_is = same_producer f old new is.ring_is ring;
      sent_is = more ∙ ap (λ (lines : List (List ℕ)). lines ++ s.line ∷ []) is.sent_is
          ∙ sym (shown_more (1 + k) shown s ∙ ap (λ (lines : List (List ℕ)). shown_to (1 + k) shown ++ lines) (shown_here (1 + k) s.station s.line station));
    })
    (λ m f r apart is. record {
      ring_is = is.ring_is;
      sent_is = is.sent_is
          ∙ sym (shown_more m shown s ∙ ap (λ (lines : List (List ℕ)). shown_to m shown ++ lines) (shown_elsewhere m s.station s.line (λ (e : s.station ≡ m). apart (sym e ∙ station))) ∙ append-nil (shown_to m shown));
    })

-- nothing was handed
pub handed_same : (shown : List ShownLine) (first rings : List AnswerRing) (k : ℕ) (old new : AnswerRing) → AreHandedFrom shown 1 first rings → k < length rings
    → get_or rings k old ≡ old → SameProducer old new → sent new ≡ sent old → AreHandedFrom shown 1 first (set rings k new)
handed_same shown first rings k old new are inside at ring same =
    pair_set (λ m f r. IsHanded shown m f r) (λ m f r. IsHanded shown m f r) 1 k first rings old new are inside
    (λ f found.
    let is = subst (λ (r : AnswerRing). IsHanded shown (1 + k) f r) at found in
    record { ring_is = same_producer f old new is.ring_is ring; sent_is = same ∙ is.sent_is })
    (λ m f r apart is. is)

pub on_err : {A E : Type 0} {P : Type 0} (r : Result A E) → P → OnErr r P
on_err (Ok x) p = tt
on_err (Err e) p = p

-- the first of answers that waited were shown
pub shows_front : {D : Type 0} (m : DiskMeaning D) (day : DayValue D) (answers : List WaitingAnswer) (i : ℕ) (shown shown_then : List ShownLine) → shown_then ≡ shown ++ all_shown_after m day (take i answers)
    → ShowsFront shown shown_then (all_shown_after m day answers)
shows_front m day answers i shown shown_then more = record {
  front = all_shown_after m day (take i answers);
  others = all_shown_after m day (drop i answers);
  order = ap (all_shown_after m day) (sym (take-append-drop i answers)) ∙ map-append (shown_after m day) (take i answers) (drop i answers);
  more = more;
}
