-- Answers that wait, and are shown once their entries are in the log.
use Rattle.std.proofs.Common.{◌≡◌, inl, ℕ, List, [], ◌∷◌, ◌++◌, length, map, refl, sym, ◌∙◌, ap, subst, arith, length-append}
use Rattle.std.specs.List.{AllByRecursion}
use Rattle.std.proofs.lemmas.List.{append-nil, map-append}
use Rattle.catalogue_core.specs.Replay.{History}
use Rattle.files_in_place.specs.Disk.{DiskMeaning, IsSyncedDisk}
use Rattle.live_day.specs.declared.waiting.WaitingAnswer.{WaitingAnswer}
use Rattle.live_day.specs.Days.{DayValue, HasGoneOn, IsAnswerTold, IsLogged, parts_of}
use Rattle.live_day.specs.Groups.{WaitsToTell, all_told_by, told_by}
use Rattle.live_day.specs.Sessions.{Told, TellsMore, one_told, told_in}
use Rattle.live_day.specs.Shows.{ShownLine, MayBeTold, at_count, HasFrontIn, IsKeptLine, KeepsShown}
use Rattle.live_day.specs.Waiting.{IsWaiting, ShowsFront, all_shown_after, shown_after}
use Rattle.live_day.proofs.ShowLaws.{after_none, all_append, all_by, at_count_all, at_count_more, front_less, front_now}

-- ---- as the day goes on

one_waits_on : (old new : History) → HasGoneOn old new → (answer : WaitingAnswer) → IsWaiting old answer → IsWaiting new answer
one_waits_on old new on answer waits = record {
  among = omega (arith, waits.among, ap length on.journal, length-append old.journal on.more);
  told = subst (λ (h : History). MayBeTold h answer.station answer.line) (sym (at_count_more old new on answer.count waits.among)) waits.told;
}

-- answers that wait go on waiting
pub all_wait_on : (old new : History) → HasGoneOn old new → (answers : List WaitingAnswer) → AllByRecursion (IsWaiting old) answers → AllByRecursion (IsWaiting new) answers
all_wait_on old new on answers all = all_by (IsWaiting old) (IsWaiting new) (one_waits_on old new on) answers all

-- an answer that was just made waits
pub waits_now : (h : History) (answer : WaitingAnswer) → answer.count ≡ length h.journal → IsAnswerTold h answer.station answer.line → IsWaiting h answer
waits_now h answer is told = record {
  among = omega (arith, is);
  told = inl (subst (λ (n : ℕ). IsAnswerTold (at_count h n) answer.station answer.line) (sym is)
      (subst (λ (g : History). IsAnswerTold g answer.station answer.line) (sym (at_count_all h)) told));
}

-- and one more
pub all_wait_more : (old new : History) → HasGoneOn old new → (answers next : List WaitingAnswer) (answer : WaitingAnswer) → next ≡ answers ++ answer ∷ [] → AllByRecursion (IsWaiting old) answers
    → IsWaiting new answer → AllByRecursion (IsWaiting new) next
all_wait_more old new on answers next answer is all one =
    subst (λ (l : List WaitingAnswer). AllByRecursion (IsWaiting new) l) (sym is)
    (all_append (IsWaiting new) answers (answer ∷ []) (all_wait_on old new on answers all) (one, tt))

-- ---- what will be told

pub waits_none : (waiting next : List WaitingAnswer) → next ≡ waiting → WaitsToTell waiting next []
waits_none waiting next is = record { answers = []; more = is ∙ sym (append-nil waiting); told_is = refl }

pub waits_one : (waiting next : List WaitingAnswer) (answer : WaitingAnswer) (h : History) → answer.count ≡ length h.journal → next ≡ waiting ++ answer ∷ []
    → WaitsToTell waiting next (one_told answer.station h answer.line)
waits_one waiting next answer h counted is =
    record { answers = answer ∷ []; more = is; told_is = ap (λ (n : ℕ). (answer.station, n, answer.line) ∷ []) (sym counted) }

-- all that will be told then
pub told_then : (waiting next : List WaitingAnswer) (told : List Told) → WaitsToTell waiting next told → all_told_by next ≡ all_told_by waiting ++ told
told_then waiting next told waits =
    ap all_told_by waits.more ∙ map-append told_by waiting waits.answers ∙ ap (λ (l : List Told). all_told_by waiting ++ l) (sym waits.told_is)

-- ---- once they are shown

all_front : {A : Type 0} (P : A → Type 0) (xs ys : List A) → AllByRecursion P (xs ++ ys) → AllByRecursion P xs
all_front P [] ys all = tt
all_front P (x ∷ xs) ys all = (all.0, all_front P xs ys all.1)

module _ {D : Type 0} (m : DiskMeaning D) (day : DayValue D) where
  -- told by the lines that are shown
  pub told_again : (answers : List WaitingAnswer) → all_told_by answers ≡ map told_in (all_shown_after m day answers)
  told_again [] = refl
  told_again (answer ∷ answers) = ap (λ (l : List Told). told_by answer ∷ l) (told_again answers)

  pub tells_answers : (answers : List WaitingAnswer) (shown shown_then : List ShownLine) → shown_then ≡ shown ++ all_shown_after m day answers → TellsMore shown shown_then (all_told_by answers)
  tells_answers answers shown shown_then more = record { lines = all_shown_after m day answers; more = more; told_is = told_again answers }

  module _ (logged : m.keeps_promises → IsLogged m day) (synced : m.keeps_promises → IsSyncedDisk m day.log.disk) where
    kept_after : (answer : WaitingAnswer) → IsWaiting day.history answer → IsKeptLine m day (shown_after m day answer)
    kept_after answer waits = record {
      told = waits.told;
      among = waits.among;
      past = λ keeps. omega arith;
      kept = λ keeps c left.
          let now : HasFrontIn day.log.name day.log.head (length day.history.journal) (parts_of day.history.journal) (m.seen day.log.disk) c =
          front_now m day (logged keeps) (synced keeps) c (m.only_now day.log.disk c left) in
          record {
            kept = front_less day.log.name day.log.name day.log.head day.log.head (length day.history.journal) answer.count (parts_of day.history.journal) c refl refl waits.among now.kept;
            elsewhere = now.elsewhere;
          };
    }

    all_kept_after : (answers : List WaitingAnswer) → AllByRecursion (IsWaiting day.history) answers → AllByRecursion (IsKeptLine m day) (all_shown_after m day answers)
    all_kept_after [] all = tt
    all_kept_after (answer ∷ answers) all = (kept_after answer all.0, all_kept_after answers all.1)

    -- the answers were shown, and nothing performed
    pub shown_answers : (answers : List WaitingAnswer) (shown shown_then : List ShownLine) → AllByRecursion (IsWaiting day.history) answers → shown_then ≡ shown ++ all_shown_after m day answers
        → KeepsShown m day day shown shown_then
    shown_answers answers shown shown_then all more = record {
      lines = all_shown_after m day answers;
      more = more;
      each = all_kept_after answers all;
      after = after_none m day logged synced;
    }

    -- the first of them were
    pub shown_front : (answers : List WaitingAnswer) (shown shown_then : List ShownLine) → AllByRecursion (IsWaiting day.history) answers
        → ShowsFront shown shown_then (all_shown_after m day answers) → KeepsShown m day day shown shown_then
    shown_front answers shown shown_then all front = record {
      lines = front.front;
      more = front.more;
      each = all_front (IsKeptLine m day) front.front front.others
          (subst (λ (l : List ShownLine). AllByRecursion (IsKeptLine m day) l) front.order (all_kept_after answers all));
      after = after_none m day logged synced;
    }
