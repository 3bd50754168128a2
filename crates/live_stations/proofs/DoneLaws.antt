-- What is made of the lines that stations say.
use Rattle.std.proofs.Common.{◌≡◌, ◌∙◌, ⊎_elim, ℕ, ◌≤◌, ◌<◌, ◌^◌, List, [], ◌∷◌, ◌++◌, refl, sym, ap, subst, arith}
use Rattle.std.specs.Prelude.{codes, drop, Option}
use Rattle.std.specs.Fmt.{decimal}
use Rattle.std.proofs.lemmas.Fmt.{decimal_injective}
use Rattle.catalogue_core.specs.Replay.{History}
use Rattle.catalogue_core.specs.declared.command.Command.TheVariants.{Bad}
use Rattle.station_lines.specs.declared.script.line.Line.{Line}
use Rattle.station_lines.specs.declared.script.line.Line.TheVariants.{Run, Status, Blank}
use Rattle.station_lines.specs.Script.Reading.{read}
use Rattle.station_lines.proofs.ScriptLaws.MeaningLaws.{read_means}
use Rattle.live_day.specs.declared.keyboard.Typed.{Typed}
use Rattle.live_day.specs.declared.keyboard.Typed.TheVariants.{Text, TooLong, Cut}
use Rattle.live_day.specs.declared.wish.TheConstants.{STATION_WORD_BYTES}
use Rattle.live_day.specs.Days.{AnswersLine}
use Rattle.live_day.specs.declared.wish.Wish.{Wish}
use Rattle.live_day.specs.declared.wish.Wish.TheVariants.{Station, Quit, Perform}
use Rattle.live_day.specs.Sessions.{Told, AreObeyed, IsLineAnswered, IsLineDone, IsMade, IsNotPerformed, IsSeated, IsWishTyped}
use Rattle.live_stations.specs.Done.{AreDone, AreNamed, AskNothing}
use Rattle.live_stations.specs.Items.{Item, named, said, item_lines, station_line}

-- the station of a number has the keyboard, where there is one
seated_there : (h : History) (wanted station next : ℕ) (told : List Told) → 1 ≤ wanted → wanted ≤ h.opened.stations → IsSeated h wanted station next told → (next ≡ wanted) × (told ≡ [])
seated_there h wanted station next told least most seated =
    ⊎_elim (λ is. (is.2, is.3)) (λ none. absurd (⊎_elim (λ (low : wanted < 1). omega (arith, low, least)) (λ (high : h.opened.stations < wanted). omega (arith, high, most)) none.0)) seated

-- the line that gives a station the keyboard says its number
station_of : (n m : ℕ) → n < 2 ^ 64 → m < 2 ^ 64 → drop STATION_WORD_BYTES (codes "STATION " ++ decimal n) ≡ decimal m → m ≡ n
station_of n m small other same = decimal_injective m n other small (sym same)

-- what is made of the line that gives a station the keyboard
named_made : (n station : ℕ) (old : History) (next : ℕ) (new : History) (told : List Told) (wish : Wish) → 1 ≤ n → n ≤ old.opened.stations → n < 2 ^ 64 → IsWishTyped (station_line n) wish
    → IsMade wish station (station_line n) old next new told → (next ≡ n) × (new ≡ old) × (told ≡ [])
named_made n station old next new told Quit least most small asked made = absurd made
named_made n station old next new told Perform least most small asked made = absurd (asked.1 (decimal n) (refl, refl) n small refl)
named_made n station old next new told (Station m) least most small asked made =
    let same : m ≡ n = station_of n m small asked.2 asked.1.1 in
    let there = seated_there old n station next told least most (subst (λ (k : ℕ). IsSeated old k station next told) same made.1) in
    (there.0, made.0, there.1)

-- a line that asks for nothing of the keyboard was done
said_made : (station : ℕ) (line : Typed) (old : History) (next : ℕ) (new : History) (told : List Told) (wish : Wish) → wish ≡ Perform → IsMade wish station line old next new told
    → (next ≡ station) × IsLineDone station line old new told
said_made station line old next new told wish is made = subst (λ (w : Wish). IsMade w station line old next new told) is made

-- what was opened stays so, whatever a line means
answers_opened : (meaning : Line) (station : ℕ) (old new : History) (answer : Option (List ℕ)) → AnswersLine meaning station old new answer → new.opened ≡ old.opened
answers_opened (Run command) station old new answer is = ap (λ (h : History). h.opened) is.0
answers_opened Status station old new answer is = ap (λ (h : History). h.opened) is.0
answers_opened Blank station old new answer is = ap (λ (h : History). h.opened) is.0

done_opened : (station : ℕ) (line : Typed) (old new : History) (told : List Told) → IsLineDone station line old new told → new.opened ≡ old.opened
done_opened station (Text line) old new told done =
    ⊎_elim (λ (a : IsLineAnswered station (Text line) old new told). answers_opened (read line) station old new a.answer (a.by_meaning (read line) (read_means line)))
    (λ (n : IsNotPerformed station (Text line) old new told). ap (λ (h : History). h.opened) n.same) done
done_opened station TooLong old new told done =
    ⊎_elim (λ (a : IsLineAnswered station TooLong old new told). answers_opened (Run Bad) station old new a.answer (a.by_meaning (Run Bad) refl))
    (λ (n : IsNotPerformed station TooLong old new told). ap (λ (h : History). h.opened) n.same) done
done_opened station Cut old new told done =
    ⊎_elim (λ (a : IsLineAnswered station Cut old new told). absurd (a.whole refl))
    (λ (n : IsNotPerformed station Cut old new told). ap (λ (h : History). h.opened) n.same) done

pub done_of_obeyed : (items : List Item) (seated next : ℕ) (old new : History) (told : List Told) → AreObeyed (item_lines items) seated old next new told → AreNamed old.opened.stations items → AskNothing items
    → AreDone seated items old new told
done_of_obeyed [] seated next old new told obeyed are_named nothing = (obeyed.1, obeyed.2)
done_of_obeyed (named n ∷ items) seated next old new told obeyed are_named nothing =
    let o = obeyed.obeyed in
    let made = named_made n seated old obeyed.next obeyed.mid obeyed.first o.wish are_named.0 are_named.1 are_named.2 o.asked o.made in
    let rest : AreObeyed (item_lines items) n old next new obeyed.others =
    subst (λ (h : History). AreObeyed (item_lines items) n h next new obeyed.others) made.1
    (subst (λ (s : ℕ). AreObeyed (item_lines items) s obeyed.mid next new obeyed.others) made.0 obeyed.rest) in
    let same : told ≡ obeyed.others = obeyed.told_is ∙ ap (λ (l : List Told). l ++ obeyed.others) made.2 in
    subst (AreDone n items old new) (sym same) (done_of_obeyed items n next old new obeyed.others rest are_named.3 nothing)
done_of_obeyed (said line ∷ items) seated next old new told obeyed are_named nothing =
    let o = obeyed.obeyed in
    let made = said_made seated line old obeyed.next obeyed.mid obeyed.first o.wish (nothing.0 o.wish o.asked) o.made in
    let rest : AreObeyed (item_lines items) seated obeyed.mid next new obeyed.others =
    subst (λ (s : ℕ). AreObeyed (item_lines items) s obeyed.mid next new obeyed.others) made.0 obeyed.rest in
    let opened : obeyed.mid.opened ≡ old.opened = done_opened seated line old obeyed.mid obeyed.first made.1 in
    record {
      mid = obeyed.mid;
      first = obeyed.first;
      others = obeyed.others;
      done = made.1;
      rest = done_of_obeyed items seated next obeyed.mid new obeyed.others rest (subst (λ (k : ℕ). AreNamed k items) (sym (ap (λ o. o.stations) opened)) are_named) nothing.1;
      told_is = obeyed.told_is;
    }
