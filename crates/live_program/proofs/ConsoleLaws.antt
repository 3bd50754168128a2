-- What was typed and shown is told by its numbers.
use Rattle.std.proofs.Common.{◌≡◌, ◌∙◌, ℕ, ◌+◌, ◌<◌, List, [], ◌∷◌, ◌++◌, length, get_or, set, take, Option, Some, Result, Ok, Err, refl, sym, ap, subst, arith, append_assoc, length-append}
use Rattle.std.specs.Io.KnownBytes.{Appends}
use Rattle.std.proofs.KnownBytes.{Appends-nil, Appends-trans}
use Rattle.std.proofs.Math.Seq.{take-append_seam}
use Rattle.std.proofs.lemmas.List.{append-nil, map-append, take_more, take_more_set}
use Rattle.files_in_place.specs.Disk.{DiskMeaning}
use Rattle.station_lines.specs.declared.script.format.TheConstants.{LF}
use Rattle.std.specs.Prelude.{map, OnOk}
use Rattle.live_day.specs.declared.keyboard.Typed.{Typed}
use Rattle.live_day.specs.declared.keyboard.Typed.TheVariants.{Text, TooLong, Cut}
use Rattle.live_day.specs.declared.waiting.WaitingAnswer.{WaitingAnswer}
use Rattle.live_day.specs.Days.{DayValue}
use Rattle.live_day.specs.Shows.{ShownLine}
use Rattle.live_day.specs.Typing.{TypesNext}
use Rattle.live_day.specs.Waiting.{ShowsFront, all_shown_after, shown_after}
use Rattle.live_program.specs.declared.reading.Origin.{Origin}
use Rattle.live_program.specs.declared.reading.Origin.TheVariants.{Pipe, Terminal}
use Rattle.live_program.specs.Consoles.{HasPrinted, known_text, numbers_of_shown, numbers_of_typed, shown_of_numbers, shown_text, shown_texts, typed_of_numbers}

typed_again : (t : Typed) → typed_of_numbers (numbers_of_typed t) ≡ t
typed_again (Text line) = refl
typed_again TooLong = refl
typed_again Cut = refl

-- one line more was typed
pub typed_more : (lists : List (List ℕ)) (t : Typed) → map typed_of_numbers (lists ++ numbers_of_typed t ∷ []) ≡ map typed_of_numbers lists ++ t ∷ []
typed_more [] t = ap (λ (x : Typed). x ∷ []) (typed_again t)
typed_more (l ∷ lists) t = ap (λ (ts : List Typed). typed_of_numbers l ∷ ts) (typed_more lists t)

-- from a pipe the line was heard that was typed, and of a terminal nothing is said
pub heard_next : (origin : Origin) (old new : Option (List ℕ)) (typed heard : Typed) → (origin ≡ Pipe → heard ≡ typed)
    → TypesNext (known_text origin old) (Some typed) (known_text origin new) → TypesNext (known_text origin old) (Some heard) (known_text origin new)
heard_next Pipe old new typed heard same next = subst (λ (t : Typed). TypesNext old (Some t) new) (sym (same refl)) next
heard_next Terminal old new typed heard same next = tt

-- one line more was shown
pub shown_more : (lists : List (List ℕ)) (s : ShownLine) → map shown_of_numbers (lists ++ numbers_of_shown s ∷ []) ≡ map shown_of_numbers lists ++ s ∷ []
shown_more [] s = refl
shown_more (l ∷ lists) s = ap (λ (ss : List ShownLine). shown_of_numbers l ∷ ss) (shown_more lists s)

-- a line that is copied to the front of a buffer, with LF after it
pub line_in_front : (line rest : List ℕ) (n : ℕ) → length line ≡ n → 0 < length rest → take (n + 1) (set (line ++ rest) n LF) ≡ shown_text line
line_in_front line rest n long more =
    let inside : n < length (line ++ rest) = omega (arith, length-append line rest) in
    take_more_set (line ++ rest) n LF inside
    ∙ ap (λ (l : List ℕ). l ++ LF ∷ []) (ap (λ (k : ℕ). take k (line ++ rest)) (sym long) ∙ take-append_seam line rest)

-- ---- answers that are printed together

texts_more : (xs : List WaitingAnswer) (x : WaitingAnswer) → shown_texts (xs ++ x ∷ []) ≡ shown_texts xs ++ shown_text x.line
texts_more [] x = append-nil (shown_text x.line)
texts_more (y ∷ xs) x = ap (λ (l : List ℕ). shown_text y.line ++ l) (texts_more xs x) ∙ sym (append_assoc (shown_text y.line) (shown_texts xs) (shown_text x.line))

one_more_of : (answers : List WaitingAnswer) (i : ℕ) (x : WaitingAnswer) → i < length answers → x ≡ get_or answers i x → take (i + 1) answers ≡ take i answers ++ x ∷ []
one_more_of answers i x inside is = take_more answers i x inside ∙ ap (λ (y : WaitingAnswer). take i answers ++ y ∷ []) (sym is)

-- the texts of one answer more
pub texts_next : (answers : List WaitingAnswer) (i : ℕ) (x : WaitingAnswer) → i < length answers → x ≡ get_or answers i x
    → shown_texts (take (i + 1) answers) ≡ shown_texts (take i answers) ++ shown_text x.line
texts_next answers i x inside is = ap shown_texts (one_more_of answers i x inside is) ∙ texts_more (take i answers) x

-- one answer more is noted
pub noted_next : {D : Type 0} (m : DiskMeaning D) (day : DayValue D) (answers : List WaitingAnswer) (i : ℕ) (x : WaitingAnswer) (first lists next : List (List ℕ)) → i < length answers → x ≡ get_or answers i x
    → next ≡ lists ++ numbers_of_shown (shown_after m day x) ∷ [] → map shown_of_numbers lists ≡ map shown_of_numbers first ++ all_shown_after m day (take i answers)
    → map shown_of_numbers next ≡ map shown_of_numbers first ++ all_shown_after m day (take (i + 1) answers)
noted_next m day answers i x first lists next inside is pushed before =
    let f = shown_after m day in
    ap (map shown_of_numbers) pushed ∙ shown_more lists (shown_after m day x)
    ∙ ap (λ (l : List ShownLine). l ++ shown_after m day x ∷ []) before
    ∙ append_assoc (map shown_of_numbers first) (all_shown_after m day (take i answers)) (shown_after m day x ∷ [])
    ∙ ap (λ (l : List ShownLine). map shown_of_numbers first ++ l)
    (sym (map-append f (take i answers) (x ∷ [])) ∙ ap (map f) (sym (one_more_of answers i x inside is)))

-- all lines were shown, or may have been
pub front_of_all : (shown shown_then lines : List ShownLine) → shown_then ≡ shown ++ lines → ShowsFront shown shown_then lines
front_of_all shown shown_then lines more = record { front = lines; others = []; order = sym (append-nil lines); more = more }

-- ---- what waits to be printed

-- nothing was printed, and nothing waits
pub printed_none : (start : Option (List ℕ)) (page text : List ℕ) → page ≡ [] → text ≡ [] → HasPrinted start start page text
printed_none start page text empty none = record { printed = []; gone = Appends-nil start; text_is = none ∙ sym empty }

-- more waits
pub printed_on : (start now : Option (List ℕ)) (page next text more : List ℕ) → HasPrinted start now page text → next ≡ page ++ more → HasPrinted start now next (text ++ more)
printed_on start now page next text more has is = record {
  printed = has.printed;
  gone = has.gone;
  text_is = ap (λ (l : List ℕ). l ++ more) has.text_is ∙ append_assoc has.printed page more ∙ ap (λ (l : List ℕ). has.printed ++ l) (sym is);
}

-- what waited was printed, and nothing waits
pub printed_page : (start now then_ : Option (List ℕ)) (page next text : List ℕ) → HasPrinted start now page text → Appends now then_ page → next ≡ [] → HasPrinted start then_ next text
printed_page start now then_ page next text has goes empty = record {
  printed = has.printed ++ page;
  gone = Appends-trans start now then_ has.printed page has.gone goes;
  text_is = has.text_is ∙ sym (append-nil (has.printed ++ page)) ∙ ap (λ (l : List ℕ). (has.printed ++ page) ++ l) (sym empty);
}

-- more was printed, where nothing waited
pub printed_more : (start now then_ : Option (List ℕ)) (page text more : List ℕ) → HasPrinted start now page text → page ≡ [] → Appends now then_ more → HasPrinted start then_ page (text ++ more)
printed_more start now then_ page text more has empty goes = record {
  printed = has.printed ++ more;
  gone = Appends-trans start now then_ has.printed more has.gone goes;
  text_is =
      ap (λ (l : List ℕ). l ++ more) (has.text_is ∙ ap (λ (l : List ℕ). has.printed ++ l) empty ∙ append-nil has.printed)
      ∙ sym (append-nil (has.printed ++ more)) ∙ ap (λ (l : List ℕ). (has.printed ++ more) ++ l) (sym empty);
}

-- what waited was printed, so all of the text is
pub printed_all : (start now then_ : Option (List ℕ)) (page text : List ℕ) → HasPrinted start now page text → Appends now then_ page → Appends start then_ text
printed_all start now then_ page text has goes =
    subst (λ (l : List ℕ). Appends start then_ l) (sym has.text_is) (Appends-trans start now then_ has.printed page has.gone goes)

-- what waited was printed, and then, if the writer takes it, more
pub printed_then : {T E : Type 0} (r : Result T E) (start before now then_ : Option (List ℕ)) (page next text more : List ℕ) → HasPrinted start before page text → Appends before now page → next ≡ []
    → OnOk r (Appends now then_ more) → OnOk r (HasPrinted start then_ next (text ++ more))
printed_then (Ok t) start before now then_ page next text more has goes empty wrote =
    printed_more start now then_ next text more (printed_page start before now page next text has goes empty) empty wrote
printed_then (Err e) start before now then_ page next text more has goes empty wrote = tt
