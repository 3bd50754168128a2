-- Lines that are there together are read, and obeyed one after another.
use Rattle.std.proofs.Common.{◌≡◌, ◌⊎◌, inl, inr, ◌<◌, ◌≤◌, ◌+◌, ℕ, Bool, true, false, List, [], ◌∷◌, ◌++◌, length, take, drop, get_or, Option, Some, None, OnSome, refl, sym, ◌∙◌, ap, subst, arith, append_assoc}
use Rattle.std.specs.Prelude.{MatchOption}
use Rattle.std.specs.List.{AllByRecursion}
use Rattle.std.specs.Io.KnownBytes.{IsAtEnd}
use Rattle.std.proofs.lemmas.Bool.{false≢true}
use Rattle.std.proofs.lemmas.List.{append-nil, take_more, take-append-drop}
use Rattle.std.proofs.lemmas.Option.{get_or_from_slice_get, slice_get_read, slice_get_within}
use Rattle.catalogue_core.specs.Replay.{History}
use Rattle.live_day.specs.declared.group.Front.{Front}
use Rattle.live_day.specs.declared.keyboard.Typed.{Typed}
use Rattle.live_day.specs.declared.keyboard.Typed.TheVariants.{Text, TooLong, Cut}
use Rattle.live_day.specs.declared.notice.Notice.{Notice}
use Rattle.live_day.specs.declared.notice.Notice.TheVariants.{NoMemory, JournalFull, NoStation}
use Rattle.live_day.specs.declared.notice.Notice.TheVariants as notice
use Rattle.live_day.specs.declared.typing.Then.{Then}
use Rattle.live_day.specs.declared.typing.Then.TheVariants.{More, Over, Failed}
use Rattle.live_day.specs.declared.waiting.WaitingAnswer.{WaitingAnswer}
use Rattle.live_day.specs.declared.wish.Wish.{Wish}
use Rattle.live_day.specs.declared.wish.Wish.TheVariants.{Station, Quit, Perform}
use Rattle.live_day.specs.Days.{DayValue}
use Rattle.live_day.specs.Groups.{IsFrontObeyed, IsNextRefused, IsNoQuit, IsGroupTyped, IsRefused, WaitsToTell, all_told_by}
use Rattle.live_day.specs.Sessions.{Told, TellsMore, IsLineRefused, IsObeyed, AreObeyed, HasObeyed, IsDayRun, IsEnd, IsWishTyped, notice_told}
use Rattle.live_day.specs.Shows.{ShownLine, MayBeSaid}
use Rattle.live_day.specs.Typing.{TypesKnown, TypesLines, TypesNext, IsAllTyped, HasTyped}
use Rattle.live_day.specs.Wishes.{is_quit}
use Rattle.live_day.proofs.SessionLaws.{obeyed_more, tells_both, tells_none}
use Rattle.live_day.proofs.ShowLaws.{all_append}
use Rattle.live_day.proofs.TypingLaws.{text_ended, typed_end, typed_none, typed_one}
use Rattle.live_day.proofs.WaitingLaws.{told_then}

-- ---- which lines are none of a group

pub quits_text : (typed : Typed) (line text : List ℕ) (quits : Bool) → typed ≡ Text line → text ≡ line → quits ≡ is_quit text → quits ≡ true → IsWishTyped typed Quit
quits_text typed line text quits is same value quit = subst (λ (t : Typed). IsWishTyped t Quit) (sym is) (ap is_quit (sym same) ∙ sym value ∙ quit)

pub no_quit_text : (typed : Typed) (line text : List ℕ) (quits : Bool) → typed ≡ Text line → text ≡ line → quits ≡ is_quit text → quits ≡ false → IsNoQuit typed
no_quit_text typed line text quits is same value other = λ wish.
    false≢true (sym other ∙ value ∙ ap is_quit same ∙ subst (λ (t : Typed). IsWishTyped t Quit) is wish)

pub no_quit_long : (typed : Typed) → typed ≡ TooLong → IsNoQuit typed
no_quit_long typed is = λ wish. let e : Quit ≡ Perform = subst (λ (t : Typed). IsWishTyped t Quit) is wish in cc

pub no_quit_cut : (typed : Typed) → typed ≡ Cut → IsNoQuit typed
no_quit_cut typed is = λ wish. let e : Quit ≡ Perform = subst (λ (t : Typed). IsWishTyped t Quit) is wish in cc

-- a line that is none of these is performed
pub performs_else : (typed : Typed) (wish : Wish) → IsNoQuit typed → IsWishTyped typed wish → (wish ≡ Perform) ⊎ (wish ≡ Quit) → IsWishTyped typed Perform
performs_else typed wish unlike is either = elim either [
  | inl perform ↦ subst (λ (w : Wish). IsWishTyped typed w) perform is
  | inr quit ↦ absurd (unlike (subst (λ (w : Wish). IsWishTyped typed w) quit is))
]

all_right : {A : Type 0} (P : A → Type 0) (xs ys : List A) → AllByRecursion P (xs ++ ys) → AllByRecursion P ys
all_right P [] ys all = all
all_right P (x ∷ xs) ys all = all_right P xs ys all.1

-- what holds of all holds of the last ones
pub all_after : {A : Type 0} (P : A → Type 0) (count : ℕ) (xs rest : List A) → rest ≡ drop count xs → AllByRecursion P xs → AllByRecursion P rest
all_after P count xs rest is all =
    subst (λ l. AllByRecursion P l) (sym is) (all_right P (take count xs) (drop count xs) (subst (λ l. AllByRecursion P l) (sym (take-append-drop count xs)) all))

-- nothing was performed of such a line
said_of : (typed : Typed) (h : History) (n : Notice) → IsLineRefused typed h n → MayBeSaid h n
said_of typed h NoMemory is = tt
said_of typed h JournalFull is = is.0
said_of typed h NoStation is = absurd is
said_of typed h notice.Cut is = tt

pub refused_line : (station : ℕ) (typed : Typed) (wish : Wish) (h : History) (n : Notice) → IsNoQuit typed → IsWishTyped typed wish → (wish ≡ Perform) ⊎ (wish ≡ Quit) → IsLineRefused typed h n
    → IsRefused station typed h n
refused_line station typed wish h n unlike is either refused = record {
  said = said_of typed h n refused;
  obeyed = record { wish = Perform; asked = performs_else typed wish unlike is either; made = (refl, inr (record { same = refl; why = n; refused = refused; told_is = refl })) };
}

pub seat_or_none : (wanted stations : ℕ) → ((1 ≤ wanted) × (wanted ≤ stations)) ⊎ ((wanted < 1) ⊎ (stations < wanted))
seat_or_none wanted stations = grind arith

-- no station has the number
pub refused_station : (wanted station : ℕ) (typed : Typed) (h : History) → IsWishTyped typed (Station wanted) → (wanted < 1) ⊎ (h.opened.stations < wanted) → IsRefused station typed h NoStation
refused_station wanted station typed h is none = record { said = tt; obeyed = record { wish = Station wanted; asked = is; made = (refl, inr (none, refl, refl)) } }

-- the first lines were obeyed, and nothing was performed of the next
pub front_refused : {D : Type 0} (station : ℕ) (lines : List Typed) (old : History) (day day_then : DayValue D) (front : Front) (answers : List WaitingAnswer) (line : Typed) (n : Notice)
    → day_then ≡ day → front.answers.items ≡ answers → front.stopped ≡ Some n → front.count < length lines → line ≡ get_or lines front.count line
    → AreObeyed (take front.count lines) station old front.station day.history (all_told_by answers) → IsRefused front.station line day.history n → IsFrontObeyed station lines old front day_then.history
front_refused station lines old day day_then front answers line n same waits stopped inside is are refused =
    subst (λ d. IsFrontObeyed station lines old front d.history) (sym same) (record {
      within = omega (arith, inside);
      obeyed = subst (λ (l : List WaitingAnswer). AreObeyed (take front.count lines) station old front.station day.history (all_told_by l)) (sym waits) are;
      stopped = subst (λ (o : Option Notice). MatchOption o (front.count ≡ length lines) (IsNextRefused lines front day.history)) (sym stopped)
          (record { typed = line; next = slice_get_read lines (length lines) front.count line refl inside is; refused = refused });
    })

-- ---- one group after another

pub obeyed_both : (xs ys : List Typed) (station : ℕ) (old : History) (next : ℕ) (mid : History) (told : List Told) (last : ℕ) (new : History) (more : List Told)
    → AreObeyed xs station old next mid told → AreObeyed ys next mid last new more → AreObeyed (xs ++ ys) station old last new (told ++ more)
obeyed_both [] ys station old next mid told last new more first second =
    subst (λ (t : List Told). AreObeyed ys station old last new (t ++ more)) (sym first.2)
    (subst (λ (s : ℕ). AreObeyed ys s old last new more) first.0 (subst (λ (h : History). AreObeyed ys next h last new more) first.1 second))
obeyed_both (x ∷ xs) ys station old next mid told last new more first second = record {
  next = first.next;
  mid = first.mid;
  first = first.first;
  others = first.others ++ more;
  obeyed = first.obeyed;
  rest = obeyed_both xs ys first.next first.mid next mid first.others last new more first.rest second;
  told_is = ap (λ (t : List Told). t ++ more) first.told_is ∙ append_assoc first.first first.others more;
}

one_more_of : (lines : List Typed) (i : ℕ) (line : Typed) → i < length lines → line ≡ get_or lines i line → take (i + 1) lines ≡ take i lines ++ line ∷ []
one_more_of lines i line inside is = take_more lines i line inside ∙ ap (λ (y : Typed). take i lines ++ y ∷ []) (sym is)

-- a line more of a group, and its answer waits
pub obeyed_next : (lines : List Typed) (i : ℕ) (line : Typed) (station : ℕ) (old : History) (next : ℕ) (mid : History) (answers answers_then : List WaitingAnswer) (told : List Told) (last : ℕ) (new : History)
    → i < length lines → line ≡ get_or lines i line → AreObeyed (take i lines) station old next mid (all_told_by answers) → WaitsToTell answers answers_then told
    → IsObeyed next line mid last new told → AreObeyed (take (i + 1) lines) station old last new (all_told_by answers_then)
obeyed_next lines i line station old next mid answers answers_then told last new inside is are waits one =
    subst (λ (l : List Typed). AreObeyed l station old last new (all_told_by answers_then)) (sym (one_more_of lines i line inside is))
    (subst (λ (t : List Told). AreObeyed (take i lines ++ line ∷ []) station old last new t) (sym (told_then answers answers_then told waits))
    (obeyed_more (take i lines) line station old next mid (all_told_by answers) last new told are one))

-- a line more of a group, and what it is answered was told
pub obeyed_after : (lines : List Typed) (i : ℕ) (line : Typed) (station : ℕ) (old : History) (next : ℕ) (mid : History) (told : List Told) (last : ℕ) (new : History) (more : List Told)
    → i < length lines → line ≡ get_or lines i line → AreObeyed (take i lines) station old next mid told → IsObeyed next line mid last new more
    → AreObeyed (take (i + 1) lines) station old last new (told ++ more)
obeyed_after lines i line station old next mid told last new more inside is are one =
    subst (λ (l : List Typed). AreObeyed l station old last new (told ++ more)) (sym (one_more_of lines i line inside is))
    (obeyed_more (take i lines) line station old next mid told last new more are one)

-- then the station is told so, and the line is obeyed
pub obeyed_first : (station : ℕ) (lines : List Typed) (old : History) (front : Front) (now : History) (n : Notice) → front.count ≡ 0 → IsNextRefused lines front now n
    → AreObeyed (take front.count lines) station old front.station now (all_told_by front.answers.items)
    → AreObeyed (take 1 lines) station old front.station now (all_told_by front.answers.items ++ notice_told front.station now n)
obeyed_first station lines old front now n none next are =
    let typed = next.typed in
    let is : typed ≡ get_or lines front.count typed = sym (get_or_from_slice_get lines front.count typed typed next.next) in
    let one : front.count + 1 ≡ 1 = omega (arith, none) in
    subst (λ (k : ℕ). AreObeyed (take k lines) station old front.station now (all_told_by front.answers.items ++ notice_told front.station now n)) one
    (obeyed_after lines front.count typed station old front.station now (all_told_by front.answers.items) front.station now (notice_told front.station now n)
    (slice_get_within lines front.count typed next.next) is are next.refused.obeyed)

-- The lines were obeyed up to these, one after another, and what they were answered was told.
pub record HasObeyedTo (lines rest : List Typed) (station : ℕ) (old : History) (next : ℕ) (now : History) (shown shown_now : List ShownLine) : Type 0 where
  pub done : List Typed
  pub order : lines ≡ done ++ rest
  pub told : List Told
  pub tells : TellsMore shown shown_now told
  pub obeyed : AreObeyed done station old next now told

pub to_none : (lines : List Typed) (station : ℕ) (h : History) (shown : List ShownLine) → HasObeyedTo lines lines station h station h shown shown
to_none lines station h shown = record { done = []; order = refl; told = []; tells = tells_none shown; obeyed = (refl, refl, refl) }

pub to_more : (lines rest rest_then : List Typed) (station : ℕ) (old : History) (next : ℕ) (now : History) (x y z : List ShownLine) (count : ℕ) (told : List Told) (last : ℕ) (new : History)
    → rest_then ≡ drop count rest → HasObeyedTo lines rest station old next now x y → TellsMore y z told → AreObeyed (take count rest) next now last new told
    → HasObeyedTo lines rest_then station old last new x z
to_more lines rest rest_then station old next now x y z count told last new is to tells are = record {
  done = to.done ++ take count rest;
  order = to.order ∙ ap (λ (l : List Typed). to.done ++ l) (sym (take-append-drop count rest)) ∙ sym (append_assoc to.done (take count rest) (drop count rest))
      ∙ ap (λ (l : List Typed). (to.done ++ take count rest) ++ l) (sym is);
  told = to.told ++ told;
  tells = tells_both x y z to.told told to.tells tells;
  obeyed = obeyed_both to.done (take count rest) station old next now to.told last new told to.obeyed are;
}

-- the lines of a day, and those of a group
pub obeyed_group : (typed typed_now typed_then lines : List Typed) (old now new : History) (x y z : List ShownLine) (station next : ℕ) (told : List Told)
    → HasObeyed typed typed_now old now x y station → typed_then ≡ typed_now ++ lines → TellsMore y z told → AreObeyed lines station now next new told
    → HasObeyed typed typed_then old new x z next
obeyed_group typed typed_now typed_then lines old now new x y z station next told has read tells are = record {
  lines = has.lines ++ lines;
  read = read ∙ ap (λ (l : List Typed). l ++ lines) has.read ∙ append_assoc typed has.lines lines;
  told = has.told ++ told;
  obeyed = obeyed_both has.lines lines 1 old station now has.told next new told has.obeyed are;
  tells = tells_both x y z has.told told has.tells tells;
}

-- the day is over
pub run_over : (ended : Type 0) (typed typed_now typed_then end : List Typed) (old new : History) (x y : List ShownLine) (station : ℕ)
    → HasObeyed typed typed_now old new x y station → typed_then ≡ typed_now ++ end → IsEnd ended end → IsDayRun ended typed typed_then old new x y
run_over ended typed typed_now typed_then end old new x y station has read at_end = record {
  end = end;
  at_end = at_end;
  typed_before = typed_now;
  read = read;
  station = station;
  obeyed = has;
}

-- ---- how a group is read

lines_both : (xs ys : List Typed) (text mid rest : List ℕ) → TypesLines text xs mid → TypesLines mid ys rest → TypesLines text (xs ++ ys) rest
lines_both [] ys text mid rest first second = subst (λ (t : List ℕ). TypesLines t ys rest) first second
lines_both (x ∷ xs) ys text mid rest first second = (first.0, first.1, lines_both xs ys first.0 mid rest first.2 second)

known_both : (xs ys : List Typed) (a b c : Option (List ℕ)) → TypesKnown a xs b → TypesKnown b ys c → TypesKnown a (xs ++ ys) c
known_both xs ys None b c first second = tt
known_both xs ys (Some x) None c first second = absurd first
known_both xs ys (Some x) (Some y) None first second = absurd second
known_both xs ys (Some x) (Some y) (Some z) first second = lines_both xs ys x y z first second

pub typed_both : (a b c : Option (List ℕ)) (t u v : List Typed) → HasTyped a b t u → HasTyped b c u v → HasTyped a c t v
typed_both a b c t u v first second = record {
  lines = first.lines ++ second.lines;
  more = second.more ∙ ap (λ (l : List Typed). l ++ second.lines) first.more ∙ append_assoc t first.lines second.lines;
  are = known_both first.lines second.lines a b c first.are second.are;
}

left_on : (lines : List Typed) (a b c : Option (List ℕ)) → TypesKnown a lines b → OnSome b (IsAtEnd c) → OnSome a (IsAtEnd c)
left_on lines None b c are left = tt
left_on lines (Some x) None c are left = absurd are
left_on lines (Some x) (Some y) c are left = left

pub end_on : (ended : Type 0) (a b c : Option (List ℕ)) (t u end : List Typed) → HasTyped a b t u → IsEnd (IsAllTyped ended b c) end → IsEnd (IsAllTyped ended a c) end
end_on ended a b c t u [] has at_end = (at_end.0, left_on has.lines a b c has.are at_end.1)
end_on ended a b c t u (x ∷ xs) has at_end = at_end

-- no more come
pub over_ends : (ended : Type 0) (a b : Option (List ℕ)) (t u : List Typed) → u ≡ t → ended → TypesNext a None b → IsGroupTyped ended a b t u [] Over
over_ends ended a b t u same now none = (
  [],
  text_ended ended a a b t t (typed_none a t) now none,
  same ∙ sym (append-nil t) ∙ sym (append-nil (t ++ [])),
  typed_end a a b t t u (typed_none a t) same none,
)

-- QUIT was typed
pub over_quits : (ended : Type 0) (a b : Option (List ℕ)) (t u : List Typed) (line : Typed) → u ≡ t ++ line ∷ [] → TypesNext a (Some line) b → IsWishTyped line Quit → IsGroupTyped ended a b t u [] Over
over_quits ended a b t u line read next quits = (
  line ∷ [],
  (quits, refl),
  read ∙ ap (λ (l : List Typed). l ++ line ∷ []) (sym (append-nil t)),
  typed_one a a b t t u line (typed_none a t) read next,
)

-- the lines of a group up to now, and what came after them
pub group_ends : (ended : Type 0) (a b c : Option (List ℕ)) (t u v lines lines_now : List Typed) (then_ : Then) → lines_now ≡ lines → u ≡ t ++ lines → HasTyped a b t u
    → IsGroupTyped ended b c u v [] then_ → IsGroupTyped ended a c t v lines_now then_
group_ends ended a b c t u v lines lines_now More same read has group = (
  group.0 ∙ append-nil u ∙ read ∙ ap (λ (l : List Typed). t ++ l) (sym same),
  typed_both a b c t u v has group.1,
)
group_ends ended a b c t u v lines lines_now Over same read has group = (
  group.0,
  end_on ended a b c t u group.0 has group.1,
  group.2 ∙ ap (λ (l : List Typed). l ++ group.0) (append-nil u ∙ read ∙ ap (λ (l : List Typed). t ++ l) (sym same)),
  typed_both a b c t u v has group.3,
)
group_ends ended a b c t u v lines lines_now (Failed fault) same read has group = (
  group.0 ∙ append-nil u ∙ read ∙ ap (λ (l : List Typed). t ++ l) (sym same),
  (group.1.0, typed_both a b group.1.0 t u v has group.1.1),
)

-- The lines of a group that were read up to now.
pub record HasReadGroup (a b : Option (List ℕ)) (t u lines : List Typed) : Type 0 where
  pub typed : u ≡ t ++ lines
  pub read : HasTyped a b t u
  pub no_quit : AllByRecursion IsNoQuit lines

pub read_none : (a : Option (List ℕ)) (t lines : List Typed) → lines ≡ [] → HasReadGroup a a t t lines
read_none a t lines none = record {
  typed = sym (append-nil t) ∙ ap (λ (l : List Typed). t ++ l) (sym none);
  read = typed_none a t;
  no_quit = subst (λ (l : List Typed). AllByRecursion IsNoQuit l) (sym none) tt;
}

pub read_one : (a b c : Option (List ℕ)) (t u v lines lines_then : List Typed) (line : Typed) → HasReadGroup a b t u lines → lines_then ≡ lines ++ line ∷ [] → IsNoQuit line
    → v ≡ u ++ line ∷ [] → TypesNext b (Some line) c → HasReadGroup a c t v lines_then
read_one a b c t u v lines lines_then line has is unlike read next = record {
  typed = read ∙ ap (λ (l : List Typed). l ++ line ∷ []) has.typed ∙ append_assoc t lines (line ∷ []) ∙ ap (λ (l : List Typed). t ++ l) (sym is);
  read = typed_one a b c t u v line has.read read next;
  no_quit = subst (λ (l : List Typed). AllByRecursion IsNoQuit l) (sym is) (all_append IsNoQuit lines (line ∷ []) has.no_quit (unlike, tt));
}

-- further lines come
pub group_goes_on : (ended : Type 0) (a b : Option (List ℕ)) (t u lines lines_then : List Typed) (then_ : Then) → lines_then ≡ lines → then_ ≡ More → HasReadGroup a b t u lines
    → IsGroupTyped ended a b t u lines_then then_
group_goes_on ended a b t u lines lines_then then_ same more has =
    subst (λ (h : Then). IsGroupTyped ended a b t u lines_then h) (sym more) (subst (λ (l : List Typed). IsGroupTyped ended a b t u l More) (sym same) (has.typed, has.read))

pub still_no_quit : (lines lines_then : List Typed) → lines_then ≡ lines → AllByRecursion IsNoQuit lines → AllByRecursion IsNoQuit lines_then
still_no_quit lines lines_then same all = subst (λ (l : List Typed). AllByRecursion IsNoQuit l) (sym same) all
