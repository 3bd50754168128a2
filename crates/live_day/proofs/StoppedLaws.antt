-- How far lines were obeyed, where a day is stopped.
use Rattle.std.proofs.Common.{◌≡◌, ◌⊎◌, inl, inr, ◌<◌, ◌≤◌, ◌+◌, ℕ, List, [], ◌∷◌, ◌++◌, length, map, take, drop, get_or, Option, Some, Result, Ok, Err, refl, sym, ◌∙◌, ap, subst, arith, append_assoc, length-append}
use Rattle.std.specs.Prelude.{IfErr, OnErr}
use Rattle.std.proofs.lemmas.List.{append-nil, map-append, take-append-drop}
use Rattle.catalogue_core.specs.declared.command.Command.{Command}
use Rattle.catalogue_core.specs.declared.command.Command.TheVariants.{Bad}
use Rattle.catalogue_core.specs.Replay.{History, answer_of, with_entry}
use Rattle.files_in_place.specs.Disk.{DiskMeaning}
use Rattle.files_in_place.specs.Folder.{Name}
use Rattle.station_lines.specs.AnswerLines.{line_of}
use Rattle.station_lines.specs.Script.Meaning.{Means}
use Rattle.station_lines.specs.declared.script.line.Line.{Line}
use Rattle.station_lines.specs.declared.script.line.Line.TheVariants.{Run}
use Rattle.live_day.specs.declared.faults.LineFault.{LineFault}
use Rattle.live_day.specs.declared.group.Front.{Front}
use Rattle.live_day.specs.declared.keyboard.Typed.{Typed}
use Rattle.live_day.specs.declared.keyboard.Typed.TheVariants.{Text, TooLong}
use Rattle.live_day.specs.declared.keyboard.TypingFault.{TypingFault}
use Rattle.live_day.specs.declared.notice.Notice.{Notice}
use Rattle.live_day.specs.declared.typing.Then.{Then}
use Rattle.live_day.specs.declared.typing.Then.TheVariants.{More, Over, Failed}
use Rattle.live_day.specs.declared.typing.TheConstants.{MAX_GROUP_LINES}
use Rattle.live_day.specs.declared.waiting.WaitingAnswer.{WaitingAnswer}
use Rattle.live_day.specs.Days.{DayValue, AnswersLine, IsAnsweredBy, IsUnperformed, parts_of}
use Rattle.live_day.specs.Groups.{IsFrontObeyed, IsGroupTyped, IsNextRefused, all_told_by}
use Rattle.live_day.specs.Sessions.{Told, AreObeyed, HasObeyed, IsObeyed, MeansTyped, TellsMore, notice_told, one_told, told_in}
use Rattle.live_day.specs.Shows.{ShownLine, HasFront, HasFrontIn, KeepsShown, shown_now}
use Rattle.live_day.specs.Stops.{AreCutShort, AreFirstObeyed, AreStopped, HasLogOf, IsDayStopped, TellsFront}
use Rattle.live_day.specs.Typing.{HasTyped, HasTypedFirst}
use Rattle.live_day.specs.Waiting.{ShowsFront, all_shown_after}
use Rattle.live_day.proofs.GroupLaws.{HasObeyedTo, obeyed_after, obeyed_both, obeyed_first, typed_both}
use Rattle.live_day.proofs.SessionLaws.{tells_both, tells_line, tells_none}
use Rattle.live_day.proofs.TypingLaws.{typed_none}
use Rattle.live_day.proofs.WaitingLaws.{told_again}

pub on_err : {A E P : Type 0} (r : Result A E) → P → OnErr r P
on_err (Ok x) is = tt
on_err (Err e) is = is

-- ---- a line was performed, and its answer could not be made

pub run_entered : (meaning : Line) (command : Command) (station : ℕ) (old new : History) → meaning ≡ Run command → new ≡ with_entry old station command
    → (answer : Option (List ℕ)) × AnswersLine meaning station old new answer
run_entered meaning command station old new is entered =
    let line : Option (List ℕ) = Some (line_of (answer_of old station command)) in
    (line, subst (λ (m : Line). AnswersLine m station old new line) (sym is) (entered, refl))

-- by the one meaning of a line, and so by each
pub entered_one : (means : Line → Type 0) (m : Line) (station : ℕ) (old new : History) (r : Result (Option (List ℕ)) LineFault) → ((other : Line) → means other → other ≡ m)
    → IfErr r (λ fault. ¬ (IsUnperformed fault) → (answer : Option (List ℕ)) × AnswersLine m station old new answer) → IfErr r (λ fault. ¬ (IsUnperformed fault) → IsAnsweredBy means station old new)
entered_one means m station old new (Ok answer) one is = tt
entered_one means m station old new (Err fault) one is = λ performed.
    let by = is performed in
    (by.0, λ other so. subst (λ (l : Line). AnswersLine l station old new by.0) (sym (one other so)) by.1)

pub entered_text : (station : ℕ) (old new : History) (r : Result (Option (List ℕ)) LineFault) (typed : Typed) (line text : List ℕ) → typed ≡ Text line → text ≡ line
    → IfErr r (λ fault. ¬ (IsUnperformed fault) → IsAnsweredBy (Means text) station old new) → IfErr r (λ fault. ¬ (IsUnperformed fault) → IsAnsweredBy (MeansTyped typed) station old new)
entered_text station old new (Ok answer) typed line text is same by = tt
entered_text station old new (Err fault) typed line text is same by = λ performed.
    let answered = by performed in
    (answered.0, λ m means. answered.1 m (subst (λ (l : List ℕ). Means l m) (sym same) (subst (λ (t : Typed). MeansTyped t m) is means)))

pub entered_long : (station : ℕ) (old new : History) (r : Result (Option (List ℕ)) LineFault) (typed : Typed) → typed ≡ TooLong
    → IfErr r (λ fault. ¬ (IsUnperformed fault) → (answer : Option (List ℕ)) × AnswersLine (Run Bad) station old new answer)
    → IfErr r (λ fault. ¬ (IsUnperformed fault) → IsAnsweredBy (MeansTyped typed) station old new)
entered_long station old new (Ok answer) typed is by = tt
entered_long station old new (Err fault) typed is by = λ performed.
    let answered = by performed in (
      answered.0,
      λ m means.
          let same : m ≡ Run Bad = subst (λ (t : Typed). MeansTyped t m) is means in
          subst (λ (l : Line). AnswersLine l station old new answered.0) (sym same) answered.1,
    )

-- ---- what was told

pub untold : (shown : List ShownLine) (told : List Told) → TellsFront shown shown told
untold shown told = record { first = []; others = told; order = refl; tells = tells_none shown }

all_told : (x y : List ShownLine) (told : List Told) → TellsMore x y told → TellsFront x y told
all_told x y told tells = record { first = told; others = []; order = sym (append-nil told); tells = tells }

-- all of this, and the first of what comes after it
told_front : (x y z : List ShownLine) (a b : List Told) → TellsMore x y a → TellsFront y z b → TellsFront x z (a ++ b)
told_front x y z a b tells front = record {
  first = a ++ front.first;
  others = front.others;
  order = ap (λ (l : List Told). a ++ l) front.order ∙ sym (append_assoc a front.first front.others);
  tells = tells_both x y z a front.first tells front.tells;
}

-- the first of these answers
tells_front : {D : Type 0} (m : DiskMeaning D) (day : DayValue D) (answers : List WaitingAnswer) (x y : List ShownLine) → ShowsFront x y (all_shown_after m day answers) → TellsFront x y (all_told_by answers)
tells_front m day answers x y front = record {
  first = map told_in front.front;
  others = map told_in front.others;
  order = told_again m day answers ∙ ap (λ (l : List ShownLine). map told_in l) front.order ∙ map-append told_in front.front front.others;
  tells = record { lines = front.front; more = front.more; told_is = refl };
}

-- one line, or not
pub tells_maybe : {D : Type 0} (m : DiskMeaning D) (day : DayValue D) (station : ℕ) (line text : List ℕ) (x y : List ShownLine) → line ≡ text → (y ≡ x) ⊎ (y ≡ x ++ shown_now m day station line ∷ [])
    → TellsFront x y (one_told station day.history text)
tells_maybe m day station line text x y is (inl same) = subst (λ (l : List ShownLine). TellsFront x l (one_told station day.history text)) (sym same) (untold x (one_told station day.history text))
tells_maybe m day station line text x y is (inr more) = all_told x y (one_told station day.history text) (tells_line m day station line text x y is more)

-- ---- which lines were obeyed

pub first_of_front : (station : ℕ) (lines : List Typed) (old : History) (front : Front) (new : History) → IsFrontObeyed station lines old front new → AreFirstObeyed station lines old new
first_of_front station lines old front new is = record {
  done = take front.count lines;
  rest = drop front.count lines;
  order = sym (take-append-drop front.count lines);
  next = front.station;
  told = all_told_by front.answers.items;
  obeyed = is.obeyed;
}

-- and one more
pub first_performed : (lines : List Typed) (i : ℕ) (line : Typed) (station : ℕ) (old : History) (next : ℕ) (mid : History) (told : List Told) (last : ℕ) (new : History) (more : List Told)
    → i < length lines → line ≡ get_or lines i line → AreObeyed (take i lines) station old next mid told → IsObeyed next line mid last new more → AreFirstObeyed station lines old new
first_performed lines i line station old next mid told last new more inside is are one = record {
  done = take (i + 1) lines;
  rest = drop (i + 1) lines;
  order = sym (take-append-drop (i + 1) lines);
  next = last;
  told = told ++ more;
  obeyed = obeyed_after lines i line station old next mid told last new more inside is are one;
}

pub cut_untold : (station : ℕ) (lines : List Typed) (old new : History) (shown : List ShownLine) → AreFirstObeyed station lines old new → AreCutShort station lines old new shown shown
cut_untold station lines old new shown first = record { front = first; tells = untold shown first.told }

pub cut_front : {D : Type 0} (m : DiskMeaning D) (day : DayValue D) (station : ℕ) (lines : List Typed) (old : History) (front : Front) (new : History) (x y : List ShownLine) → IsFrontObeyed station lines old front new
    → ShowsFront x y (all_shown_after m day front.answers.items) → AreCutShort station lines old new x y
cut_front m day station lines old front new x y is shows = record {
  front = record {
    done = take front.count lines;
    rest = drop front.count lines;
    order = sym (take-append-drop front.count lines);
    next = front.station;
    told = all_told_by front.answers.items;
    obeyed = is.obeyed;
  };
  tells = tells_front m day front.answers.items x y shows;
}

-- nothing is performed of the first line, and that is told or not
pub cut_notice : (station : ℕ) (lines : List Typed) (old : History) (front : Front) (now : History) (n : Notice) (x y z : List ShownLine) → front.count ≡ 0 → IsNextRefused lines front now n
    → AreObeyed (take front.count lines) station old front.station now (all_told_by front.answers.items) → TellsMore x y (all_told_by front.answers.items)
    → TellsFront y z (notice_told front.station now n) → AreCutShort station lines old now x z
cut_notice station lines old front now n x y z none next are tells told = record {
  front = record {
    done = take 1 lines;
    rest = drop 1 lines;
    order = sym (take-append-drop 1 lines);
    next = front.station;
    told = all_told_by front.answers.items ++ notice_told front.station now n;
    obeyed = obeyed_first station lines old front now n none next are;
  };
  tells = told_front x y z (all_told_by front.answers.items) (notice_told front.station now n) tells told;
}

-- ---- how far

pub stopped_to : (are_kept : ℕ → Type 0) (lines rest : List Typed) (station : ℕ) (old : History) (next : ℕ) (mid new : History) (x y z : List ShownLine) → HasObeyedTo lines rest station old next mid x y
    → AreCutShort next rest mid new y z → are_kept (length mid.journal) → AreStopped (length lines) are_kept station lines old new x z
stopped_to are_kept lines rest station old next mid new x y z to cut kept = record {
  before = to.done;
  rest = rest;
  order = to.order;
  next = next;
  mid = mid;
  told = to.told;
  shown_before = y;
  obeyed = to.obeyed;
  tells = to.tells;
  cut = cut;
  few = omega (arith, ap length to.order, length-append to.done rest, ap length cut.front.order, length-append cut.front.done cut.front.rest);
  kept = kept;
}

-- what a crash leaves now
pub log_left : {D : Type 0} (m : DiskMeaning D) (old new : DayValue D) (x y : List ShownLine) → KeepsShown m old new x y → HasLogOf m new (length old.history.journal)
log_left m old new x y kept keeps left may =
    let on = kept.after in
    let moments = on.moments keeps in
    let has : HasFrontIn old.log.name old.log.head (length old.history.journal) (parts_of new.history.journal) (m.seen old.log.disk) left =
    moments.each left (m.counts_now new.log.disk (m.moment old.log.disk) left moments.later may) in
    record {
      kept = subst (λ (n : Name). HasFront n new.log.head (length old.history.journal) (parts_of new.history.journal) left) (sym on.name)
          (subst (λ (h : List ℕ). HasFront old.log.name h (length old.history.journal) (parts_of new.history.journal) left) (sym on.head) has.kept);
      elsewhere = λ n other. has.elsewhere n (λ is. other (is ∙ sym on.name)) ∙ sym (on.others n (λ is. other (is ∙ sym on.name)));
    }

-- the lines of a day, and those of the group that it was stopped in
pub stopped_in : (are_kept : ℕ → Type 0) (typed typed_now typed_then lines end : List Typed) (old mid new : History) (x y z : List ShownLine) (station : ℕ) → HasObeyed typed typed_now old mid x y station
    → typed_then ≡ typed_now ++ (lines ++ end) → length lines ≤ MAX_GROUP_LINES → AreStopped (length lines) are_kept station lines mid new y z → IsDayStopped are_kept typed typed_then old new x z
stopped_in are_kept typed typed_now typed_then lines end old mid new x y z station has read few s = record {
  lines = has.lines ++ (lines ++ end);
  read = read ∙ ap (λ (l : List Typed). l ++ (lines ++ end)) has.read ∙ append_assoc typed has.lines (lines ++ end);
  stopped = record {
    before = has.lines ++ s.before;
    rest = s.rest ++ end;
    order = ap (λ (l : List Typed). has.lines ++ (l ++ end)) s.order ∙ ap (λ (l : List Typed). has.lines ++ l) (append_assoc s.before s.rest end) ∙ sym (append_assoc has.lines s.before (s.rest ++ end));
    next = s.next;
    mid = s.mid;
    told = has.told ++ s.told;
    shown_before = s.shown_before;
    obeyed = obeyed_both has.lines s.before 1 old station mid has.told s.next s.mid s.told has.obeyed s.obeyed;
    tells = tells_both x y s.shown_before has.told s.told has.tells s.tells;
    cut = record {
      front = record {
        done = s.cut.front.done;
        rest = s.cut.front.rest ++ end;
        order = ap (λ (l : List Typed). l ++ end) s.cut.front.order ∙ append_assoc s.cut.front.done s.cut.front.rest end;
        next = s.cut.front.next;
        told = s.cut.front.told;
        obeyed = s.cut.front.obeyed;
      };
      tells = s.cut.tells;
    };
    few = omega (arith, s.few, few);
    kept = s.kept;
  };
}

-- all of the last group were obeyed and answered too, and the next line could not be read
pub stopped_after : (are_kept : ℕ → Type 0) (typed typed_now typed_then lines : List Typed) (old mid new : History) (x y z : List ShownLine) (station next : ℕ) (told : List Told)
    → HasObeyed typed typed_now old mid x y station → typed_then ≡ typed_now ++ lines → length lines ≤ MAX_GROUP_LINES → TellsMore y z told → AreObeyed lines station mid next new told
    → are_kept (length mid.journal) → IsDayStopped are_kept typed typed_then old new x z
stopped_after are_kept typed typed_now typed_then lines old mid new x y z station next told has read few tells are kept = record {
  lines = has.lines ++ lines;
  read = read ∙ ap (λ (l : List Typed). l ++ lines) has.read ∙ append_assoc typed has.lines lines;
  stopped = record {
    before = has.lines;
    rest = lines;
    order = refl;
    next = station;
    mid = mid;
    told = has.told;
    shown_before = y;
    obeyed = has.obeyed;
    tells = has.tells;
    cut = record {
      front = record { done = lines; rest = []; order = sym (append-nil lines); next = next; told = told; obeyed = are };
      tells = record { first = told; others = []; order = sym (append-nil told); tells = tells };
    };
    few = few;
    kept = kept;
  };
}

-- all lines but these were obeyed and answered, and of these none was
pub stopped_all : (are_kept : ℕ → Type 0) (typed typed_now typed_then end : List Typed) (old new : History) (x y : List ShownLine) (station : ℕ) → HasObeyed typed typed_now old new x y station
    → typed_then ≡ typed_now ++ end → are_kept (length new.journal) → IsDayStopped are_kept typed typed_then old new x y
stopped_all are_kept typed typed_now typed_then end old new x y station has read kept = record {
  lines = has.lines ++ end;
  read = read ∙ ap (λ (l : List Typed). l ++ end) has.read ∙ append_assoc typed has.lines end;
  stopped = record {
    before = has.lines;
    rest = end;
    order = refl;
    next = station;
    mid = new;
    told = has.told;
    shown_before = y;
    obeyed = has.obeyed;
    tells = has.tells;
    cut = record {
      front = record { done = []; rest = end; order = refl; next = station; told = []; obeyed = (refl, refl, refl) };
      tells = record { first = []; others = []; order = refl; tells = tells_none y };
    };
    few = omega arith;
    kept = kept;
  };
}

-- their entries are kept in another way
pub stopped_by : (P Q : ℕ → Type 0) → ((least : ℕ) → P least → Q least) → (typed typed_then : List Typed) (old new : History) (x y : List ShownLine) → IsDayStopped P typed typed_then old new x y
    → IsDayStopped Q typed typed_then old new x y
stopped_by P Q by typed typed_then old new x y is = record {
  lines = is.lines;
  read = is.read;
  stopped = record {
    before = is.stopped.before;
    rest = is.stopped.rest;
    order = is.stopped.order;
    next = is.stopped.next;
    mid = is.stopped.mid;
    told = is.stopped.told;
    shown_before = is.stopped.shown_before;
    obeyed = is.stopped.obeyed;
    tells = is.stopped.tells;
    cut = is.stopped.cut;
    few = is.stopped.few;
    kept = by (length is.stopped.mid.journal) is.stopped.kept;
  };
}

-- ---- what was typed

pub untyped : (text : Option (List ℕ)) (typed : List Typed) → HasTypedFirst text typed typed
untyped text typed = (text, typed_none text typed)

pub first_typed : (a b : Option (List ℕ)) (t u v : List Typed) → HasTyped a b t u → HasTypedFirst b u v → HasTypedFirst a t v
first_typed a b t u v has first = (first.0, typed_both a b first.0 t u v has first.1)

pub group_first : (ended : Type 0) (a b : Option (List ℕ)) (t u lines : List Typed) (then_ : Then) → IsGroupTyped ended a b t u lines then_ → HasTypedFirst a t u
group_first ended a b t u lines More group = (b, group.1)
group_first ended a b t u lines Over group = (b, group.3)
group_first ended a b t u lines (Failed fault) group = group.1

pub group_end : (ended : Type 0) (a b : Option (List ℕ)) (t u lines : List Typed) (then_ : Then) → IsGroupTyped ended a b t u lines then_ → (end : List Typed) × (u ≡ t ++ (lines ++ end))
group_end ended a b t u lines More group = ([], group.0 ∙ ap (λ (l : List Typed). t ++ l) (sym (append-nil lines)))
group_end ended a b t u lines Over group = (group.0, group.2 ∙ append_assoc t lines group.0)
group_end ended a b t u lines (Failed fault) group = ([], group.0 ∙ ap (λ (l : List Typed). t ++ l) (sym (append-nil lines)))

-- none of a group were
pub failed_group : (ended : Type 0) (a b : Option (List ℕ)) (t u lines : List Typed) (fault : TypingFault) → u ≡ t → lines ≡ [] → IsGroupTyped ended a b t u lines (Failed fault)
failed_group ended a b t u lines fault same none = (
  same ∙ sym (append-nil t) ∙ ap (λ (l : List Typed). t ++ l) (sym none),
  (a, subst (λ (l : List Typed). HasTyped a a t l) (sym same) (typed_none a t)),
)
