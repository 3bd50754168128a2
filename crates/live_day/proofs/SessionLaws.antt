-- Lines that are typed, one after another.
use Rattle.std.proofs.Common.{◌≡◌, ℕ, List, [], ◌∷◌, ◌++◌, map, Option, Result, Ok, Err, IfOk, refl, sym, ◌∙◌, ap, subst, append_assoc}
use Rattle.std.proofs.lemmas.List.{append-nil, map-append}
use Rattle.catalogue_core.specs.Replay.{History}
use Rattle.live_day.specs.declared.keyboard.Typed.{Typed}
use Rattle.files_in_place.specs.Disk.{DiskMeaning}
use Rattle.catalogue_core.specs.declared.command.Command.TheVariants.{Bad}
use Rattle.station_lines.specs.declared.script.line.Line.{Line}
use Rattle.station_lines.specs.declared.script.line.Line.TheVariants.{Run}
use Rattle.station_lines.specs.Script.Meaning.{Means}
use Rattle.live_day.specs.declared.faults.LineFault.{LineFault}
use Rattle.live_day.specs.declared.keyboard.Typed.TheVariants.{Text, TooLong}
use Rattle.live_day.specs.Days.{DayValue}
use Rattle.live_day.specs.Shows.{ShownLine, shown_now}
use Rattle.live_day.specs.Sessions.{Told, told_in, one_told, MeansTyped, TellsMore, IsObeyed, AreObeyed, HasObeyed}

pub tells_none : (shown : List ShownLine) → TellsMore shown shown []
tells_none shown = record { lines = []; more = sym (append-nil shown); told_is = refl }

-- a line that is this text
pub tells_line : {D : Type 0} (m : DiskMeaning D) (day : DayValue D) (station : ℕ) (line text : List ℕ) (shown shown_then : List ShownLine) → line ≡ text
    → shown_then ≡ shown ++ shown_now m day station line ∷ [] → TellsMore shown shown_then (one_told station day.history text)
tells_line m day station line text shown shown_then is more = record { lines = shown_now m day station line ∷ []; more = more; told_is = ap (one_told station day.history) (sym is) }

pub tells_both : (x y z : List ShownLine) (a b : List Told) → TellsMore x y a → TellsMore y z b → TellsMore x z (a ++ b)
tells_both x y z a b first second = record {
  lines = first.lines ++ second.lines;
  more = second.more ∙ ap (λ (l : List ShownLine). l ++ second.lines) first.more ∙ append_assoc x first.lines second.lines;
  told_is =
      ap (λ (l : List Told). l ++ b) first.told_is ∙ ap (λ (l : List Told). map told_in first.lines ++ l) second.told_is
      ∙ sym (map-append told_in first.lines second.lines);
}

-- one line more
pub obeyed_more : (lines : List Typed) (line : Typed) (station : ℕ) (old : History) (next : ℕ) (mid : History) (told : List Told) (last : ℕ) (new : History) (more : List Told)
    → AreObeyed lines station old next mid told → IsObeyed next line mid last new more → AreObeyed (lines ++ line ∷ []) station old last new (told ++ more)
obeyed_more [] line station old next mid told last new more are one = record {
  next = last;
  mid = new;
  first = more;
  others = [];
  obeyed = subst (λ (s : ℕ). IsObeyed s line old last new more) are.0 (subst (λ (h : History). IsObeyed next line h last new more) are.1 one);
  rest = (refl, refl, refl);
  told_is = ap (λ (t : List Told). t ++ more) are.2 ∙ sym (append-nil more);
}
obeyed_more (l ∷ lines) line station old next mid told last new more are one = record {
  next = are.next;
  mid = are.mid;
  first = are.first;
  others = are.others ++ more;
  obeyed = are.obeyed;
  rest = obeyed_more lines line are.next are.mid next mid are.others last new more are.rest one;
  told_is = ap (λ (t : List Told). t ++ more) are.told_is ∙ append_assoc are.first are.others more;
}

pub obeyed_none : (typed : List Typed) (h : History) (shown : List ShownLine) → HasObeyed typed typed h h shown shown 1
obeyed_none typed h shown = record { lines = []; read = sym (append-nil typed); told = []; obeyed = (refl, refl, refl); tells = tells_none shown }

-- ---- at the exits of calls

-- a line that was typed is answered by its meaning
pub answered_text : (P : Line → Option (List ℕ) → Type 0) (r : Result (Option (List ℕ)) LineFault) (typed : Typed) (line text : List ℕ) → typed ≡ Text line → text ≡ line
    → IfOk r (λ answer. (m : Line) → Means text m → P m answer) → IfOk r (λ answer. (m : Line) → MeansTyped typed m → P m answer)
answered_text P (Ok answer) typed line text is same by = λ m means. by m (subst (λ (l : List ℕ). Means l m) (sym same) (subst (λ (t : Typed). MeansTyped t m) is means))
answered_text P (Err fault) typed line text is same by = tt

-- and one that is too long, as one that can't be read
pub answered_long : (P : Line → Option (List ℕ) → Type 0) (r : Result (Option (List ℕ)) LineFault) (typed : Typed) → typed ≡ TooLong
    → IfOk r (λ answer. P (Run Bad) answer) → IfOk r (λ answer. (m : Line) → MeansTyped typed m → P m answer)
answered_long P (Ok answer) typed is by = λ m means. let same : m ≡ Run Bad = subst (λ (t : Typed). MeansTyped t m) is means in subst (λ (l : Line). P l answer) (sym same) by
answered_long P (Err fault) typed is by = tt
