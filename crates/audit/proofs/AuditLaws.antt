-- What an audit has found, entry by entry.
use Rattle.std.proofs.Common.{◌≡◌, ◌≢◌, ℕ, Bool, true, false, Result, Ok, Err, ◌+◌, ◌^◌, ◌<◌, ◌≤◌, List, [], ◌∷◌, ◌++◌, length, map, refl, ap, ◌∙◌, sym, subst, arith}
use Rattle.std.specs.Prelude.{IsTrue, ◌↔◌, ◌==◌, IfErr, OnErr, IsErrAnd}
use Rattle.std.proofs.lemmas.Bool.{false≢true, eqb-true}
use Rattle.std.proofs.lemmas.Bool.Decides.{nat_tests}
use Rattle.std.specs.Fmt.{decimal}
use Rattle.std.proofs.lemmas.List.{length-append}
use Rattle.dbf_fields.specs.declared.format.TheConstants.{BLANK}
use Rattle.catalogue_core.specs.declared.catalogue.TheConstants.{MAX_ENTRIES}
use Rattle.catalogue_core.specs.declared.command.Command.{Command}
use Rattle.catalogue_core.specs.declared.entry.Entry.{Entry}
use Rattle.catalogue_core.specs.Replay.{Opened, History, start, replay, entry, state_of, answer_of, with_entry, LegalFrom, IsLegal, IsOfStation, AreOfStations}
use Rattle.catalogue_core.specs.State.{State}
use Rattle.catalogue_core.specs.Step.{step}
use Rattle.catalogue_core.proofs.ReplayLaws.{after-push, legal-push, all-push}
use Rattle.station_lines.specs.declared.script.format.TheConstants.{LF}
use Rattle.station_lines.specs.declared.script.line.Line.{Line}
use Rattle.station_lines.specs.declared.script.line.Line.TheVariants.{Run, Status, Blank}
use Rattle.station_lines.specs.Script.Keeping.{keeps_text}
use Rattle.station_lines.specs.Script.Lines.{has_no_lf}
use Rattle.station_lines.specs.Script.Meaning.{Means}
use Rattle.station_lines.specs.AnswerLines.{line_of}
use Rattle.station_lines.specs.CommandLines.{text_of_command, IsMeant, IsOfALine}
use Rattle.station_lines.specs.JournalLines.{entry_and, lines_and, line_parts, journal_text, BeginsWithEntry, BeginsWithNoEntry}
use Rattle.station_lines.proofs.ScriptLaws.MeaningLaws.{one_meaning}
use Rattle.station_lines.proofs.CommandLaws.LineLaws.{text_means}
use Rattle.station_lines.proofs.CommandLaws.OneLineLaws.{text_one_line}
use Rattle.station_lines.proofs.JournalLaws.{entry_one, entry_small}
use Rattle.audit.specs.declared.fault.AuditFault.{AuditFault}
use Rattle.audit.specs.declared.fault.AuditFault.TheVariants.{NoEntry, Differs, TooLong, NoMemory}
use Rattle.audit.specs.declared.fault.Difference.{Difference}
use Rattle.audit.specs.Audits.{AreOfLines, IsJournalOf, IsContinuedBy, IsLineOfCommand, IsNoCommandLine, IsCommand, MeansACommand, BeginsWithCommand, BeginsWithNoCommand, BeginsWithReadable, IsOnlyFirst, HoldsFirst, Continues, IsStopFault, IsDifferenceOf, IsAnswerFault, IsDifferenceAt, IsFaultAt, Refutes, HasHeld, IsAuditFault, RefutesAll}

-- ---- reading a line

-- a line of a script is a text
meant : (command : Command) → IsOfALine command → IsMeant command
meant command is = (is.0, is.2)

-- no two commands of lines have one line
pub command_one : (a b : Command) → IsOfALine a → IsOfALine b → text_of_command a ≡ text_of_command b → a ≡ b
command_one a b ha hb e =
    let same = one_meaning (text_of_command a) (Run a) (Run b) (text_means a (text_of_command a) refl (meant a ha)) (text_means b (text_of_command a) e (meant b hb)) in
    cc

line_means : (line : List ℕ) (command : Command) → IsOfALine command → line ≡ text_of_command command → Means line (Run command)
line_means line command of_a_line is = text_means command line is (meant command of_a_line)

-- no command's line has an LF
pub no_one_line : (line : List ℕ) (one : Bool) → one ≡ has_no_lf line → one ≡ false → IsNoCommandLine line
no_one_line line one is other command of_a_line same = false≢true (sym (sym is ∙ other) ∙ text_one_line command line same of_a_line)

-- the line of a script
pub one_line_is : (line : List ℕ) (one : Bool) → one ≡ has_no_lf line → one ≡ true → has_no_lf line ≡ true
one_line_is line one is h = sym is ∙ h

pub not_run : (line : List ℕ) (meaning : Line) → ((command : Command) → meaning ≡ Run command → ⊥) → ((other : Line) → Means line other → other ≡ meaning) → IsNoCommandLine line
not_run line meaning none only command of_a_line is = none command (sym (only (Run command) (line_means line command of_a_line is)))

-- a text that was appended to none
pub made_anew : (cleared now text : List ℕ) → cleared ≡ [] → now ≡ cleared ++ text → now ≡ text
made_anew cleared now text empty is = is ∙ ap (λ (xs : List ℕ). xs ++ text) empty

-- what is not the same is another
pub differ : (same : Bool) (a b : List ℕ) → (IsTrue same ↔ (a ≡ b)) → same ≡ false → a ≡ b → ⊥
differ same a b is e h = false≢true (sym e ∙ is.1 h)

pub other_line : (line written : List ℕ) (found : Command) → ((other : Line) → Means line other → other ≡ Run found) → written ≡ text_of_command found → (written ≡ line → ⊥) → IsNoCommandLine line
other_line line written found only is_written other command of_a_line is =
    let run : Run command ≡ Run found = only (Run command) (line_means line command of_a_line is) in
    let same : command ≡ found = cc in
    other (is_written ∙ (ap text_of_command (sym same) ∙ sym is))

pub is_line : (line written : List ℕ) (found : Command) → has_no_lf line ≡ true → Means line (Run found) → written ≡ text_of_command found → written ≡ line → IsLineOfCommand line found
is_line line written found one means is_written same = record { is = sym same ∙ is_written; of_a_line = (line, one, means) }

pub shorter : (text : List ℕ) (e : ℕ × List ℕ × List ℕ) (rest : List ℕ) → BeginsWithEntry text e rest → length rest < length text
shorter text e rest first =
    let t4 = e.2 ++ (LF ∷ rest) in
    let t3 = e.1 ++ (BLANK ∷ t4) in
    let t2 = decimal (length e.2) ++ (BLANK ∷ t3) in
    let t1 = decimal (length e.1) ++ (BLANK ∷ t2) in
    let whole = ap length first.is in
    let l0 = length-append (decimal e.0) (BLANK ∷ t1) in
    let l1 = length-append (decimal (length e.1)) (BLANK ∷ t2) in
    let l2 = length-append (decimal (length e.2)) (BLANK ∷ t3) in
    let l3 = length-append e.1 (BLANK ∷ t4) in
    let l4 = length-append e.2 (LF ∷ rest) in
    omega (arith, whole, l0, l1, l2, l3, l4)

pub no_entry : (stations : ℕ) (text : List ℕ) → stations < 2 ^ 64 → length text < 2 ^ 64 → BeginsWithNoEntry text → BeginsWithNoCommand stations text
no_entry stations text few long none s c a r one inside of_a_line is =
    none (s, text_of_command c, a) r (entry_small text (s, text_of_command c, a) r is long (omega arith)) is

-- the parts of the line that is first
pub record HasParts (text : List ℕ) (station : ℕ) (line answer rest : List ℕ) (s : ℕ) (l a r : List ℕ) : Type 0 where
  pub station_is : station ≡ s
  pub line_is : line ≡ l
  pub answer_is : answer ≡ a
  pub rest_is : rest ≡ r

has_parts : (stations : ℕ) (text : List ℕ) (station : ℕ) (line answer rest : List ℕ) → stations < 2 ^ 64 → length text < 2 ^ 64 → BeginsWithEntry text (station, line, answer) rest
    → (s : ℕ) (l a r : List ℕ) → s ≤ stations → text ≡ entry_and (s, l, a) r → HasParts text station line answer rest s l a r
has_parts stations text station line answer rest few long first s l a r inside is =
    let same = entry_one (station, line, answer) (s, l, a) rest r first.small (entry_small text (s, l, a) r is long (omega arith)) (sym first.is ∙ is) in
    record {
      station_is = ap (λ (e : ℕ × List ℕ × List ℕ). e.0) same.entry;
      line_is = ap (λ (e : ℕ × List ℕ × List ℕ). e.1) same.entry;
      answer_is = ap (λ (e : ℕ × List ℕ × List ℕ). e.2) same.entry;
      rest_is = same.rest;
    }

pub no_station : (stations : ℕ) (text : List ℕ) (station : ℕ) (line answer rest : List ℕ) → stations < 2 ^ 64 → length text < 2 ^ 64 → BeginsWithEntry text (station, line, answer) rest
    → (1 ≤ station → station ≤ stations → ⊥) → BeginsWithNoCommand stations text
no_station stations text station line answer rest few long first outside s c a r one inside of_a_line is =
    let same = has_parts stations text station line answer rest few long first s (text_of_command c) a r inside is in
    outside (omega (arith, same.station_is)) (omega (arith, same.station_is))

pub outside : (is : Bool) (station stations : ℕ) → (IsTrue is ↔ ((1 ≤ station) × (station ≤ stations))) → is ≡ false → 1 ≤ station → station ≤ stations → ⊥
outside is station stations h e one inside = false≢true (sym e ∙ h.1 (one, inside))

pub no_command : (stations : ℕ) (text : List ℕ) (station : ℕ) (line answer rest : List ℕ) → stations < 2 ^ 64 → length text < 2 ^ 64 → BeginsWithEntry text (station, line, answer) rest
    → IsNoCommandLine line → BeginsWithNoCommand stations text
no_command stations text station line answer rest few long first none s c a r one inside of_a_line is =
    let same = has_parts stations text station line answer rest few long first s (text_of_command c) a r inside is in
    none c of_a_line same.line_is

pub command_first : (stations : ℕ) (text : List ℕ) (station : ℕ) (line answer rest : List ℕ) (command : Command) → BeginsWithEntry text (station, line, answer) rest → 1 ≤ station → station ≤ stations
    → IsLineOfCommand line command → BeginsWithCommand stations text station command answer rest
command_first stations text station line answer rest command first one inside is = record {
  line = subst (λ (xs : List ℕ). BeginsWithEntry text (station, xs, answer) rest) is.is first;
  counted = one;
  inside = inside;
  of_a_line = is.of_a_line;
}

pub only_first : (stations : ℕ) (text : List ℕ) (station : ℕ) (line answer rest : List ℕ) (command : Command) → stations < 2 ^ 64 → length text < 2 ^ 64 → BeginsWithEntry text (station, line, answer) rest
    → IsLineOfCommand line command → IsOnlyFirst stations text station command answer rest
only_first stations text station line answer rest command few long first is s c a r one inside of_a_line e =
    let same = has_parts stations text station line answer rest few long first s (text_of_command c) a r inside e in
    record {
      station_is = same.station_is;
      command_is = command_one command c is.of_a_line of_a_line (sym is.is ∙ same.line_is);
      answer_is = same.answer_is;
      rest_is = same.rest_is;
    }

-- ---- what memory is taken for

pub on_err : {T E P : Type 0} (r : Result T E) → P → OnErr r P
on_err (Ok x) p = tt
on_err (Err e) p = p

command_keeps : (meaning : Line) → keeps_text meaning ≡ true → IsCommand meaning
command_keeps (Run command) kept = tt
command_keeps Status kept = absurd (false≢true kept)
command_keeps Blank kept = absurd (false≢true kept)

-- memory is taken for a line that keeps a text, and so means a command
pub keeping_means : (line : List ℕ) → has_no_lf line ≡ true → ((meaning : Line) → Means line meaning → keeps_text meaning ≡ true) → MeansACommand line
keeping_means line one kept = (one, λ meaning m. command_keeps meaning (kept meaning m))

-- a line with one meaning, a command
pub run_means : (line : List ℕ) (meaning : Line) (command : Command) → has_no_lf line ≡ true → ((other : Line) → Means line other → other ≡ meaning) → meaning ≡ Run command → MeansACommand line
run_means line meaning command one only is = (one, λ other m. subst IsCommand (sym (only other m ∙ is)) tt)

-- the line of a command means it
pub line_means_one : (command : Command) → IsOfALine command → MeansACommand (text_of_command command)
line_means_one command of_a_line = (
  text_one_line command (text_of_command command) refl of_a_line,
  λ other m. subst IsCommand (one_meaning (text_of_command command) (Run command) other (text_means command (text_of_command command) refl (meant command of_a_line)) m) tt,
)

pub readable : (stations : ℕ) (text : List ℕ) (station : ℕ) (line answer rest : List ℕ) → BeginsWithEntry text (station, line, answer) rest → 1 ≤ station → station ≤ stations → MeansACommand line
    → BeginsWithReadable stations text
readable stations text station line answer rest first one inside means = record {
  station = station;
  line = line;
  answer = answer;
  rest = rest;
  is = first.is;
  counted = one;
  inside = inside;
  means = means;
}

command_readable : (stations : ℕ) (text : List ℕ) (station : ℕ) (command : Command) (answer rest : List ℕ) → BeginsWithCommand stations text station command answer rest → BeginsWithReadable stations text
command_readable stations text station command answer rest first =
    readable stations text station (text_of_command command) answer rest first.line first.counted first.inside (line_means_one command first.of_a_line)

-- ---- a step of an audit

-- the fault that `?` hands on
pub err_exit : {T : Type 0} {fault : AuditFault} (r : Result T AuditFault) (P : AuditFault → Type 0) → IsErrAnd r (λ y. y ≡ fault) → P fault → IfErr r P
err_exit (Ok x) P h p = absurd h
err_exit (Err y) P h p = subst P (sym h) p

pub not_empty : (text : List ℕ) (empty : Bool) → empty ≡ (length text == 0) → empty ≡ false → text ≢ []
not_empty text empty is more none = let zero : length text ≡ 0 = ap length none in grind (arith, nat_tests, is, more, zero)

none_left : (text : List ℕ) → length text ≡ 0 → text ≡ []
none_left [] h = refl
none_left (x ∷ xs) h = absurd (omega (arith, h))

pub all_read : (text : List ℕ) (empty : Bool) → empty ≡ (length text == 0) → empty ≡ true → text ≡ []
all_read text empty is all = none_left text (eqb-true (length text) 0 (sym is ∙ all))

pub continues : (h next : History) (text rest : List ℕ) (station : ℕ) (command : Command)
    → IsOnlyFirst h.opened.stations text station command (line_of (answer_of h station command)) rest → next ≡ with_entry h station command
    → Continues h text next rest
continues h next text rest station command only is e es g =
    let same = only e.station e.command (line_of e.answer) (journal_text es) g.of_stations.0.0 g.of_stations.0.1 g.of_lines.0 g.text_is in
    let added : Entry = entry station command (answer_of h station command) in
    let back : (step (state_of h) e.station e.command).0 ≡ (step (state_of h) station command).0
    = (λ i. (step (state_of h) (sym same.station_is i) (sym same.command_is i)).0) in
    let state : (step (state_of h) e.station e.command).0 ≡ state_of (with_entry h station command)
    = back ∙ sym (after-push (start h.opened) h.journal added) in
    let long = length-append h.journal (added ∷ []) in
    let goes : IsContinuedBy (with_entry h station command) rest es = record {
      text_is = same.rest_is;
      legal = subst (λ (s : State). LegalFrom s es) state g.legal.1;
      of_stations = g.of_stations.1;
      of_lines = g.of_lines.1;
      few = omega (arith, g.few, long);
    } in
    subst (λ (n : History). IsContinuedBy n rest es) (sym is) goes

pub refuted_line : (h : History) (text : List ℕ) (number : ℕ) → BeginsWithNoCommand h.opened.stations text → Refutes h text (NoEntry number)
refuted_line h text number none e es g =
    none e.station e.command (line_of e.answer) (journal_text es) g.of_stations.0.0 g.of_stations.0.1 g.of_lines.0 g.text_is

pub refuted_full : (h : History) (text : List ℕ) → length h.journal ≡ MAX_ENTRIES → Refutes h text TooLong
refuted_full h text full e es g = omega (arith, full, g.few)

pub refuted_answer : (h : History) (text rest : List ℕ) (station : ℕ) (command : Command) (told performed : List ℕ) (d : Difference)
    → IsOnlyFirst h.opened.stations text station command told rest → performed ≡ line_of (answer_of h station command) → performed ≢ told → Refutes h text (Differs d)
refuted_answer h text rest station command told performed d only is other e es g =
    let same = only e.station e.command (line_of e.answer) (journal_text es) g.of_stations.0.0 g.of_stations.0.1 g.of_lines.0 g.text_is in
    let answers : e.answer ≡ answer_of h station command
    = g.legal.0 ∙ (λ i. (step (state_of h) (sym same.station_is i) (sym same.command_is i)).1) in
    other (is ∙ (sym (ap line_of answers) ∙ sym same.answer_is))

pub stop_at : (h : History) (text rest : List ℕ) (station : ℕ) (command : Command) (told : List ℕ) (fault : AuditFault) → BeginsWithCommand h.opened.stations text station command told rest → IsStopFault h fault
    → IsFaultAt h text fault
stop_at h text rest station command told (NoEntry n) first stop = absurd stop
stop_at h text rest station command told (Differs d) first stop = absurd stop
stop_at h text rest station command told TooLong first stop = stop
stop_at h text rest station command told NoMemory first stop = command_readable h.opened.stations text station command told rest first

pub stop_refutes : (h : History) (text : List ℕ) (fault : AuditFault) → IsStopFault h fault → Refutes h text fault
stop_refutes h text (NoEntry n) stop = absurd stop
stop_refutes h text (Differs d) stop = absurd stop
stop_refutes h text TooLong stop = refuted_full h text stop
stop_refutes h text NoMemory stop = tt

difference_at : (h : History) (text rest : List ℕ) (number station : ℕ) (command : Command) (told performed : List ℕ) (d : Difference)
    → BeginsWithCommand h.opened.stations text station command told rest → performed ≡ line_of (answer_of h station command) → performed ≢ told → number ≡ length h.journal + 1
    → IsDifferenceOf number station command told performed d → IsDifferenceAt h text d
difference_at h text rest number station command told performed d first is other place of =
    let there : BeginsWithCommand h.opened.stations text d.station command d.told rest
    = subst (λ (t : List ℕ). BeginsWithCommand h.opened.stations text d.station command t rest) (sym of.told_is)
    (subst (λ (n : ℕ). BeginsWithCommand h.opened.stations text n command told rest) (sym of.station_is) first) in
    record {
      command = command;
      rest = rest;
      first = there;
      command_is = of.command_is;
      performed = of.performed_is ∙ (is ∙ (λ i. line_of (answer_of h (sym of.station_is i) command)));
      other = λ e. other (sym of.performed_is ∙ (e ∙ of.told_is));
      number = of.number_is ∙ place;
    }

pub answer_at : (h : History) (text rest : List ℕ) (number station : ℕ) (command : Command) (told performed : List ℕ) (fault : AuditFault)
    → BeginsWithCommand h.opened.stations text station command told rest → performed ≡ line_of (answer_of h station command) → performed ≢ told → number ≡ length h.journal + 1
    → IsAnswerFault number station command told performed fault → IsFaultAt h text fault
answer_at h text rest number station command told performed (NoEntry n) first is other place of = absurd of
answer_at h text rest number station command told performed (Differs d) first is other place of = difference_at h text rest number station command told performed d first is other place of
answer_at h text rest number station command told performed TooLong first is other place of = absurd of
answer_at h text rest number station command told performed NoMemory first is other place of = command_readable h.opened.stations text station command told rest first

pub answer_refutes : (h : History) (text rest : List ℕ) (number station : ℕ) (command : Command) (told performed : List ℕ) (fault : AuditFault)
    → IsOnlyFirst h.opened.stations text station command told rest → performed ≡ line_of (answer_of h station command) → performed ≢ told
    → IsAnswerFault number station command told performed fault → Refutes h text fault
answer_refutes h text rest number station command told performed (NoEntry n) only is other of = absurd of
answer_refutes h text rest number station command told performed (Differs d) only is other of = refuted_answer h text rest station command told performed d only is other
answer_refutes h text rest number station command told performed TooLong only is other of = absurd of
answer_refutes h text rest number station command told performed NoMemory only is other of = tt

pub holds_first : (h next : History) (text rest : List ℕ) (station : ℕ) (command : Command) (told performed : List ℕ) → BeginsWithCommand h.opened.stations text station command told rest
    → performed ≡ line_of (answer_of h station command) → performed ≡ told → next ≡ with_entry h station command → HoldsFirst h text next rest
holds_first h next text rest station command told performed first is same entered = record {
  station = station;
  command = command;
  first = subst (λ (t : List ℕ). BeginsWithCommand h.opened.stations text station command t rest) (sym same ∙ is) first;
  next_is = entered;
}

pub continues_first : (h next : History) (text rest : List ℕ) (station : ℕ) (command : Command) (told performed : List ℕ) → IsOnlyFirst h.opened.stations text station command told rest
    → performed ≡ line_of (answer_of h station command) → performed ≡ told → next ≡ with_entry h station command → Continues h text next rest
continues_first h next text rest station command told performed only is same entered =
    continues h next text rest station command (subst (λ (t : List ℕ). IsOnlyFirst h.opened.stations text station command t rest) (sym same ∙ is) only) entered

-- ---- an audit

-- what was audited holds, and a journal with this text is what was audited and more
pub record HasAudited (opened : Opened) (text : List ℕ) (h : History) (rest : List ℕ) : Type 0 where
  pub held : HasHeld opened text h rest
  pub only : (journal : List Entry) → IsJournalOf opened text journal → (more : List Entry) × IsContinuedBy h rest more

pub at_first : (h : History) (text : List ℕ) → h.journal ≡ [] → HasAudited h.opened text h text
at_first h text none = record {
  held = record {
    named = refl;
    text_is = (λ i. lines_and (map line_parts (sym none i)) text);
    legal = subst (λ (js : List Entry). IsLegal h.opened js) (sym none) tt;
    of_stations = subst (λ (js : List Entry). AreOfStations h.opened js) (sym none) tt;
    of_lines = subst AreOfLines (sym none) tt;
  };
  only = λ journal j. (
    journal,
    record {
      text_is = j.text_is;
      legal = subst (λ (js : List Entry). LegalFrom (replay h.opened js) journal) (sym none) j.legal;
      of_stations = j.of_stations;
      of_lines = j.of_lines;
      few = omega (arith, j.few, ap length none);
    },
  );
}

lines_push : (journal : List Entry) (e : Entry) (rest : List ℕ) → lines_and (map line_parts (journal ++ e ∷ [])) rest ≡ lines_and (map line_parts journal) (entry_and (line_parts e) rest)
lines_push [] e rest = refl
lines_push (x ∷ xs) e rest = ap (λ (ys : List ℕ). entry_and (line_parts x) ys) (lines_push xs e rest)

held_more : (opened : Opened) (text : List ℕ) (h next : History) (rest new : List ℕ) → HasHeld opened text h rest → HoldsFirst h rest next new → HasHeld opened text next new
held_more opened text h next rest new held first =
    let added : Entry = entry first.station first.command (answer_of h first.station first.command) in
    let more : HasHeld opened text (with_entry h first.station first.command) new = record {
      named = held.named;
      text_is = held.text_is ∙ (ap (lines_and (map line_parts h.journal)) first.first.line.is ∙ sym (lines_push h.journal added new));
      legal = legal-push (start h.opened) h.journal added held.legal refl;
      of_stations = all-push (IsOfStation h.opened) h.journal added held.of_stations (first.first.counted, first.first.inside);
      of_lines = all-push (λ (e : Entry). IsOfALine e.command) h.journal added held.of_lines first.first.of_a_line;
    } in
    subst (λ (n : History). HasHeld opened text n new) (sym first.next_is) more

goes_more : (h next : History) (rest new : List ℕ) → rest ≢ [] → Continues h rest next new
    → (more : List Entry) → IsContinuedBy h rest more → (es : List Entry) × IsContinuedBy next new es
goes_more h next rest new some goes [] g = absurd (some g.text_is)
goes_more h next rest new some goes (e ∷ es) g = (es, goes e es g)

pub audited_more : (opened : Opened) (text : List ℕ) (h next : History) (rest new : List ℕ) → HasAudited opened text h rest → rest ≢ [] → HoldsFirst h rest next new
    → Continues h rest next new → HasAudited opened text next new
audited_more opened text h next rest new audited some first goes = record {
  held = held_more opened text h next rest new audited.held first;
  only = λ journal j. let more = audited.only journal j in goes_more h next rest new some goes more.0 more.1;
}

refuted_more : (h : History) (rest : List ℕ) → rest ≢ [] → ((e : Entry) (es : List Entry) → IsContinuedBy h rest (e ∷ es) → ⊥) → (more : List Entry) → IsContinuedBy h rest more → ⊥
refuted_more h rest some none [] g = some g.text_is
refuted_more h rest some none (e ∷ es) g = none e es g

-- where the history does not go on, no journal has the text
pub refuted_all : (opened : Opened) (text : List ℕ) (h : History) (rest : List ℕ) (fault : AuditFault) → HasAudited opened text h rest → rest ≢ [] → Refutes h rest fault → RefutesAll opened text fault
refuted_all opened text h rest (NoEntry n) audited some none = λ journal j. let more = audited.only journal j in refuted_more h rest some none more.0 more.1
refuted_all opened text h rest (Differs d) audited some none = λ journal j. let more = audited.only journal j in refuted_more h rest some none more.0 more.1
refuted_all opened text h rest TooLong audited some none = λ journal j. let more = audited.only journal j in refuted_more h rest some none more.0 more.1
refuted_all opened text h rest NoMemory audited some none = tt

pub at_fault : (opened : Opened) (text : List ℕ) (h : History) (rest : List ℕ) (fault : AuditFault) → HasAudited opened text h rest → IsFaultAt h rest fault → IsAuditFault opened text fault
at_fault opened text h rest fault audited at = record { history = h; rest = rest; held = audited.held; at = at }

-- a text that begins with entries, and goes on with a line for which memory is taken, begins with one
first_readable : (opened : Opened) (journal : List Entry) (text rest : List ℕ) → text ≡ lines_and (map line_parts journal) rest → AreOfStations opened journal → AreOfLines journal
    → BeginsWithReadable opened.stations rest → BeginsWithReadable opened.stations text
first_readable opened [] text rest is stations lines next = subst (BeginsWithReadable opened.stations) (sym is) next
first_readable opened (e ∷ es) text rest is stations lines next = record {
  station = e.station;
  line = text_of_command e.command;
  answer = line_of e.answer;
  rest = lines_and (map line_parts es) rest;
  is = is;
  counted = stations.0.0;
  inside = stations.0.1;
  means = line_means_one e.command lines.0;
}

-- memory is refused only where the first line takes it
pub early_fault : (opened : Opened) (text : List ℕ) (h : History) (rest : List ℕ) (fault : AuditFault) → HasAudited opened text h rest → IsFaultAt h rest fault → fault ≡ NoMemory
    → BeginsWithReadable opened.stations text
early_fault opened text h rest fault audited at is =
    let next : BeginsWithReadable h.opened.stations rest = subst (IsFaultAt h rest) is at in
    subst (λ (o : Opened). BeginsWithReadable o.stations text) audited.held.named
    (first_readable h.opened h.journal text rest audited.held.text_is audited.held.of_stations audited.held.of_lines next)

-- at the end all holds
pub at_end : (opened : Opened) (text : List ℕ) (h : History) (rest : List ℕ) → HasAudited opened text h rest → rest ≡ [] → length h.journal ≤ MAX_ENTRIES → IsJournalOf opened text h.journal
at_end opened text h rest audited none few = record {
  text_is = audited.held.text_is ∙ ap (lines_and (map line_parts h.journal)) none;
  legal = subst (λ (o : Opened). IsLegal o h.journal) audited.held.named audited.held.legal;
  of_stations = subst (λ (o : Opened). AreOfStations o h.journal) audited.held.named audited.held.of_stations;
  of_lines = audited.held.of_lines;
  few = few;
}
