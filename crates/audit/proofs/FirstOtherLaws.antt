-- The first entry of a journal that does not hold.
use Rattle.std.proofs.Common.{◌≡◌, ◌≢◌, ◌⊎◌, ℕ, ◌+◌, ◌^◌, ◌<◌, ◌≤◌, List, [], ◌∷◌, ◌++◌, length, map, refl, ap, ◌∙◌, sym, subst, inl, inr, arith}
use Rattle.std.proofs.lemmas.List.{append-nil, length-append}
use Rattle.catalogue_core.specs.declared.catalogue.TheConstants.{MAX_ENTRIES}
use Rattle.catalogue_core.specs.declared.command.Command.{Command}
use Rattle.catalogue_core.specs.declared.entry.Entry.{Entry}
use Rattle.catalogue_core.specs.Replay.{Opened, History, start, after, replay, history, answer_of, LegalFrom, IsLegal, IsOfStation, AreOfStations}
use Rattle.catalogue_core.specs.State.{State}
use Rattle.catalogue_core.specs.Step.{step}
use Rattle.station_lines.specs.AnswerLines.{line_of}
use Rattle.station_lines.specs.CommandLines.{text_of_command, IsOfALine}
use Rattle.station_lines.specs.JournalLines.{entry_and, lines_and, line_parts, journal_text, HasSmallNumbers}
use Rattle.station_lines.proofs.JournalLaws.{entry_one, entry_small}
use Rattle.audit.specs.declared.fault.AuditFault.{AuditFault}
use Rattle.audit.specs.declared.fault.AuditFault.TheVariants.{NoEntry, Differs, TooLong, NoMemory}
use Rattle.audit.specs.declared.fault.Difference.{Difference}
use Rattle.audit.specs.Audits.{AreOfLines, IsAuditFault, IsDifferenceAt, IsFaultAt, IsJournalOf}
use Rattle.audit.specs.FirstOther.{CanBeAudited, IsFirstOther}
use Rattle.audit.proofs.AuditLaws.{command_one, shorter}

-- ---- lines

-- an entry's line is that of this station, this command and this line of an answer
record IsSameLine (e : Entry) (r : List ℕ) (station : ℕ) (command : Command) (told t : List ℕ) : Type 0 where
  station_is : e.station ≡ station
  command_is : e.command ≡ command
  told_is : line_of e.answer ≡ told
  rest_is : r ≡ t

module _ (opened : Opened) (few : opened.stations < 2 ^ 64) where
  small : (e : Entry) (r : List ℕ) → IsOfStation opened e → length (entry_and (line_parts e) r) < 2 ^ 64 → HasSmallNumbers (line_parts e)
  small e r of long = let low : e.station < 2 ^ 64 = omega (arith, of.1, few) in entry_small (entry_and (line_parts e) r) (line_parts e) r refl long low

  same_line : (e : Entry) (r : List ℕ) (station : ℕ) (command : Command) (told t : List ℕ) → IsOfStation opened e → IsOfALine e.command → length (entry_and (line_parts e) r) < 2 ^ 64
      → station ≤ opened.stations → IsOfALine command → entry_and (line_parts e) r ≡ entry_and (station, text_of_command command, told) t → IsSameLine e r station command told t
  same_line e r station command told t of line long inside other_line is =
      let low : station < 2 ^ 64 = omega (arith, inside, few) in
      let other = entry_small (entry_and (line_parts e) r) (station, text_of_command command, told) t is long low in
      let same = entry_one (line_parts e) (station, text_of_command command, told) r t (small e r of long) other is in
      record {
        station_is = ap (λ (p : ℕ × List ℕ × List ℕ). p.0) same.entry;
        command_is = command_one e.command command line other_line (ap (λ (p : ℕ × List ℕ × List ℕ). p.1) same.entry);
        told_is = ap (λ (p : ℕ × List ℕ × List ℕ). p.2) same.entry;
        rest_is = same.rest;
      }

  -- what stands after a line is no longer than a number of 64 bits counts
  rest_long : (e : Entry) (r : List ℕ) → IsOfStation opened e → length (entry_and (line_parts e) r) < 2 ^ 64 → length r < 2 ^ 64
  rest_long e r of long =
      let less = shorter (entry_and (line_parts e) r) (line_parts e) r (record { is = refl; small = small e r of long }) in
      omega (arith, less, long)

  -- no entry's line is no text
  some_line : (e : Entry) (r : List ℕ) → IsOfStation opened e → length (entry_and (line_parts e) r) < 2 ^ 64 → entry_and (line_parts e) r ≡ [] → ⊥
  some_line e r of long none =
      let less = shorter (entry_and (line_parts e) r) (line_parts e) r (record { is = refl; small = small e r of long }) in
      omega (arith, less, ap length none)

-- ---- first lines that hold

same_entry : (a b : Entry) → a.station ≡ b.station → a.command ≡ b.command → a.answer ≡ b.answer → a ≡ b
same_entry a b s c w i = record { station = s i; command = c i; answer = w i }

-- entries that can be audited
record AreEntries (opened : Opened) (entries : List Entry) : Type 0 where
  of_stations : AreOfStations opened entries
  of_lines : AreOfLines entries
  long : length (journal_text entries) < 2 ^ 64

-- these are among those before the first other one, which more follow that hold too
record Precede (opened : Opened) (s : State) (js before : List Entry) (first : Entry) (later : List Entry) (rest : List ℕ) : Type 0 where
  more : List Entry
  split : before ≡ js ++ more
  legal : LegalFrom (after s js) more
  left : journal_text (more ++ first ∷ later) ≡ rest
  entries : AreEntries opened (more ++ first ∷ later)

module _ (opened : Opened) (few : opened.stations < 2 ^ 64) (first : Entry) (later : List Entry) where
  tail_entries : (b : Entry) (bs : List Entry) → AreEntries opened (b ∷ bs) → AreEntries opened bs
  tail_entries b bs are = record { of_stations = are.of_stations.1; of_lines = are.of_lines.1; long = rest_long opened few b (journal_text bs) are.of_stations.0 are.long }

  precede : (s : State) (js before : List Entry) (rest : List ℕ) → AreEntries opened (before ++ first ∷ later) → LegalFrom s before
      → line_of first.answer ≢ line_of (step (after s before) first.station first.command).1
      → LegalFrom s js → AreOfStations opened js → AreOfLines js → journal_text (before ++ first ∷ later) ≡ lines_and (map line_parts js) rest
      → Precede opened s js before first later rest
  precede s [] before rest are legal other js_legal js_of js_lines is = record { more = before; split = refl; legal = legal; left = is; entries = are }
  precede s (j ∷ js) [] rest are legal other js_legal js_of js_lines is =
      let same = same_line opened few first (journal_text later) j.station j.command (line_of j.answer) (lines_and (map line_parts js) rest) are.of_stations.0 are.of_lines.0 are.long js_of.0.1 js_lines.0 is in
      let right : (step s j.station j.command).1 ≡ (step s first.station first.command).1 = (λ i. (step s (sym same.station_is i) (sym same.command_is i)).1) in
      absurd (other (same.told_is ∙ ap line_of (js_legal.0 ∙ right)))
  precede s (j ∷ js) (b ∷ before) rest are legal other js_legal js_of js_lines is =
      let same = same_line opened few b (journal_text (before ++ first ∷ later)) j.station j.command (line_of j.answer) (lines_and (map line_parts js) rest) are.of_stations.0 are.of_lines.0 are.long js_of.0.1 js_lines.0 is in
      let right : (step s b.station b.command).1 ≡ (step s j.station j.command).1 = (λ i. (step s (same.station_is i) (same.command_is i)).1) in
      let one : b ≡ j = same_entry b j same.station_is same.command_is (legal.0 ∙ right ∙ sym js_legal.0) in
      let moved : LegalFrom s (b ∷ js) = subst (λ (e : Entry). LegalFrom s (e ∷ js)) (sym one) js_legal in
      let next = precede (step s b.station b.command).0 js before rest (tail_entries b (before ++ first ∷ later) are) legal.1 other moved.1 js_of.1 js_lines.1 same.rest_is in
      let whole : Precede opened s (b ∷ js) (b ∷ before) first later rest = record {
        more = next.more;
        split = ap (λ (es : List Entry). b ∷ es) next.split;
        legal = next.legal;
        left = next.left;
        entries = next.entries;
      } in
      subst (λ (e : Entry). Precede opened s (e ∷ js) (b ∷ before) first later rest) one whole

-- ---- what is said

same_difference : (a b : Difference) → a.number ≡ b.number → a.station ≡ b.station → a.command ≡ b.command → a.told ≡ b.told → a.performed ≡ b.performed → a ≡ b
same_difference a b n s c t p i = record { number = n i; station = s i; command = c i; told = t i; performed = p i }

module _ (opened : Opened) (few : opened.stations < 2 ^ 64) (js : List Entry) (rest : List ℕ) (room : length js < MAX_ENTRIES) where
  -- an entry that holds has no other answer
  no_difference : (m : Entry) (r : List ℕ) → entry_and (line_parts m) r ≡ rest → IsOfStation opened m → IsOfALine m.command → length (entry_and (line_parts m) r) < 2 ^ 64
      → m.answer ≡ (step (replay opened js) m.station m.command).1 → (d : Difference) → IsDifferenceAt (history opened js) rest d → ⊥
  no_difference m r is of line long legal d at =
      let f = at.first in
      let same = same_line opened few m r d.station at.command d.told at.rest of line long f.inside f.of_a_line (is ∙ f.line.is) in
      let right : (step (replay opened js) m.station m.command).1 ≡ (step (replay opened js) d.station at.command).1 = (λ i. (step (replay opened js) (same.station_is i) (same.command_is i)).1) in
      at.other (at.performed ∙ sym (ap line_of (legal ∙ right)) ∙ same.told_is)

  -- before the first other one there is no fault but want of memory
  at_one_that_holds : (m : Entry) (r : List ℕ) → entry_and (line_parts m) r ≡ rest → IsOfStation opened m → IsOfALine m.command → length (entry_and (line_parts m) r) < 2 ^ 64
      → m.answer ≡ (step (replay opened js) m.station m.command).1 → (fault : AuditFault) → IsFaultAt (history opened js) rest fault → fault ≡ NoMemory
  at_one_that_holds m r is of line long legal (NoEntry n) at = absurd (at.0 m.station m.command (line_of m.answer) r of.0 of.1 line (sym is))
  at_one_that_holds m r is of line long legal (Differs d) at = absurd (no_difference m r is of line long legal d at)
  at_one_that_holds m r is of line long legal TooLong at = absurd (omega (arith, at, room))
  at_one_that_holds m r is of line long legal NoMemory at = refl

  -- at it that is what is said
  difference_is : (m : Entry) (r : List ℕ) → entry_and (line_parts m) r ≡ rest → IsOfStation opened m → IsOfALine m.command → length (entry_and (line_parts m) r) < 2 ^ 64
      → (d : Difference) → d.number ≡ length js + 1 → d.station ≡ m.station → d.command ≡ text_of_command m.command → d.told ≡ line_of m.answer
      → d.performed ≡ line_of (answer_of (history opened js) m.station m.command) → (e : Difference) → IsDifferenceAt (history opened js) rest e → e ≡ d
  difference_is m r is of line long d number station command told performed e at =
      let f = at.first in
      let same = same_line opened few m r e.station at.command e.told at.rest of line long f.inside f.of_a_line (is ∙ f.line.is) in
      let right : line_of (answer_of (history opened js) e.station at.command) ≡ line_of (answer_of (history opened js) m.station m.command)
      = (λ i. line_of (answer_of (history opened js) (sym same.station_is i) (sym same.command_is i))) in
      same_difference e d
      (at.number ∙ sym number)
      (sym same.station_is ∙ sym station)
      (at.command_is ∙ ap text_of_command (sym same.command_is) ∙ sym command)
      (sym same.told_is ∙ sym told)
      (at.performed ∙ right ∙ sym performed)

  at_the_first : (m : Entry) (r : List ℕ) → entry_and (line_parts m) r ≡ rest → IsOfStation opened m → IsOfALine m.command → length (entry_and (line_parts m) r) < 2 ^ 64
      → (d : Difference) → d.number ≡ length js + 1 → d.station ≡ m.station → d.command ≡ text_of_command m.command → d.told ≡ line_of m.answer
      → d.performed ≡ line_of (answer_of (history opened js) m.station m.command) → (fault : AuditFault) → IsFaultAt (history opened js) rest fault → (fault ≡ NoMemory) ⊎ (fault ≡ Differs d)
  at_the_first m r is of line long d number station command told performed (NoEntry n) at = absurd (at.0 m.station m.command (line_of m.answer) r of.0 of.1 line (sym is))
  at_the_first m r is of line long d number station command told performed (Differs e) at =
      inr (ap Differs (difference_is m r is of line long d number station command told performed e at))
  at_the_first m r is of line long d number station command told performed TooLong at = absurd (omega (arith, at, room))
  at_the_first m r is of line long d number station command told performed NoMemory at = inl refl

-- ---- the audit

module _ (opened : Opened) (entries : List Entry) (d : Difference) (can : CanBeAudited opened entries) (other : IsFirstOther opened entries d) where
  are_entries : AreEntries opened (other.before ++ other.entry ∷ other.later)
  are_entries = subst (AreEntries opened) other.order (record { of_stations = can.of_stations; of_lines = can.of_lines; long = can.long })

  wrong : line_of other.entry.answer ≢ line_of (step (after (start opened) other.before) other.entry.station other.entry.command).1
  wrong is = other.other (other.performed ∙ sym is ∙ sym other.told)

  -- what an audit has found to hold
  held_before : (js : List Entry) (rest : List ℕ) → IsLegal opened js → AreOfStations opened js → AreOfLines js → journal_text entries ≡ lines_and (map line_parts js) rest
      → Precede opened (start opened) js other.before other.entry other.later rest
  held_before js rest legal of lines is =
      precede opened can.stations other.entry other.later (start opened) js other.before rest are_entries other.legal wrong legal of lines (sym (ap journal_text other.order) ∙ is)

  -- there are fewer than a journal may have
  fewer : (js more : List Entry) → other.before ≡ js ++ more → length js < MAX_ENTRIES
  fewer js more split =
      let whole = length-append other.before (other.entry ∷ other.later) in
      let part = length-append js more in
      omega (arith, can.few, ap length other.order, whole, ap length split, part)

  said_at : (js more : List Entry) (rest : List ℕ) → other.before ≡ js ++ more → LegalFrom (replay opened js) more → journal_text (more ++ other.entry ∷ other.later) ≡ rest
      → AreEntries opened (more ++ other.entry ∷ other.later) → (fault : AuditFault) → IsFaultAt (history opened js) rest fault → (fault ≡ NoMemory) ⊎ (fault ≡ Differs d)
  said_at js (m ∷ ms) rest split legal left are fault at =
      inl (at_one_that_holds opened can.stations js rest (fewer js (m ∷ ms) split) m (journal_text (ms ++ other.entry ∷ other.later)) left are.of_stations.0 are.of_lines.0 are.long legal.0 fault at)
  said_at js [] rest split legal left are fault at =
      let same : other.before ≡ js = split ∙ append-nil js in
      at_the_first opened can.stations js rest (fewer js [] split) other.entry (journal_text other.later) left are.of_stations.0 are.of_lines.0 are.long d
      (other.number ∙ ap (λ (es : List Entry). length es + 1) same)
      other.station
      other.command
      other.told
      (other.performed ∙ ap (λ (es : List Entry). line_of (answer_of (history opened es) other.entry.station other.entry.command)) same)
      fault
      at

  opened_so : (h : History) → h.opened ≡ opened → h ≡ history opened h.journal
  opened_so h named i = record { opened = named i; journal = h.journal }

  pub names_it : (fault : AuditFault) → IsAuditFault opened (journal_text entries) fault → (fault ≡ NoMemory) ⊎ (fault ≡ Differs d)
  names_it fault audited =
      let h = audited.history in
      let held = audited.held in
      let legal : IsLegal opened h.journal = subst (λ (o : Opened). IsLegal o h.journal) held.named held.legal in
      let of : AreOfStations opened h.journal = subst (λ (o : Opened). AreOfStations o h.journal) held.named held.of_stations in
      let found = held_before h.journal audited.rest legal of held.of_lines held.text_is in
      let at : IsFaultAt (history opened h.journal) audited.rest fault = subst (λ (k : History). IsFaultAt k audited.rest fault) (opened_so h held.named) audited.at in
      said_at h.journal found.more audited.rest found.split found.legal found.left found.entries fault at

  not_all : (more : List Entry) → AreEntries opened (more ++ other.entry ∷ other.later) → journal_text (more ++ other.entry ∷ other.later) ≡ [] → ⊥
  not_all [] are none = some_line opened can.stations other.entry (journal_text other.later) are.of_stations.0 are.long none
  not_all (m ∷ ms) are none = some_line opened can.stations m (journal_text (ms ++ other.entry ∷ other.later)) are.of_stations.0 are.long none

  pub never_all : (journal : List Entry) → ¬ IsJournalOf opened (journal_text entries) journal
  never_all journal is =
      let found = held_before journal [] is.legal is.of_stations is.of_lines is.text_is in
      not_all found.more found.entries found.left
