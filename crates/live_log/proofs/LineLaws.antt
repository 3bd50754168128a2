-- The lines of a log as they are read.
use Rattle.std.proofs.Common.{◌≡◌, ◌≢◌, ◌≤◌, ◌+◌, ◌-◌, inl, inr, ℕ, List, [], ◌∷◌, ◌++◌, length, take, refl, sym, ◌∙◌, ap, subst, arith, append_assoc, length-append}
use Rattle.std.specs.Prelude.{Bool, true, false}
use Rattle.std.specs.Str.{bytes_eq}
use Rattle.std.proofs.lemmas.Bool.{both_ways}
use Rattle.std.proofs.lemmas.List.{take_at, append-nil}
use Rattle.std.proofs.lemmas.Slice.Eq.{bytes_eq-Decides}
use Rattle.dbf_fields.specs.declared.format.TheConstants.{BLANK}
use Rattle.station_lines.specs.JournalLines.{entry_and, lines_and, HaveSmallNumbers, BeginsWithEntry, BeginsWithNoEntry, BeginsWithPart, BeginsWithNoPart}
use Rattle.station_lines.proofs.JournalLaws.{cut_part_one, entry_one, tail_is}
use Rattle.live_log.specs.declared.faults.ReadFault.{ReadFault}
use Rattle.live_log.specs.declared.faults.ReadFault.TheVariants.{Changed, NoMemory}
use Rattle.live_log.specs.declared.gates.TheConstants.{OPEN_GATE, SHUT_GATE}
use Rattle.live_log.specs.declared.lines.ReadLines.{ReadLines}
use Rattle.live_log.specs.declared.lines.TheConstants.{SUM_LEN}
use Rattle.live_log.specs.Gates.{LineParts, sum_of_line, log_line_and, gated, log_of, IsLogEnd, IsWholeLog, IsLogText, BeginsWithLogLine, BeginsWithNoLogLine, IsChangedAt, IsLogUnread, AddsLines, HasReadTo, HasNoLine, AreLinesUnread, IsEndUnread, fault_at}
use Rattle.live_log.proofs.GateLaws.{IsClosed, entry_then, log_line_then, log_line_one, same_lines, end_closed, shut_closed, stands_front, stands_last, gated-append, gated-rest, small-append, entries_fit}
use Rattle.live_log.proofs.SumLaws.{length-sum}

-- the line is what is first, up to what stands after it
pub line_first : (e : LineParts) (text rest line : List ℕ) → text ≡ entry_and e rest → line ≡ take (length text - length rest) text → line ≡ entry_and e []
line_first e text rest line is first =
    let whole : text ≡ entry_and e [] ++ rest = is ∙ sym (entry_then e rest) in
    let same : length (entry_and e []) ≡ length text - length rest = omega (arith, ap length whole, length-append (entry_and e []) rest) in
    first ∙ ap (λ (t : List ℕ). take (length text - length rest) t) whole ∙ take_at (entry_and e []) rest (length text - length rest) same

-- ---- a line after its sum

pub rest_within : (text rest : List ℕ) (e : LineParts) → BeginsWithLogLine text e rest → length rest ≤ length text
rest_within text rest e begins = omega (arith, ap length begins.is, ap length (sym (log_line_then e rest)), length-append (log_line_and e []) rest)

pub log_line_first : (text sum entry line rest : List ℕ) (e : LineParts) → BeginsWithPart text SUM_LEN BLANK sum entry → BeginsWithEntry entry e rest → line ≡ entry_and e [] → sum ≡ sum_of_line line → BeginsWithLogLine text e rest
log_line_first text sum entry line rest e part begins is right = record {
  is = part.is ∙ ap (λ (s : List ℕ). s ++ (BLANK ∷ entry)) (right ∙ ap sum_of_line is) ∙ ap (λ (l : List ℕ). sum_of_line (entry_and e []) ++ (BLANK ∷ l)) begins.is;
  small = begins.small;
}

pub no_sum : (text : List ℕ) → BeginsWithNoPart text SUM_LEN BLANK → BeginsWithNoLogLine text
no_sum text none e rest small is = none (sum_of_line (entry_and e [])) (entry_and e rest) (length-sum (entry_and e [])) is

-- what stands after the part that is as long as a sum
after_sum : (text sum entry : List ℕ) (e : LineParts) (rest : List ℕ) → BeginsWithPart text SUM_LEN BLANK sum entry → text ≡ log_line_and e rest → (sum ≡ sum_of_line (entry_and e [])) × (entry ≡ entry_and e rest)
after_sum text sum entry e rest part is =
    let cut = cut_part_one sum (sum_of_line (entry_and e [])) (BLANK ∷ entry) (BLANK ∷ entry_and e rest) (part.long ∙ sym (length-sum (entry_and e []))) (sym part.is ∙ is) in
    (cut.part, tail_is BLANK BLANK entry (entry_and e rest) cut.rest)

pub no_entry_after : (text sum entry : List ℕ) → BeginsWithPart text SUM_LEN BLANK sum entry → BeginsWithNoEntry entry → BeginsWithNoLogLine text
no_entry_after text sum entry part none e rest small is = none e rest small (after_sum text sum entry e rest part is).1

pub wrong_sum : (text sum entry line after : List ℕ) (f : LineParts) → BeginsWithPart text SUM_LEN BLANK sum entry → BeginsWithEntry entry f after → line ≡ entry_and f [] → sum ≢ sum_of_line line → BeginsWithNoLogLine text
wrong_sum text sum entry line after f part begins line_is wrong e rest small is =
    let here = after_sum text sum entry e rest part is in
    let same = entry_one f e after rest begins.small small (sym begins.is ∙ here.1) in
    wrong (here.0 ∙ ap (λ (x : LineParts). sum_of_line (entry_and x [])) (sym same.entry) ∙ ap sum_of_line (sym line_is))

-- what a comparison of bytes says
pub same_bytes : (a b wanted : List ℕ) (eq : Bool) → eq ≡ bytes_eq a b → b ≡ wanted → eq ≡ true → a ≡ wanted
same_bytes a b wanted eq is of holds = (bytes_eq-Decides a b).0 (sym is ∙ holds) ∙ of

pub other_bytes : (a b wanted : List ℕ) (eq : Bool) → eq ≡ bytes_eq a b → b ≡ wanted → eq ≡ false → a ≢ wanted
other_bytes a b wanted eq is of fails same = both_ways eq fails (is ∙ (bytes_eq-Decides a b).1 (same ∙ sym of))

-- ---- lines that were read

lines_then : (es : List LineParts) (rest : List ℕ) → lines_and es [] ++ rest ≡ lines_and es rest
lines_then [] rest = refl
lines_then (e ∷ es) rest =
    ap (λ (l : List ℕ). l ++ rest) (sym (entry_then e (lines_and es []))) ∙ append_assoc (entry_and e []) (lines_and es []) rest ∙ ap (λ (l : List ℕ). entry_and e [] ++ l) (lines_then es rest) ∙ entry_then e (lines_and es rest)

lines-append : (es fs : List LineParts) (rest : List ℕ) → lines_and (es ++ fs) rest ≡ lines_and es (lines_and fs rest)
lines-append [] fs rest = refl
lines-append (e ∷ es) fs rest = ap (λ (l : List ℕ). entry_and e l) (lines-append es fs rest)

both_lines : (es fs : List LineParts) → lines_and es [] ++ lines_and fs [] ≡ lines_and (es ++ fs) []
both_lines es fs = lines_then es (lines_and fs []) ∙ sym (lines-append es fs [])

both_gated : (es fs : List LineParts) → gated es [] ++ gated fs [] ≡ gated (es ++ fs) []
both_gated es fs = sym (gated-rest es (gated fs [])) ∙ sym (gated-append es fs [])

pub adds_none : (read : ReadLines) → AddsLines read read []
adds_none read = record {
  journal_is = sym (append-nil read.journal.items);
  whole_is = sym (append-nil read.whole.items);
  count_is = omega arith;
  small = tt;
}

pub adds_both : (old mid new : ReadLines) (es fs : List LineParts) → AddsLines old mid es → AddsLines mid new fs → AddsLines old new (es ++ fs)
adds_both old mid new es fs a b = record {
  journal_is = b.journal_is ∙ ap (λ (l : List ℕ). l ++ lines_and fs []) a.journal_is ∙ append_assoc old.journal.items (lines_and es []) (lines_and fs [])
      ∙ ap (λ (l : List ℕ). old.journal.items ++ l) (both_lines es fs);
  whole_is = b.whole_is ∙ ap (λ (l : List ℕ). l ++ gated fs []) a.whole_is ∙ append_assoc old.whole.items (gated es []) (gated fs [])
      ∙ ap (λ (l : List ℕ). old.whole.items ++ l) (both_gated es fs);
  count_is = omega (arith, a.count_is, b.count_is, length-append es fs);
  small = small-append es fs a.small b.small;
}

-- nothing is read of a text
pub reads_none : (read : ReadLines) (text : List ℕ) → HasReadTo read read text text
reads_none read text = record { more = []; is = refl; adds = adds_none read }

-- one line is read
pub reads_one : (old new : ReadLines) (text line rest : List ℕ) (e : LineParts) → BeginsWithLogLine text e rest → line ≡ entry_and e []
    → new.journal.items ≡ old.journal.items ++ line → new.whole.items ≡ old.whole.items ++ (OPEN_GATE ∷ (sum_of_line line ++ (BLANK ∷ line))) → new.count ≡ old.count + 1
    → HasReadTo old new (OPEN_GATE ∷ text) rest
reads_one old new text line rest e begins line_is journal whole count = record {
  more = e ∷ [];
  is = ap (λ (l : List ℕ). OPEN_GATE ∷ l) begins.is;
  adds = record {
    journal_is = journal ∙ ap (λ (l : List ℕ). old.journal.items ++ l) line_is;
    whole_is = whole ∙ ap (λ (l : List ℕ). old.whole.items ++ (OPEN_GATE ∷ (sum_of_line l ++ (BLANK ∷ l)))) line_is;
    count_is = omega (arith, count);
    small = (begins.small, tt);
  };
}

-- and then more
pub reads_both : (old mid new : ReadLines) (text left gated_text rest : List ℕ) → HasReadTo old mid text left → left ≡ OPEN_GATE ∷ gated_text → HasReadTo mid new (OPEN_GATE ∷ gated_text) rest → HasReadTo old new text rest
reads_both old mid new text left gated_text rest a opened b = record {
  more = a.more ++ b.more;
  is = a.is ∙ ap (λ (l : List ℕ). gated a.more l) (opened ∙ b.is) ∙ sym (gated-append a.more b.more rest);
  adds = adds_both old mid new a.more b.more a.adds b.adds;
}

-- what was counted is no more than what was kept
pub counted_still : (old new : ReadLines) (more : List LineParts) → old.count ≤ length old.whole.items → AddsLines old new more → new.count ≤ length new.whole.items
counted_still old new more counted adds =
    omega (arith, counted, adds.count_is, ap length adds.whole_is, length-append old.whole.items (gated more []), entries_fit more [])

-- ---- lines that were not read

pub no_first_line : (count : ℕ) (text : List ℕ) (number : ℕ) → number ≡ count + 1 → BeginsWithNoLogLine text → HasNoLine count (OPEN_GATE ∷ text) number
no_first_line count text number is none = record { more = []; left = text; is = refl; small = tt; none = none; number_is = omega (arith, is) }

pub no_line_then : (old mid : ReadLines) (text left gated_text : List ℕ) (number : ℕ) → HasReadTo old mid text left → left ≡ OPEN_GATE ∷ gated_text → HasNoLine mid.count (OPEN_GATE ∷ gated_text) number → HasNoLine old.count text number
no_line_then old mid text left gated_text number a opened none = record {
  more = a.more ++ none.more;
  left = none.left;
  is = a.is ∙ ap (λ (l : List ℕ). gated a.more l) (opened ∙ none.is) ∙ sym (gated-append a.more none.more (OPEN_GATE ∷ none.left));
  small = small-append a.more none.more a.adds.small none.small;
  none = none.none;
  number_is = omega (arith, none.number_is, a.adds.count_is, length-append a.more none.more);
}

pub unread_then : (old mid : ReadLines) (text left gated_text : List ℕ) (fault : ReadFault) → HasReadTo old mid text left → left ≡ OPEN_GATE ∷ gated_text → AreLinesUnread mid.count (OPEN_GATE ∷ gated_text) fault → AreLinesUnread old.count text fault
unread_then old mid text left gated_text (Changed number) a opened none = no_line_then old mid text left gated_text number a opened none
unread_then old mid text left gated_text NoMemory a opened none = tt

-- the same of the same text
pub read_at : (old new : ReadLines) (text same rest : List ℕ) → text ≡ same → HasReadTo old new same rest → HasReadTo old new text rest
read_at old new text same rest is read = subst (λ (t : List ℕ). HasReadTo old new t rest) (sym is) read

pub unread_at : (count : ℕ) (text same : List ℕ) (fault : ReadFault) → text ≡ same → AreLinesUnread count same fault → AreLinesUnread count text fault
unread_at count text same fault is none = subst (λ (t : List ℕ). AreLinesUnread count t fault) (sym is) none

-- lines after which no line stands behind an open gate are not all lines of others
no_others : (done es : List LineParts) (line r : List ℕ) → HaveSmallNumbers done → HaveSmallNumbers es → IsClosed r → BeginsWithNoLogLine line → gated done (OPEN_GATE ∷ line) ≡ gated es r → ⊥
no_others [] [] line r sd se shut none is = shut line (sym is)
no_others [] (f ∷ es) line r sd se shut none is = none f (gated es r) se.0 (tail_is OPEN_GATE OPEN_GATE line (log_line_and f (gated es r)) is)
no_others (e ∷ done) [] line r sd se shut none is = shut _ (sym is)
no_others (e ∷ done) (f ∷ es) line r sd se shut none is =
    let same = log_line_one e f (gated done (OPEN_GATE ∷ line)) (gated es r) sd.0 se.0 (tail_is OPEN_GATE OPEN_GATE (log_line_and e (gated done (OPEN_GATE ∷ line))) (log_line_and f (gated es r)) is) in
    no_others done es line r sd.1 se.1 shut none same.rest

-- the log stands for nothing
front_changed : (count : ℕ) (log : List ℕ) (number : ℕ) → count ≡ 0 → HasNoLine count log number → IsChangedAt log number
front_changed count log number zero none = record {
  front = none.more;
  rest = OPEN_GATE ∷ none.left;
  is = none.is;
  small = none.small;
  number_is = omega (arith, zero, none.number_is);
  no_line = λ e rest small is. none.none e rest small (tail_is OPEN_GATE OPEN_GATE none.left (log_line_and e rest) is);
  none = λ es s. no_others none.more s.front none.left s.rest none.small (stands_front log es s) (end_closed s.rest s.last s.end) none.none (sym none.is ∙ s.is);
}

pub front_unread : (count : ℕ) (log : List ℕ) (fault : ReadFault) → count ≡ 0 → AreLinesUnread count log fault → IsLogUnread log fault
front_unread count log (Changed number) zero none = front_changed count log number zero none
front_unread count log NoMemory zero none = tt

end_changed : (old new : ReadLines) (log end : List ℕ) (number : ℕ) → old.count ≡ 0 → HasReadTo old new log end → IsClosed end → number ≡ new.count + 1 → ((last : List LineParts) → HaveSmallNumbers last → IsLogEnd end last → ⊥) → IsChangedAt log number
end_changed old new log end number zero read closed is none = record {
  front = read.more;
  rest = end;
  is = read.is;
  small = read.adds.small;
  number_is = omega (arith, is, zero, read.adds.count_is);
  no_line = λ e rest small opened. closed (log_line_and e rest) opened;
  none = λ es s.
      let same = same_lines read.more s.front end s.rest read.adds.small (stands_front log es s) closed (end_closed s.rest s.last s.end) (sym read.is ∙ s.is) in
      none s.last (stands_last log es s) (subst (λ (rest : List ℕ). IsLogEnd rest s.last) (sym same.rest) s.end);
}

pub end_unread : (old new : ReadLines) (log end : List ℕ) (fault : ReadFault) → old.count ≡ 0 → HasReadTo old new log end → IsClosed end → IsEndUnread new.count end fault → IsLogUnread log fault
end_unread old new log end (Changed number) zero read closed none = end_changed old new log end number zero read closed none.0 none.1
end_unread old new log end NoMemory zero read closed none = tt

-- ---- the end of a log

pub nothing_left : (end : List ℕ) (last : List LineParts) → end ≡ [] → IsLogEnd end last → ⊥
nothing_left end last is ends = subst (λ (rest : List ℕ). IsLogEnd rest last) is ends

pub shut_end : (end rest : List ℕ) (gate : ℕ) → end ≡ gate ∷ rest → gate ≡ SHUT_GATE → IsLogEnd end []
shut_end end rest gate is shut = subst (λ (l : List ℕ). IsLogEnd l []) (sym is) (inl (shut, refl))

-- behind a torn gate the lines are whole
pub torn_end : (old new : ReadLines) (end behind rest : List ℕ) (gate : ℕ) → end ≡ gate ∷ behind → IsClosed end → gate ≢ SHUT_GATE → HasReadTo old new (OPEN_GATE ∷ behind) rest → rest ≡ SHUT_GATE ∷ []
    → (last : List LineParts) × IsLogEnd end last × AddsLines old new last
torn_end old new end behind rest gate is closed other read shut =
    let torn : gate ≢ OPEN_GATE = λ opened. closed behind (is ∙ ap (λ (g : ℕ). g ∷ behind) opened) in
    (read.more, subst (λ (l : List ℕ). IsLogEnd l read.more) (sym is) (inr (other, torn, read.is ∙ ap (λ (l : List ℕ). gated read.more l) shut)), read.adds)

-- they are not
torn_whole : (end behind : List ℕ) (gate : ℕ) (last : List LineParts) → end ≡ gate ∷ behind → gate ≢ SHUT_GATE → IsLogEnd end last → OPEN_GATE ∷ behind ≡ log_of last
torn_whole end behind gate last is other ends = elim (subst (λ (l : List ℕ). IsLogEnd l last) is ends) [
  | inl shut ↦ absurd (other shut.0)
  | inr torn ↦ torn.2
]

pub torn_unread : (end behind : List ℕ) (gate count number : ℕ) → end ≡ gate ∷ behind → gate ≢ SHUT_GATE → HasNoLine count (OPEN_GATE ∷ behind) number → (last : List LineParts) → HaveSmallNumbers last → IsLogEnd end last → ⊥
torn_unread end behind gate count number is other none last small ends =
    no_others none.more last none.left (SHUT_GATE ∷ []) none.small small (shut_closed []) none.none (sym none.is ∙ torn_whole end behind gate last is other ends)

pub torn_fault : (end behind : List ℕ) (gate count : ℕ) (fault told : ReadFault) → end ≡ gate ∷ behind → gate ≢ SHUT_GATE → AreLinesUnread count (OPEN_GATE ∷ behind) fault → told ≡ fault_at (count + 1) fault → IsEndUnread count end told
torn_fault end behind gate count (Changed number) told is other none said =
    subst (λ (f : ReadFault). IsEndUnread count end f) (sym said) (refl, λ last small ends. torn_unread end behind gate count number is other none last small ends)
torn_fault end behind gate count NoMemory told is other none said = subst (λ (f : ReadFault). IsEndUnread count end f) (sym said) tt

pub torn_unended : (old new : ReadLines) (end behind rest : List ℕ) (gate : ℕ) → end ≡ gate ∷ behind → gate ≢ SHUT_GATE → HasReadTo old new (OPEN_GATE ∷ behind) rest → IsClosed rest → rest ≢ SHUT_GATE ∷ [] → (last : List LineParts) → HaveSmallNumbers last → IsLogEnd end last → ⊥
torn_unended old new end behind rest gate is other read closed unended last small ends =
    unended (same_lines read.more last rest (SHUT_GATE ∷ []) read.adds.small small closed (shut_closed []) (sym read.is ∙ torn_whole end behind gate last is other ends)).rest

-- ---- all of a log

module _ (old mid new : ReadLines) (log end whole : List ℕ) (last : List LineParts) (first : old.whole.items ≡ []) (none : old.journal.items ≡ []) (zero : old.count ≡ 0)
    (read : HasReadTo old mid log end) (ends : IsLogEnd end last) (adds : AddsLines mid new last) (shut : whole ≡ new.whole.items ++ (SHUT_GATE ∷ [])) where
  both : AddsLines old new (read.more ++ last)
  both = adds_both old mid new read.more last read.adds adds

  whole_is : whole ≡ log_of (read.more ++ last)
  whole_is =
      shut ∙ ap (λ (l : List ℕ). l ++ (SHUT_GATE ∷ [])) (both.whole_is ∙ ap (λ (l : List ℕ). l ++ gated (read.more ++ last) []) first)
      ∙ sym (gated-rest (read.more ++ last) (SHUT_GATE ∷ []))

  pub all_whole : IsWholeLog whole
  all_whole = record { entries = read.more ++ last; is = whole_is; small = both.small }

  pub all_read : IsLogText log new.journal.items whole new.count
  all_read = record {
    entries = read.more ++ last;
    count_is = omega (arith, zero, both.count_is);
    stands = record { front = read.more; last = last; rest = end; is = read.is; end = ends; all = refl; small = both.small };
    journal_is = both.journal_is ∙ ap (λ (l : List ℕ). l ++ lines_and (read.more ++ last) []) none;
    whole_is = whole_is;
  }
