-- A day that goes on, and puts nothing to the log yet.
use Rattle.std.proofs.Common.{◌≡◌, ◌⊎◌, inl, inr, ◌<◌, ◌≤◌, ◌+◌, ◌^◌, ℕ, false, List, [], ◌∷◌, ◌++◌, length, map, sym, ◌∙◌, ap, subst, arith, append_assoc, length-append, length-drop}
use Rattle.std.proofs.lemmas.List.{map-append}
use Rattle.catalogue_core.specs.declared.entry.Entry.{Entry}
use Rattle.catalogue_core.specs.declared.command.Command.{Command}
use Rattle.catalogue_core.specs.Replay.{History, entry, answer_of, with_entry}
use Rattle.station_lines.specs.JournalLines.{line_parts}
use Rattle.files_in_place.specs.Folder.{Name}
use Rattle.files_in_place.specs.Disk.{DiskMeaning}
use Rattle.live_log.specs.Gates.{LineParts, log_of}
use Rattle.live_log.specs.Logs.{HasLog, LogValue}
use Rattle.live_day.specs.Days.{DayValue, HasGoneOn, HasPerformedSince, parts_of, entries_since}
use Rattle.live_day.proofs.DayLaws.{goes_same, goes_entry, since_more}

-- one after another
pub goes_both : (a b c : History) → HasGoneOn a b → HasGoneOn b c → HasGoneOn a c
goes_both a b c first second = record {
  opened = second.opened ∙ first.opened;
  more = first.more ++ second.more;
  journal = second.journal ∙ ap (λ (es : List Entry). es ++ second.more) first.journal ∙ append_assoc a.journal first.more second.more;
}

longer : (a b : History) → HasGoneOn a b → length a.journal ≤ length b.journal
longer a b on = omega (arith, ap length on.journal, length-append a.journal on.more)

module _ {D : Type 0} where
  -- nothing was performed
  pub since_same : (day next : DayValue D) → next ≡ day → HasPerformedSince day next
  since_same day next same = record {
    history = goes_same day.history next.history (ap (λ (d : DayValue D). d.history) same);
    log = ap (λ (d : DayValue D). d.log) same;
    either = inl same;
  }

  -- one command was performed
  pub since_entry_one : (day next : DayValue D) (station : ℕ) (command : Command) → next.history ≡ with_entry day.history station command → next.log ≡ day.log → next.takes ≡ false
      → HasPerformedSince day next
  since_entry_one day next station command is log takes =
      let more : length next.history.journal ≡ length day.history.journal + 1 =
      ap (λ (h : History). length h.journal) is ∙ length-append day.history.journal (entry station command (answer_of day.history station command) ∷ []) in
      record {
        history = goes_entry day.history next.history station command is;
        log = log;
        either = inr (takes, omega (arith, more));
      }

  -- one after another
  pub since_both : (a b c : DayValue D) → HasPerformedSince a b → HasPerformedSince b c → HasPerformedSince a c
  since_both a b c first second = record {
    history = goes_both a.history b.history c.history first.history second.history;
    log = second.log ∙ first.log;
    either = elim second.either [
      | inl same ↦ subst (λ (d : DayValue D). (d ≡ a) ⊎ ((d.takes ≡ false) × (length a.history.journal < length d.history.journal))) (sym same) first.either
      | inr more ↦ inr (more.0, omega (arith, more.1, longer a.history b.history first.history))
    ];
  }

-- some entries were made since
pub some_on : (h next : History) → length h.journal < length next.journal → 0 < length (entries_since h next)
some_on h next longer = omega (arith, longer, length-drop (length h.journal) next.journal)

-- ---- the entries since are put

-- the journal's parts, and those of the entries since
pub parts_on : (h next : History) → HasGoneOn h next → parts_of h.journal ++ parts_of (entries_since h next) ≡ parts_of next.journal
parts_on h next on =
    ap (λ (es : List Entry). parts_of h.journal ++ parts_of es) (since_more h next on) ∙ sym (map-append line_parts h.journal on.more) ∙ sym (ap parts_of on.journal)

module _ {D : Type 0} (m : DiskMeaning D) (h next : History) (on : HasGoneOn h next) (l now : LogValue D) (same : now ≡ l) (entries : List Entry) (is : entries ≡ entries_since h next) where
  -- the log once they are put
  pub put_logged_on : (new : LogValue D) → new.name ≡ now.name → new.head ≡ now.head
      → ((before : List LineParts) → HasLog now.name now.head before (m.seen now.disk) → HasLog now.name now.head (before ++ map line_parts entries) (m.seen new.disk))
      → HasLog l.name l.head (parts_of h.journal) (m.seen l.disk) → HasLog new.name new.head (parts_of next.journal) (m.seen new.disk)
  put_logged_on new name head put logged =
      let both : HasLog now.name now.head (parts_of h.journal ++ map line_parts entries) (m.seen new.disk) =
      put (parts_of h.journal) (subst (λ (x : LogValue D). HasLog x.name x.head (parts_of h.journal) (m.seen x.disk)) (sym same) logged) in
      let since : HasLog now.name now.head (parts_of h.journal ++ parts_of (entries_since h next)) (m.seen new.disk) =
      subst (λ (es : List Entry). HasLog now.name now.head (parts_of h.journal ++ map line_parts es) (m.seen new.disk)) is both in
      subst (λ (n : Name). HasLog n new.head (parts_of next.journal) (m.seen new.disk)) (sym name)
      (subst (λ (h : List ℕ). HasLog now.name h (parts_of next.journal) (m.seen new.disk)) (sym head)
      (subst (λ (es : List LineParts). HasLog now.name now.head es (m.seen new.disk)) (parts_on h next on) since))

  -- the log that would be too long with them
  pub put_too_long : length now.head < 2 ^ 63
      → ((before : List LineParts) → HasLog now.name now.head before (m.seen now.disk) → 2 ^ 64 ≤ length now.head + length (log_of (before ++ map line_parts entries)))
      → HasLog l.name l.head (parts_of h.journal) (m.seen l.disk) → 2 ^ 63 ≤ length (log_of (parts_of next.journal))
  put_too_long short long logged =
      let whole : 2 ^ 64 ≤ length now.head + length (log_of (parts_of h.journal ++ map line_parts entries)) =
      long (parts_of h.journal) (subst (λ (x : LogValue D). HasLog x.name x.head (parts_of h.journal) (m.seen x.disk)) (sym same) logged) in
      let both : 2 ^ 63 ≤ length (log_of (parts_of h.journal ++ map line_parts entries)) = omega (arith, short, whole) in
      let since : 2 ^ 63 ≤ length (log_of (parts_of h.journal ++ parts_of (entries_since h next))) =
      subst (λ (es : List Entry). 2 ^ 63 ≤ length (log_of (parts_of h.journal ++ map line_parts es))) is both in
      subst (λ (es : List LineParts). 2 ^ 63 ≤ length (log_of es)) (parts_on h next on) since
