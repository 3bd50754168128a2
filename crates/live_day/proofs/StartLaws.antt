-- A log whose entries hold on the opened tables is that of the journal.
use Rattle.std.proofs.Common.{◌≡◌, ◌<◌, ◌^◌, ℕ, List, [], ◌∷◌, ◌++◌, length, map, refl, sym, ◌∙◌, ap, subst, arith, length-append}
use Rattle.catalogue_core.specs.declared.entry.Entry.{Entry}
use Rattle.catalogue_core.specs.Replay.{Opened, AreOfStations}
use Rattle.station_lines.specs.JournalLines.{entry_and, lines_and, line_parts, HaveSmallNumbers}
use Rattle.station_lines.proofs.JournalLaws.{entry_small, lines_one}
use Rattle.audit.specs.Audits.{IsJournalOf}
use Rattle.live_log.specs.Gates.{LineParts, log_of, StandsFor, IsLogText}
use Rattle.live_log.specs.Gates.{IsLogUnread}
use Rattle.live_log.specs.declared.faults.ReadFault.{ReadFault}
use Rattle.live_log.specs.declared.faults.ReadFault.TheVariants as of_read
use Rattle.live_log.proofs.GateLaws.{entry_then}
use Rattle.live_day.specs.Days.{parts_of}
use Rattle.live_day.specs.Starts.{IsLogFault, read_fault_of}
use Rattle.live_day.specs.declared.start_fault.StartFault.{StartFault}

-- a log that is not read is not performed once more
read_told : (opened : Opened) (log : List ℕ) (fault : ReadFault) → IsLogUnread log fault → IsLogFault opened log (read_fault_of fault)
read_told opened log (of_read.Changed number) is = is
read_told opened log of_read.NoMemory is = tt

pub unread : (opened : Opened) (log : List ℕ) (fault : ReadFault) (why : StartFault) → IsLogUnread log fault → why ≡ read_fault_of fault → IsLogFault opened log why
unread opened log fault why is told = subst (λ (w : StartFault). IsLogFault opened log w) (sym told) (read_told opened log fault is)

small_parts : (journal : List Entry) (opened : Opened) → AreOfStations opened journal → opened.stations < 2 ^ 64 → length (lines_and (map line_parts journal) []) < 2 ^ 64 → HaveSmallNumbers (map line_parts journal)
small_parts [] opened of bound long = tt
small_parts (e ∷ es) opened of bound long =
    let rest = lines_and (map line_parts es) [] in
    let whole : entry_and (line_parts e) [] ++ rest ≡ entry_and (line_parts e) rest = entry_then (line_parts e) rest in
    let shorter : length rest < 2 ^ 64 = omega (arith, long, ap length whole, length-append (entry_and (line_parts e) []) rest) in
    (entry_small (entry_and (line_parts e) rest) (line_parts e) rest refl long (omega (arith, of.0.1, bound)), small_parts es opened of.1 bound shorter)

module _ (log text whole : List ℕ) (count : ℕ) (t : IsLogText log text whole count) (opened : Opened) (journal : List Entry) (j : IsJournalOf opened text journal) (bound : opened.stations < 2 ^ 64) (long : length text < 2 ^ 64) where
  small : HaveSmallNumbers (parts_of journal)
  small = small_parts journal opened j.of_stations bound (omega (arith, long, ap length j.text_is))

  same : t.entries ≡ parts_of journal
  same = lines_one t.entries (parts_of journal) t.stands.small small (sym t.journal_is ∙ j.text_is)

  pub again_stands : StandsFor log (parts_of journal)
  again_stands = subst (λ (es : List LineParts). StandsFor log es) same t.stands

  pub again_whole : whole ≡ log_of (parts_of journal)
  again_whole = t.whole_is ∙ ap log_of same
