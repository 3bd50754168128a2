-- A journal that has one entry more, and its log.
use Rattle.std.proofs.Common.{◌≡◌, ℕ, List, [], ◌∷◌, length, take, drop, ◌-◌, map, Option, Result, Ok, Err, IfOk, refl, sym, ◌∙◌, ap, subst, arith, length-drop}
use Rattle.std.proofs.lemmas.List.{append-nil, drop_at, take_all}
use Rattle.catalogue_core.specs.declared.entry.Entry.{Entry}
use Rattle.catalogue_core.specs.declared.command.Command.{Command}
use Rattle.catalogue_core.specs.Replay.{History, entry, answer_of, with_entry}
use Rattle.station_lines.specs.JournalLines.{line_parts}
use Rattle.files_in_place.specs.Folder.{Folder}
use Rattle.files_in_place.specs.Disk.{DiskMeaning, IsSyncedDisk, LeavesOnly}
use Rattle.station_lines.specs.declared.script.line.Line.{Line}
use Rattle.live_day.specs.declared.faults.LineFault.{LineFault}
use Rattle.live_log.specs.Logs.{HasLog, IsLogPut, LogValue}
use Rattle.live_log.proofs.Putting.{nothing_put}
use Rattle.live_day.specs.Days.{DayValue, parts_of, entries_since, HasGoneOn}

-- nothing was performed
pub goes_same : (h next : History) → next ≡ h → HasGoneOn h next
goes_same h next same = record {
  opened = ap (λ (n : History). n.opened) same;
  more = [];
  journal = ap (λ (n : History). n.journal) same ∙ sym (append-nil h.journal);
}

-- one command was performed
pub goes_entry : (h next : History) (station : ℕ) (command : Command) → next ≡ with_entry h station command → HasGoneOn h next
goes_entry h next station command is = record {
  opened = ap (λ (n : History). n.opened) is;
  more = entry station command (answer_of h station command) ∷ [];
  journal = ap (λ (n : History). n.journal) is;
}

-- what stands after the journal is what it goes on with
pub since_more : (old new : History) (on : HasGoneOn old new) → entries_since old new ≡ on.more
since_more old new on = ap (λ (es : List Entry). drop (length old.journal) es) on.journal ∙ drop_at old.journal on.more (length old.journal) refl

module _ {D : Type 0} (m : DiskMeaning D) (old new : DayValue D) where
  -- what a crash leaves where nothing was put to the log
  pub any_none : new.log ≡ old.log → IsSyncedDisk m old.log.disk → HasLog old.log.name old.log.head (parts_of old.history.journal) (m.seen old.log.disk)
      → LeavesOnly m old.log.disk new.log.disk (IsLogPut old.log.name old.log.head (m.seen old.log.disk) (parts_of old.history.journal) (parts_of (entries_since old.history new.history)))
  any_none same synced logged =
      let P : Folder → Type 0 = IsLogPut old.log.name old.log.head (m.seen old.log.disk) (parts_of old.history.journal) (parts_of (entries_since old.history new.history)) in
      subst (λ (l : LogValue D). LeavesOnly m old.log.disk l.disk P) (sym same)
      (nothing_put m old.log.name old.log.disk old.log.head (parts_of old.history.journal) (parts_of (entries_since old.history new.history)) synced logged)

-- what an answer is by the one meaning of a line, it is by each
pub by_one : (P : Line → Option (List ℕ) → Type 0) (Q : Line → Type 0) (m : Line) (r : Result (Option (List ℕ)) LineFault) → ((other : Line) → Q other → other ≡ m)
    → IfOk r (λ answer. P m answer) → IfOk r (λ answer. (other : Line) → Q other → P other answer)
by_one P Q m (Ok answer) one is = λ other q. subst (λ (l : Line). P l answer) (sym (one other q)) is
by_one P Q m (Err fault) one is = tt

-- what stands after the first journal, as it is cut off the second
pub rest_is : (first second : List Entry) (h next : History) → first ≡ h.journal → second ≡ next.journal → take (length second - length first) (drop (length first) second) ≡ entries_since h next
rest_is first second h next is then_is =
    take_all (length second - length first) (drop (length first) second) (omega (arith, length-drop (length first) second))
    ∙ ap (λ (l : List Entry). drop (length first) l) then_is ∙ ap (λ (l : List Entry). drop (length l) next.journal) is

module _ {D : Type 0} (m : DiskMeaning D) (h next : History) (l now : LogValue D) (same : now ≡ l) (entries : List Entry) (is : entries ≡ entries_since h next) where
  -- what a crash leaves while these entries are put
  pub put_moment : (disk : D) → LeavesOnly m now.disk disk (IsLogPut now.name now.head (m.seen now.disk) (parts_of h.journal) (map line_parts entries))
      → LeavesOnly m l.disk disk (IsLogPut l.name l.head (m.seen l.disk) (parts_of h.journal) (parts_of (entries_since h next)))
  put_moment disk leaves =
      subst (λ (es : List Entry). LeavesOnly m l.disk disk (IsLogPut l.name l.head (m.seen l.disk) (parts_of h.journal) (map line_parts es))) is
      (subst (λ (x : LogValue D). LeavesOnly m x.disk disk (IsLogPut x.name x.head (m.seen x.disk) (parts_of h.journal) (map line_parts entries))) same leaves)
