-- The row of a command that was performed.
use Rattle.std.proofs.Common.{◌≡◌, ℕ, ◌+◌, ◌<◌, [], ◌∷◌, ◌++◌, Some, length, ap, sym, ◌∙◌, arith, length-append}
use Rattle.catalogue_core.specs.declared.command.Command.{Command}
use Rattle.catalogue_core.specs.declared.entry.Entry.{Entry}
use Rattle.catalogue_core.specs.declared.status.StatusRow.{StatusRow}
use Rattle.catalogue_core.specs.Replay.{History, with_entry, entry, answer_of}
use Rattle.catalogue_core.specs.Status.{row, last_entry, entry_station, answer_code_of, answer_code}
use Rattle.shared_catalogue.specs.Board.{known_of, with_next, all_of}
use Rattle.shared_catalogue.specs.RowLaws.{status_rows-entry, length-status_rows, last_entry-push}
use Rattle.shared_catalogue.specs.StatusRows.{status_rows}

-- what the row says of the command whose entry is the last
pub record IsRowOfCall (h : History) (station : ℕ) (command : Command) (r : StatusRow) : Type 0 where
  pub long : r.journal_length ≡ length (status_rows h)
  pub some : 0 < r.journal_length
  pub station_is : r.last_station ≡ station
  pub answer_is : r.last_answer ≡ answer_code (answer_of h station command)

pub row_of_call : (h n : History) (station : ℕ) (command : Command) (r : StatusRow) → n ≡ with_entry h station command → r ≡ row n → IsRowOfCall h station command r
row_of_call h n station command r next is =
    let e = entry station command (answer_of h station command) in
    let k = with_entry h station command in
    let same : r ≡ row k = is ∙ ap row next in
    let last = last_entry-push h.journal e in
    let long : r.journal_length ≡ length h.journal + 1 = ap (λ (x : StatusRow). x.journal_length) same ∙ length-append h.journal (e ∷ []) in
    record {
      long = long ∙ sym (length-status_rows h);
      some = omega arith;
      station_is = ap (λ (x : StatusRow). x.last_station) same ∙ ap entry_station last;
      answer_is = ap (λ (x : StatusRow). x.last_answer) same ∙ ap answer_code_of last;
    }

-- with it the rows are those of the history after the command
pub rows_with : (h n : History) (station : ℕ) (command : Command) (r : StatusRow) → n ≡ with_entry h station command → r ≡ row n → status_rows h ++ r ∷ [] ≡ status_rows n
rows_with h n station command r next is =
    ap (λ (x : StatusRow). status_rows h ++ x ∷ []) (is ∙ ap row next) ∙ sym (status_rows-entry h station command) ∙ ap status_rows (sym next)

-- its entry is the last
pub last_of_call : (h n : History) (station : ℕ) (command : Command) → n ≡ with_entry h station command → last_entry n.journal ≡ Some (entry station command (answer_of h station command))
last_of_call h n station command next = ap (λ (k : History). last_entry k.journal) next ∙ last_entry-push h.journal (entry station command (answer_of h station command))

pub entry_of_call : (h n : History) (station : ℕ) (command : Command) (e : Entry) → n ≡ with_entry h station command → last_entry n.journal ≡ Some e → e ≡ entry station command (answer_of h station command)
entry_of_call h n station command e next last =
    let same : Some e ≡ Some (entry station command (answer_of h station command)) = sym last ∙ last_of_call h n station command next in cc (same)

-- with its row and its entry all is known of the history after the command
pub all_with : (h n : History) (station : ℕ) (command : Command) (e : Entry) → n ≡ with_entry h station command → last_entry n.journal ≡ Some e → with_next (all_of h) (row n) e ≡ all_of n
all_with h n station command e next last =
    let rows = rows_with h n station command (row n) next (λ i. row n) in
    let entries : h.journal ++ e ∷ [] ≡ n.journal = (λ i. h.journal ++ entry_of_call h n station command e next last i ∷ []) ∙ ap (λ (k : History). k.journal) (sym next) in
    λ i. known_of (rows i) (entries i)
