use Rattle.std.proofs.Common.{◌≡◌, ◌+◌, List, [], ◌∷◌, ◌++◌, Some, length, refl, sym, ap, ◌∙◌, arith, length-append}
use Rattle.std.specs.Prelude.{Option}
use Rattle.std.specs.Option.{unwrap_or}
use Rattle.crossbeam_utils.specs.Seq.{cell_view}
use Rattle.catalogue_core.specs.declared.entry.Entry.{Entry}
use Rattle.catalogue_core.specs.declared.status.StatusRow.{StatusRow}
use Rattle.catalogue_core.specs.Replay.{History, entry, answer_of}
use Rattle.catalogue_core.specs.Status.{row, last_entry, answer_code}
use Rattle.shared_catalogue.specs.declared.board.View.{View}
use Rattle.shared_catalogue.specs.Board.{no_entry, with_next, writer_of, all_of}
use Rattle.shared_catalogue.specs.OwnCalls.{receipt, receipt_of}
use Rattle.shared_catalogue.specs.Seats.{Seated}
use Rattle.shared_catalogue.specs.StatusRows.{status_rows}
use Rattle.shared_catalogue.proofs.CallLaws.{row_of_call, rows_with, last_of_call, entry_of_call, all_with}
use Rattle.shared_catalogue.proofs.locked.LockedCatalogue.perform.Goals as goal

-- what is picked is the last entry where there is one
picked_last : (o : Option Entry) (e : Entry) → o ≡ Some e → o ≡ Some (unwrap_or o no_entry)
picked_last o e is = is ∙ ap (λ (p : Option Entry). Some (unwrap_or p no_entry)) (sym is)

pub put_up-requires : goal.put_up-requires
put_up-requires g c =
    let i = c.self.invariant in
    let h = c.self.inside.catalogue in
    let n = c.perform.new.self in
    let next = c.in_ok-_number.ensures.entry in
    let s = c.station.result in
    let command = c.args.command.now in
    let rows : (cell_view c.self.inside.pass).known.rows ≡ status_rows h = ap (λ (v : View). v.known.rows) i.all in
    let call = row_of_call h n s command (row n) next refl in
    record {
      board = (c.requires.board, i.of_board);
      writer = ap (λ (v : View). v.writes) i.all;
      next = (call.some, call.long ∙ sym (ap length rows));
      own = call.station_is ∙ c.station.ensures.value;
      entry = picked_last (last_entry n.journal) _ (last_of_call h n s command next);
    }

pub invariant_of-self-2 : goal.invariant_of-self-2
invariant_of-self-2 g c =
    let i = c.self.invariant in
    let h = c.self.inside.catalogue in
    let n = c.perform.new.self in
    let s = c.station.result in
    let command = c.args.command.now in
    let next = c.in_ok-_number.ensures.entry in
    let e = unwrap_or (last_entry n.journal) no_entry in
    let last = picked_last (last_entry n.journal) _ (last_of_call h n s command next) in
    let all : with_next (cell_view c.self.inside.pass).known (row n) e ≡ all_of n = ap (λ (v : View). with_next v.known (row n) e) i.all ∙ all_with h n s command e next last in
    let long : length n.journal ≡ length h.journal + 1 = ap (λ (k : History). length k.journal) next ∙ length-append h.journal (entry s command (answer_of h s command) ∷ []) in
    record {
      counted = omega (arith, c.put_up.ensures.total, i.counted, long);
      of_tables = ap (λ (k : History). k.opened) next ∙ i.of_tables;
      no_part = i.no_part;
      no_amount = i.no_amount;
      of_board = c.put_up.ensures.pass.0;
      all = c.put_up.ensures.pass.1 ∙ ap writer_of all;
    }

pub returns-clause-rows : goal.returns-clause-rows
returns-clause-rows g c =
    let h = c.self.inside.catalogue in
    let n = c.perform.new.self in
    let rows : (cell_view c.self.inside.pass).known.rows ≡ status_rows h = ap (λ (v : View). v.known.rows) c.self.invariant.all in
    let all : (cell_view c.self.inside.pass).known.rows ++ row n ∷ [] ≡ status_rows n = ap (λ (l : List StatusRow). l ++ row n ∷ []) rows ∙ rows_with h n c.station.result c.args.command.now (row n) c.in_ok-_number.ensures.entry refl in
    ap (λ (z : Seated). z.rows) c.put_up.ensures.seat ∙ all

pub returns-clause-receipt : goal.returns-clause-receipt
returns-clause-receipt g c =
    let h = c.self.inside.catalogue in
    let n = c.perform.new.self in
    let s = c.station.result in
    let command = c.args.command.now in
    let made = c.in_ok-_number.ensures in
    let e = unwrap_or (last_entry n.journal) no_entry in
    let is : e ≡ entry s command (answer_of h s command) = entry_of_call h n s command e made.entry (picked_last (last_entry n.journal) _ (last_of_call h n s command made.entry)) in
    ap (λ (z : Seated). z.receipts) c.put_up.ensures.seat
    ∙ ((λ i. (c.audit.ensures.seat i).receipts ++ receipt_of (is i) ∷ []) ∙ (λ i. c.args.seat.now.receipts ++ receipt command (sym made.answer i) ∷ []))

pub returns-clause-told : goal.returns-clause-told
returns-clause-told g c =
    let h = c.self.inside.catalogue in
    let n = c.perform.new.self in
    let made = c.in_ok-_number.ensures in
    let call = row_of_call h n c.station.result c.args.command.now (row n) made.entry refl in
    let later = c.put_up.ensures.later in
    let same = c.audit.ensures.seat in
    let old : (cell_view c.self.inside.pass).known.rows ≡ c.args.seat.now.rows ++ later.0 = sym later.1 ∙ ap (λ (z : Seated). z.rows ++ later.0) same in (
      later.0,
      row n,
      ap (λ (z : Seated). z.rows) c.put_up.ensures.seat ∙ ap (λ (l : List StatusRow). l ++ row n ∷ []) old,
      call.station_is ∙ (c.station.ensures.value ∙ ap (λ (z : Seated). z.station) same),
      call.answer_is ∙ ap answer_code (sym made.answer),
    )
