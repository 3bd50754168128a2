use Rattle.std.proofs.Common.{◌≡◌, ℕ, ◌<◌, ◌≤◌, [], ◌∷◌, ◌++◌, true, false, length, sym, ap, subst, ◌∙◌, arith, rules}
use mathlib.Core.List.{IsPrefix}
use Rattle.crossbeam_utils.specs.Seq.{cell_view}
use Rattle.catalogue_core.specs.Status.{row as row_of, entry_station}
use Rattle.shared_catalogue.specs.declared.board.View.{View}
use Rattle.shared_catalogue.specs.OwnCalls.{receipt_of}
use Rattle.shared_catalogue.specs.RowWords.{row_of_words}
use Rattle.shared_catalogue.specs.Seats.{Seated, seated, seated_after, AreReceiptsIn}
use Rattle.shared_catalogue.specs.StatusRows.{calls_of}
use Rattle.shared_catalogue.proofs.KnownLaws.{put_up}
use Rattle.shared_catalogue.proofs.Moves.{copies, notes, swaps, answers}
use Rattle.shared_catalogue.proofs.ReceiptLaws.{receipts_next}
use Rattle.shared_catalogue.proofs.RowListLaws.{calls-prefix, calls-push}
use Rattle.shared_catalogue.proofs.seat.Seat.put_up.Goals as goal

pub split_pass-known-requires : goal.split_pass-known-requires
split_pass-known-requires g c = (search rules, (search rules, (c.self.invariant.of_board ∙ sym c.requires.board.0, copies _ _)))

pub join_pass-requires : goal.join_pass-requires
join_pass-requires g c =
    let k = c.split_pass-known.ensures.given in
    let b = c.requires.board in
    (search rules, (search rules, ((b.1 ∙ sym b.0, k.0 ∙ (c.self.invariant.of_board ∙ sym b.1), k.2), notes _ _ _ _)))

pub swap_as-requires : goal.swap_as-requires
swap_as-requires g c =
    let j = c.join_pass.ensures in
    let b = c.requires.board in
    let writes : (cell_view c.join_pass.new.pass).writes ≡ true = ap (λ (v : View). v.writes) j.1 ∙ c.requires.writer in
    let read : row_of_words c.words_of_row-words.result ≡ row_of c.args.catalogue.now = c.words_of_row-words.ensures.read_back ∙ c.status-row.ensures.value in
    let next : (row_of_words c.words_of_row-words.result).journal_length ≡ length (cell_view c.args.pass.now).known.rows = (λ i. (read i).journal_length) ∙ c.requires.next.1 in
    let long : length (cell_view c.args.pass.now).known.rows ≡ length (cell_view c.join_pass.new.pass).known.rows = sym (ap (λ (v : View). length v.known.rows) j.1) in
    (search rules, (search rules, (j.0.0 ∙ (b.1 ∙ sym b.0), swaps g.E.Entering.entry _ _ c.words_of_row-words.result writes (next ∙ long))))

pub split_pass-copy-requires : goal.split_pass-copy-requires
split_pass-copy-requires g c =
    let b = c.requires.board in
    (search rules, (search rules, (c.swap_as.ensures.cell.0 ∙ (c.join_pass.ensures.0.0 ∙ (b.1 ∙ sym b.0)), copies _ _)))

pub join_pass-requires-2 : goal.join_pass-requires-2
join_pass-requires-2 g c =
    let i = c.self.invariant in
    let b = c.requires.board in
    let kept = c.split_pass-known.ensures.kept in
    let given = c.split_pass-copy.ensures.given in
    let reads : (cell_view c.split_pass-known.new.pass).writes ≡ false = ap (λ (v : View). v.writes) kept.1 ∙ i.reads in (
      search rules,
      (
        search rules,
        (
          (kept.0.0 ∙ (i.of_board ∙ sym b.0), given.0 ∙ (c.swap_as.ensures.cell.0 ∙ (c.join_pass.ensures.0.0 ∙ (b.1 ∙ sym (kept.0.0 ∙ i.of_board)))), given.2),
          answers g.E.Entering.entry _ _ _ _ reads,
        ),
      ),
    )

pub invariant_of-self : goal.invariant_of-self
invariant_of-self g c =
    let i = c.self.invariant in
    let station = c.self.inside.station in
    let r = row_of c.args.catalogue.now in
    let e = g.E.Entering.entry in
    let seat = cell_view c.self.inside.pass in
    let writer = cell_view c.args.pass.now in
    let read : row_of_words c.words_of_row-words.result ≡ r = c.words_of_row-words.ensures.read_back ∙ c.status-row.ensures.value in
    let done = put_up e r c.swap_as.result c.words_of_row-words.result seat writer (cell_view c.split_pass-known.new.pass) (cell_view c.split_pass-known.result) (cell_view c.join_pass.new.pass) (cell_view c.swap_as.new.pass) (cell_view c.split_pass-copy.new.pass)
    (cell_view c.split_pass-copy.result) (cell_view c.join_pass-2.new.pass) c.split_pass-known.ensures.kept.1 c.split_pass-known.ensures.given.1 c.join_pass.ensures.1 c.swap_as.ensures.rule c.split_pass-copy.ensures.kept.1
    c.split_pass-copy.ensures.given.1 c.join_pass-2.ensures.1 read in
    let named : e.station ≡ station = sym (ap entry_station c.requires.entry) ∙ (c.requires.own ∙ ap (λ (z : Seated). z.station) (sym c.self.view_is)) in
    let of_station : r.last_station ≡ station = c.requires.own ∙ ap (λ (z : Seated). z.station) (sym c.self.view_is) in
    let some : 0 < length writer.known.rows = subst (λ (n : ℕ). 0 < n) c.requires.next.1 c.requires.next.0 in
    let calls : c.add.new.share.amount ≤ calls_of (writer.known.rows ++ r ∷ []) station =
    omega (arith, c.add.ensures.amount, i.own, calls-prefix seat.known.rows writer.known.rows station done.part.0, calls-push writer.known.rows r station some of_station) in
    let receipts = receipts_next seat.known.entries writer.known.entries e station c.self.inside.share.amount seat.receipts done.part.1 named i.receipts in
    record {
      part = c.add.ensures.parts ∙ i.part;
      counted = i.counted;
      inside = i.inside;
      of_board = c.join_pass-2.ensures.0.0 ∙ (c.split_pass-known.ensures.kept.0.0 ∙ i.of_board);
      reads = ap (λ (v : View). v.writes) done.seat_is ∙ i.reads;
      own = subst (λ (v : View). c.add.new.share.amount ≤ calls_of v.known.rows station) (sym done.seat_is) calls;
      receipts = subst (λ (y : View × ℕ). AreReceiptsIn y.0.known.entries station y.1 y.0.receipts) (λ k. (sym done.seat_is k, sym c.add.ensures.amount k)) receipts;
    }

pub returns : goal.returns
returns g c =
    let b = c.requires.board in
    let r = row_of c.args.catalogue.now in
    let e = g.E.Entering.entry in
    let seat = cell_view c.self.inside.pass in
    let writer = cell_view c.args.pass.now in
    let read : row_of_words c.words_of_row-words.result ≡ r = c.words_of_row-words.ensures.read_back ∙ c.status-row.ensures.value in
    let done = put_up e r c.swap_as.result c.words_of_row-words.result seat writer (cell_view c.split_pass-known.new.pass) (cell_view c.split_pass-known.result) (cell_view c.join_pass.new.pass) (cell_view c.swap_as.new.pass) (cell_view c.split_pass-copy.new.pass)
    (cell_view c.split_pass-copy.result) (cell_view c.join_pass-2.new.pass) c.split_pass-known.ensures.kept.1 c.split_pass-known.ensures.given.1 c.join_pass.ensures.1 c.swap_as.ensures.rule c.split_pass-copy.ensures.kept.1
    c.split_pass-copy.ensures.given.1 c.join_pass-2.ensures.1 read in
    let station = c.self.inside.station in
    record {
      pass = (c.split_pass-copy.ensures.kept.0.0 ∙ (c.swap_as.ensures.cell.0 ∙ (c.join_pass.ensures.0.0 ∙ b.1)), done.writer_is);
      later = subst (λ (z : Seated). IsPrefix z.rows writer.known.rows) c.self.view_is done.part.0;
      seat =
          (λ k. seated station (c.add.ensures.amount k) (done.seat_is k).known.rows (done.seat_is k).receipts (done.seat_is k).loads)
          ∙ ap (λ (z : Seated). seated_after z (writer.known.rows ++ r ∷ []) (receipt_of e)) c.self.view_is;
      total = c.add.ensures.total;
    }
