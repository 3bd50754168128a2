use Rattle.std.proofs.Common.{◌≤◌, sym, subst, ◌∙◌, arith, rules}
use Rattle.crossbeam_utils.specs.Seq.{cell_view}
use Rattle.shared_catalogue.specs.Seats.{AreReceiptsIn}
use Rattle.shared_catalogue.specs.StatusRows.{calls_of}
use Rattle.shared_catalogue.proofs.Moves.{loads}
use Rattle.shared_catalogue.proofs.ReceiptLaws.{receipts_more}
use Rattle.shared_catalogue.proofs.RowListLaws.{calls-prefix}
use Rattle.shared_catalogue.proofs.seat.Seat.load.Goals as goal

pub load_as-words-requires : goal.load_as-words-requires
load_as-words-requires g c = (search rules, (search rules, (c.self.invariant.of_board ∙ sym c.requires.board, loads _ _ c.self.invariant.reads)))

pub invariant_of-self : goal.invariant_of-self
invariant_of-self g c =
    let k = c.self.invariant in
    let l = c.load_as-words.ensures in
    let station = c.self.inside.station in
    let share = c.self.inside.share.amount in
    let old = cell_view c.self.inside.pass in
    let new = cell_view c.load_as-words.new.pass in
    let counted : share ≤ calls_of new.known.rows station = omega (arith, k.own, calls-prefix old.known.rows new.known.rows station l.rule.later.0) in
    record {
      part = k.part;
      counted = k.counted;
      inside = k.inside;
      of_board = l.cell.0 ∙ k.of_board;
      reads = l.rule.reads;
      own = counted;
      receipts = subst (AreReceiptsIn new.known.entries station share) (sym l.rule.receipts) (receipts_more old.known.entries new.known.entries station share old.receipts l.rule.later.1 k.receipts);
    }

pub returns-clause-own : goal.returns-clause-own
returns-clause-own g c =
    let k = c.self.invariant in
    let l = c.load_as-words.ensures in
    let old = (cell_view c.self.inside.pass).known.rows in
    let new = (cell_view c.load_as-words.new.pass).known.rows in
    omega (arith, k.own, calls-prefix old new c.self.inside.station l.rule.later.0)
