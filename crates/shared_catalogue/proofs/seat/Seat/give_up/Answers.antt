use Rattle.std.proofs.Common.{sym, ap, subst, ◌∙◌, rules}
use Rattle.crossbeam_utils.specs.Seq.{cell_view}
use Rattle.shared_catalogue.specs.declared.board.Known.{Known}
use Rattle.shared_catalogue.specs.declared.board.View.{View}
use Rattle.shared_catalogue.specs.Board.{IsPartOf}
use Rattle.shared_catalogue.specs.Seats.{IsWithin}
use Rattle.shared_catalogue.proofs.Moves.{copies}
use Rattle.shared_catalogue.proofs.ReceiptLaws.{within_of}
use Rattle.shared_catalogue.proofs.seat.Seat.give_up.Goals as goal

pub split_pass-copy-requires : goal.split_pass-copy-requires
split_pass-copy-requires g c = (search rules, (search rules, (c.self.invariant.of_board ∙ sym c.requires.board.0, copies _ _)))

pub returns-clause-within : goal.returns-clause-within
returns-clause-within g c =
    let i = c.self.invariant in
    let own = cell_view c.self.inside.pass in
    let all = (cell_view c.args.pass.now).known in
    let part : IsPartOf own.known all = subst (λ (k : Known). IsPartOf k all) (ap (λ (v : View). v.known) c.split_pass-copy.ensures.given.1) c.compare_known.ensures.part in
    subst (IsWithin all) c.self.view_is (within_of own.known all c.self.inside.station c.self.inside.share.amount own.receipts own.loads part i.own i.receipts)
