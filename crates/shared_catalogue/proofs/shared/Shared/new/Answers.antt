use Rattle.std.proofs.Common.{sym, ◌∙◌, rules}
use Rattle.shared_catalogue.proofs.Moves.{copies}
use Rattle.shared_catalogue.proofs.shared.Shared.new.Goals as goal

pub split_pass-copy-requires : goal.split_pass-copy-requires
split_pass-copy-requires g c = (search rules, (search rules, (c.loop-index.invariant.table ∙ (sym c.requires.board ∙ sym c.open-board.ensures.board), copies _ _)))
