use Rattle.std.proofs.Common.{◌≡◌, true, ap, ◌∙◌, rules}
use Rattle.crossbeam_utils.specs.Seq.{cell_view}
use Rattle.shared_catalogue.specs.declared.board.View.{View}
use Rattle.shared_catalogue.proofs.Moves.{notes, writer_loads}
use Rattle.shared_catalogue.proofs.board.compare_known.Goals as goal

pub join_pass-requires : goal.join_pass-requires
join_pass-requires g c = (search rules, (search rules, ((c.requires.board.0, c.requires.board.1, c.requires.copy), notes _ _ _ _)))

pub load_as-requires : goal.load_as-requires
load_as-requires g c =
    let j = c.join_pass.ensures in
    let writes : (cell_view c.join_pass.new.pass).writes ≡ true = ap (λ (v : View). v.writes) j.1 ∙ c.requires.writer in
    (search rules, (search rules, (j.0.0 ∙ c.requires.board.0, writer_loads _ _ writes)))
