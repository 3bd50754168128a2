use Rattle.std.proofs.Common.{◌++◌, ◌∷◌, [], ◌∙◌, ℕ, List, ap}
use Rattle.live_program.specs.NumberLists.{lists_in}
use Rattle.live_program.proofs.NumberListLaws.{one_more_read}
use Rattle.live_program.proofs.number_lists.NumberLists.push.Goals as goal

pub returns : goal.returns
returns g c =
    let numbers : List ℕ = g.X.Numbered.numbered c.args.pushed.now in
    record { value = ap lists_in c.of-listed.ensures ∙ (one_more_read c.self.inside.listed.numbers numbers ∙ ap (λ (lists : List (List ℕ)). lists ++ numbers ∷ []) c.self.view_is) }
