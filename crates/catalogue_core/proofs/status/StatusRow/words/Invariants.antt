use Rattle.std.proofs.Common.{◌≡◌, ◌*◌, ◌-◌, ◌∷◌, ◌++◌, take, replicate}
use Rattle.catalogue_core.specs.Status.{words_of}
use Rattle.catalogue_core.proofs.status.StatusRow.words.Given as goal

abbrev pub invariant-loop-index : goal.invariant-loop-index
invariant-loop-index l =
    l.words ≡ (l.self.journal_length ∷ l.self.last_station ∷ l.self.last_answer ∷ words_of (take l.index l.self.tables)) ++ replicate (20 - 2 * l.index) 0
