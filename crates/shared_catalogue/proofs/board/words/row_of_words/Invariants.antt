use Rattle.std.proofs.Common.{◌≡◌, ◌-◌, ◌++◌, map, replicate}
use Rattle.ndx_index.specs.Places.{counted}
use Rattle.shared_catalogue.specs.RowWords.{status_in}
use Rattle.shared_catalogue.specs.StatusRows.{free_status}
use Rattle.shared_catalogue.proofs.board.words.row_of_words.Given as goal

abbrev pub invariant-loop-index : goal.invariant-loop-index
invariant-loop-index l = l.tables ≡ map (status_in l.words) (counted 1 l.index) ++ replicate (10 - l.index) free_status
