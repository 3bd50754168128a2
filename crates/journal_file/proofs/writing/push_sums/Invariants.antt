use Rattle.std.proofs.Common.{◌≡◌, ◌++◌, [], drop}
use Rattle.journal_file.specs.WholeText.{sums_and}
use Rattle.journal_file.proofs.writing.push_sums.Given as goal

abbrev pub invariant-loop-sum : goal.invariant-loop-sum
invariant-loop-sum l = l.text.items ++ sums_and l.word (drop l.sum-index l.sums) [] ≡ l.fn.text.items ++ sums_and l.word l.sums []
