use Rattle.std.proofs.Common.{◌≡◌, take, map}
use Rattle.std.specs.List.{AllByRecursion}
use Rattle.journal_file.specs.WholeText.{IsSum}
use Rattle.office_run.specs.FileSums.{sum_of_named}
use Rattle.office_run.proofs.sums.sums_of_files.Given as goal

abbrev pub invariant-loop-index : goal.invariant-loop-index
invariant-loop-index l = (l.sums.items ≡ map sum_of_named (take l.index l.files)) × AllByRecursion IsSum l.sums.items
