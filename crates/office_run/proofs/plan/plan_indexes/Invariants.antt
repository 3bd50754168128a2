use Rattle.std.proofs.Common.{◌≡◌, ◌++◌, take, map}
use Rattle.office_run.specs.Closing.{file_of, index_file}
use Rattle.office_run.proofs.plan.plan_indexes.Given as goal

abbrev pub invariant-loop-index : goal.invariant-loop-index
invariant-loop-index l = map file_of l.planned.items ≡ map file_of l.fn.planned.items ++ map index_file (take l.index-index l.indexes)
