use Rattle.std.proofs.Common.{◌≡◌, take}
use Rattle.catalogue_core.proofs.plan.areas.records_of.Given as goal

abbrev pub invariant-loop-number : goal.invariant-loop-number
invariant-loop-number l = l.records.items ≡ take l.number-index l.numbers
