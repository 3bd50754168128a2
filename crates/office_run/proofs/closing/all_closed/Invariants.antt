use Rattle.std.proofs.Common.{◌≡◌, map}
use Rattle.std.specs.List.{AllByRecursion}
use Rattle.table_core.specs.Parts.{handed}
use Rattle.office_run.specs.HandedOver.{closed_with, WasReadFor}
use Rattle.office_run.proofs.closing.all_closed.Given as goal

abbrev pub invariant-loop-parts : goal.invariant-loop-parts
invariant-loop-parts l = record {
  made : l.closed.items ≡ map closed_with (map handed l.yielded);
  read : AllByRecursion (WasReadFor l.fn.content.schema) (map handed l.yielded);
}
