use Rattle.std.proofs.Common.{◌≡◌, ◌+◌, ◌++◌, take, drop, map, None}
use Rattle.office_run.specs.Closing.{file_of, tables_files, first_blocked}
use Rattle.office_run.proofs.plan.plan_tables.Given as goal

abbrev pub invariant-loop-closed : goal.invariant-loop-closed
invariant-loop-closed l = record {
  files : map file_of l.planned.items ≡ map file_of l.fn.planned.items ++ tables_files l.day.year l.day.month l.day.day (take l.closed-index l.tables);
  blocks_fit : first_blocked (l.closed-index + 1) (drop l.closed-index l.tables) ≡ None;
}
