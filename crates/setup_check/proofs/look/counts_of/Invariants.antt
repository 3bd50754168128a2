use Rattle.std.proofs.Common.{◌≡◌, ◌≤◌, take}
use Rattle.std.specs.List.{count_by}
use Rattle.setup_check.proofs.look.counts_of.Given as goal

abbrev pub invariant-loop-earlier : goal.invariant-loop-earlier
invariant-loop-earlier l = record {
  marked : l.marked ≡ count_by (λ row. row.deleted) (take l.earlier l.table.table.rows);
  few : l.marked ≤ l.earlier;
}
