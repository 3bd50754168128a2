use Rattle.std.proofs.Common.{◌≡◌, map}
use Rattle.catalogue_core.proofs.state.opening.collect_tables.Given as goal

abbrev pub invariant-loop-table : goal.invariant-loop-table
invariant-loop-table l = map (λ t. t.content) l.tables.items ≡ map (λ t. t.table.content) l.yielded
