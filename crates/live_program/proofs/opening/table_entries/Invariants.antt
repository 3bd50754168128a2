use Rattle.std.specs.Vec.Iter.{into_iter_items}
use Rattle.live_program.proofs.OpeningLaws.{AreSorted}
use Rattle.live_program.proofs.opening.table_entries.Given as goal

abbrev pub invariant-loop-entry : goal.invariant-loop-entry
invariant-loop-entry l = AreSorted l.fn.entries.items l.tables.items (into_iter_items l.entry-iterator)
