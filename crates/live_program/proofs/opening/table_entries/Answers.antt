use Rattle.std.proofs.Common.{◌≡◌, ◌∷◌, length, arith, rules}
use Rattle.std.specs.Vec.Iter.{into_iter_items}
use Rattle.live_program.proofs.OpeningLaws.{all_sorted, none_sorted, sorted_more}
use Rattle.live_program.proofs.opening.table_entries.Goals as goal

pub loop-entry-init : goal.loop-entry-init
loop-entry-init c =
    let items : into_iter_items c.into_iter-entry-iterator.result ≡ c.args.entries.items = search rules in
    rw (items, c.new-tables.ensures.items) (none_sorted c.args.entries.items)

pub loop-entry-preserved : goal.loop-entry-preserved
loop-entry-preserved c =
    let items : into_iter_items c.loop-entry.entry-iterator ≡ c.in-Some.entry ∷ into_iter_items c.next.new.self = search rules in
    rw c.in_ok-keep_table.ensures.kept (sorted_more c.args.entries.items c.loop-entry.tables.items (into_iter_items c.next.new.self) c.in-Some.entry c.requires.tables_first (rw items at c.loop-entry.invariant))

pub returns-clause-value : goal.returns-clause-value
returns-clause-value c =
    let it = c.loop-entry.entry-iterator in
    let none : length (into_iter_items it) ≡ 0 = omega (arith, c.in-None.ensures.steps.0, it.rest.ok.0) in
    all_sorted c.args.entries.items c.loop-entry.tables.items (into_iter_items it) none c.loop-entry.invariant
