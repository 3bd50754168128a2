use Rattle.std.proofs.Common.{List, sym, ap, ◌∙◌}
use Rattle.std.proofs.lemmas.Result.{on_ok_weaker}
use Rattle.table_core.specs.Content.{Held, Indexed}
use Rattle.table_core.proofs.Follows.{follow_seen, indexed_seen, all_room}
use Rattle.table_core.proofs.table.Table.reserve_pairs.Goals as goal

pub invariant_of-self : goal.invariant_of-self
invariant_of-self c = follow_seen c.self.inside.records.table c.self.inside.indexes.items c.reserve_all.new.indexes.items (sym c.reserve_all.ensures.same) c.self.invariant

pub returns-clause-same : goal.returns-clause-same
returns-clause-same c =
    ap (λ (indexes : List Indexed). record { table = c.self.inside.records.table; indexes = indexes }) (indexed_seen c.reserve_all.new.indexes.items c.self.inside.indexes.items c.reserve_all.ensures.same)
    ∙ ap (λ (h : Held). h.content) c.self.view_is

pub returns-clause-ok : goal.returns-clause-ok
returns-clause-ok c = on_ok_weaker c.reserve_all.result (λ all. all_room c.reserve_all.new.indexes.items all) c.reserve_all.ensures.ok
