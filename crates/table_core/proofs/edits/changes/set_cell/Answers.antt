use Rattle.std.proofs.Common.{subst, sym}
use Rattle.dbf_image.specs.Table.{Table, with_cell}
use Rattle.std.specs.List.{AllByRecursion}
use Rattle.table_core.specs.Indexes.{FollowsAside}
use Rattle.table_core.proofs.Follows.{aside_cell}
use Rattle.ndx_index.specs.Laws.Lists.{all_weaker}
use Rattle.table_core.proofs.edits.changes.set_cell.Goals as goal

pub put_in_named-requires-clause-aside : goal.put_in_named-requires-clause-aside
put_in_named-requires-clause-aside c =
    let t = c.args.records.now.table in
    let target = c.args.target in
    let own = c.requires.cell.target_is.record_is in
    let cell = c.args.cell.now in
    let items = c.take_out_named.new.indexes.items in
    subst (λ (u : Table). AllByRecursion (FollowsAside target u) items) (sym c.set_cell.ensures.value)
    (all_weaker (FollowsAside target t) (FollowsAside target (with_cell t target.number target.field cell)) (aside_cell t target cell own.one own.inside) items c.take_out_named.ensures.aside)
