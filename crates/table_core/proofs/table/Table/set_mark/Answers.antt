use Rattle.std.proofs.Common.{sym, ap, subst}
use Rattle.std.specs.List.{AllByRecursion}
use Rattle.dbf_image.specs.Table.{Table, with_mark}
use Rattle.ndx_index.specs.Laws.Lists.{all_weaker}
use Rattle.table_core.specs.Content.{Held}
use Rattle.table_core.specs.Indexes.{Follows}
use Rattle.table_core.specs.Planned.{IsRecordOf}
use Rattle.table_core.proofs.Follows.{follows_mark}
use Rattle.table_core.proofs.table.Table.set_mark.Goals as goal

pub invariant_of-self : goal.invariant_of-self
invariant_of-self c =
    let t = c.self.inside.records.table in
    let items = c.self.inside.indexes.items in
    let own = subst (λ (u : Table). IsRecordOf u c.args.number) (sym (ap (λ (h : Held). h.content.table) c.self.view_is)) c.requires.record_is in
    subst (λ (u : Table). AllByRecursion (Follows u) items) (sym c.set_deleted.ensures.value)
    (all_weaker (Follows t) (Follows (with_mark t c.args.number c.args.deleted)) (follows_mark t c.args.number c.args.deleted own.one own.inside) items c.self.invariant)
