use Rattle.std.proofs.Common.{sym, ap, subst}
use Rattle.std.specs.List.{AllByRecursion}
use Rattle.dbf_image.specs.Table.{Table, with_cell}
use Rattle.ndx_index.specs.Laws.Lists.{all_weaker}
use Rattle.table_core.specs.Content.{Held}
use Rattle.table_core.specs.Indexes.{Follows}
use Rattle.table_core.specs.Planned.{IsMemoOf}
use Rattle.table_core.proofs.Follows.{follows_memo}
use Rattle.table_core.proofs.table.Table.set_memo.Goals as goal

pub invariant_of-self : goal.invariant_of-self
invariant_of-self c =
    let t = c.self.inside.records.table in
    let items = c.self.inside.indexes.items in
    let target = c.args.target in
    let text = c.args.text.now in
    let memo = subst (λ (u : Table). IsMemoOf u target text) (sym (ap (λ (h : Held). h.content.table) c.self.view_is)) c.requires.memo in
    subst (λ (u : Table). AllByRecursion (Follows u) items) (sym c.set_memo.ensures.value)
    (all_weaker (Follows t) (Follows (with_cell t target.number target.field text)) (follows_memo t target.number target.field text memo.target_is.record_is.one memo.target_is.record_is.inside memo.kind) items c.self.invariant)
