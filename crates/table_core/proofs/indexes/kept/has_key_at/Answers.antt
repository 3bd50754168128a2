use Rattle.std.proofs.Common.{◌≡◌, ℕ, List, drop, sym, ap, subst, ◌∙◌}
use Rattle.dbf_fields.specs.declared.field.Field.{Field}
use Rattle.dbf_fields.specs.Layout.{cells_of}
use Rattle.dbf_image.specs.Store.{cells_with}
use Rattle.dbf_image.specs.Table.{Row, row_at}
use Rattle.key_expr.specs.Keys.{key, AgreeButMemos}
use Rattle.table_order.specs.Laws.RecordKeys.{cells_agree}
use Rattle.table_core.proofs.indexes.kept.has_key_at.Goals as goal

pub returns-clause-value : goal.returns-clause-value
returns-clause-value c =
    let fields = c.args.records.now.table.schema in
    let e = c.args.expr.now in
    let own = c.record.ensures.value in
    let bytes : List ℕ = drop 1 c.record.result.now in
    let cells : List (List ℕ) = cells_with fields bytes own.memos in
    let agree : AgreeButMemos e.fields (cells_of e.fields bytes) cells = subst (λ (fs : List Field). AgreeButMemos fs (cells_of fs bytes) cells) (sym c.requires.fields) (cells_agree fields bytes own.memos) in
    let same : key (row_at c.args.records.now.table c.args.number).cells e.expr ≡ key (cells_of e.fields bytes) e.expr = ap (λ (r : Row). key r.cells e.expr) own.is ∙ sym (c.has_key.ensures.row cells agree) in
    let has = c.has_key.ensures.value in (λ h. same ∙ has.0 h, λ k. has.1 (sym same ∙ k))
