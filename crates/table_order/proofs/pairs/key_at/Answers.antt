use Rattle.std.proofs.Common.{ℕ, List, drop, sym, ap, subst, ◌∙◌}
use Rattle.dbf_fields.specs.declared.field.Field.{Field}
use Rattle.dbf_fields.specs.Layout.{cells_of}
use Rattle.dbf_image.specs.Store.{cells_with}
use Rattle.dbf_image.specs.Table.{Row}
use Rattle.key_expr.specs.Keys.{key, AgreeButMemos}
use Rattle.table_order.specs.Laws.RecordKeys.{cells_agree}
use Rattle.table_order.proofs.pairs.key_at.Goals as goal

pub returns-clause-value : goal.returns-clause-value
returns-clause-value c =
    let fields = c.args.records.now.table.schema in
    let own = c.record.ensures.value in
    let bytes : List ℕ = drop 1 c.record.result.now in
    let cells : List (List ℕ) = cells_with fields bytes own.memos in
    let agree : AgreeButMemos c.args.expr.now.fields (cells_of c.args.expr.now.fields bytes) cells = subst (λ (fs : List Field). AgreeButMemos fs (cells_of fs bytes) cells) (sym c.requires.fields) (cells_agree fields bytes own.memos) in
    c.key_of.ensures.row cells agree ∙ ap (λ (r : Row). key r.cells c.args.expr.now.expr) (sym own.is)
