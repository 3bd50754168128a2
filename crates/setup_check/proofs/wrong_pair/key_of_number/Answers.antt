use Rattle.std.proofs.Common.{◌≡◌, ℕ, Bool, true, cond, List, drop, Some, None, sym, ap, subst, ◌∙◌}
use Rattle.dbf_fields.specs.declared.field.Field.{Field}
use Rattle.dbf_fields.specs.Layout.{cells_of}
use Rattle.dbf_image.specs.Store.{cells_with}
use Rattle.dbf_image.specs.Table.{Row, row_at}
use Rattle.key_expr.specs.Keys.{key, AgreeButMemos}
use Rattle.table_order.specs.Laws.RecordKeys.{cells_agree}
use Rattle.setup_check.specs.WrongPair.{has_record}
use Rattle.setup_check.proofs.wrong_pair.key_of_number.Goals as goal

pub returns : goal.returns
returns c =
    let fields = c.args.records.now.table.schema in
    let e = c.args.expr.now in
    let own = c.record.ensures.value in
    let bytes : List ℕ = drop 1 c.record.result.now in
    let cells : List (List ℕ) = cells_with fields bytes own.memos in
    let agree : AgreeButMemos e.fields (cells_of e.fields bytes) cells = subst (λ (fs : List Field). AgreeButMemos fs (cells_of fs bytes) cells) (sym c.requires.fields) (cells_agree fields bytes own.memos) in
    let wanted : List ℕ = key (row_at c.args.records.now.table c.args.number).cells e.expr in
    let same : c.key_of.result ≡ wanted = c.key_of.ensures.row cells agree ∙ sym (ap (λ (r : Row). key r.cells e.expr) own.is) in
    let there : has_record c.args.records.now.table c.args.number ≡ true = sym c.has_record.ensures.value ∙ c.if-not-has_record.false in
    record { value = ap (λ (k : List ℕ). Some k) same ∙ sym (ap (λ (b : Bool). cond b (Some wanted) None) there) }
