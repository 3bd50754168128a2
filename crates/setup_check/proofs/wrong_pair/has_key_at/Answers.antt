use Rattle.std.proofs.Common.{◌≡◌, ℕ, List, drop, sym, ap, subst, ◌∙◌}
use Rattle.std.proofs.lemmas.Bool.Decides.{same_from_decides}
use Rattle.std.proofs.lemmas.Slice.Eq.{bytes_eq-Decides}
use Rattle.std.specs.Str.{bytes_eq}
use Rattle.dbf_fields.specs.declared.field.Field.{Field}
use Rattle.dbf_fields.specs.Layout.{cells_of}
use Rattle.dbf_image.specs.Store.{cells_with}
use Rattle.dbf_image.specs.Table.{Row, row_at}
use Rattle.key_expr.specs.Keys.{key, AgreeButMemos}
use Rattle.table_order.specs.Laws.RecordKeys.{cells_agree}
use Rattle.setup_check.proofs.wrong_pair.has_key_at.Goals as goal

pub returns : goal.returns
returns c =
    let fields = c.args.records.now.table.schema in
    let e = c.args.expr.now in
    let own = c.record.ensures.value in
    let bytes : List ℕ = drop 1 c.record.result.now in
    let cells : List (List ℕ) = cells_with fields bytes own.memos in
    let agree : AgreeButMemos e.fields (cells_of e.fields bytes) cells = subst (λ (fs : List Field). AgreeButMemos fs (cells_of fs bytes) cells) (sym c.requires.fields) (cells_agree fields bytes own.memos) in
    let same : key (row_at c.args.records.now.table c.args.number).cells e.expr ≡ key (cells_of e.fields bytes) e.expr = ap (λ (r : Row). key r.cells e.expr) own.is ∙ sym (c.has_key.ensures.row cells agree) in
    let has = c.has_key.ensures.value in
    let wanted : List ℕ = key (row_at c.args.records.now.table c.args.number).cells e.expr in
    record {
      value = same_from_decides _ (bytes_eq c.args.bytes.now wanted) (λ h. sym (same ∙ has.0 h), λ k. has.1 (sym same ∙ sym k)) (bytes_eq-Decides c.args.bytes.now wanted);
    }
