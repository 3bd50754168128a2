use Rattle.std.proofs.Common.{List, ℕ, ◌++◌, ap, ◌∙◌, sym}
use Rattle.dbf_fields.specs.declared.field.Field.{Field}
use Rattle.dbf_image.specs.Table.{has_memos}
use Rattle.table_maker.proofs.MakeLaws.{one_listed, two_listed}
use Rattle.table_maker.proofs.files.write_files.Goals as goal

pub returns-then-has_memos-clause-written : goal.returns-then-has_memos-clause-written
returns-then-has_memos-clause-written g c =
    two_listed c.args.stem.now c.args.in_capitals c.args.day c.args.table.now _ _ _ _ _
    (c.as_slice.ensures.value ∙ (c.in_ok-dbf.ensures.value ∙ ap (λ (e : List ℕ). c.args.stem.now ++ e) c.table_extension.ensures.value))
    (c.as_slice-then-has_memos.ensures.value ∙ (c.in_ok-dbt.ensures.value ∙ ap (λ (e : List ℕ). c.args.stem.now ++ e) c.memos_extension.ensures.value))
    (ap (λ (fs : List Field). has_memos fs) (sym (c.fields.ensures.fields ∙ c.schema.ensures.value)) ∙ (sym c.any_memo-has_memos.ensures.value ∙ c.if-has_memos.true))
    c.in_ok-write_table.ensures.wrote c.in_ok-write_table.ensures.bytes c.in_ok-write_memos.ensures.wrote c.in_ok-write_memos.ensures.bytes

pub returns-clause-written : goal.returns-clause-written
returns-clause-written g c =
    one_listed c.args.stem.now c.args.in_capitals c.args.day c.args.table.now _ _ _
    (c.as_slice.ensures.value ∙ (c.in_ok-dbf.ensures.value ∙ ap (λ (e : List ℕ). c.args.stem.now ++ e) c.table_extension.ensures.value))
    (ap (λ (fs : List Field). has_memos fs) (sym (c.fields.ensures.fields ∙ c.schema.ensures.value)) ∙ (sym c.any_memo-has_memos.ensures.value ∙ c.if-has_memos.false))
    c.in_ok-write_table.ensures.wrote c.in_ok-write_table.ensures.bytes
