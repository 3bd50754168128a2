use Rattle.std.proofs.Common.{◌≡◌, ◌∙◌, List, [], ◌∷◌, sym, subst}
use Rattle.std.specs.Prelude.{Result, Ok, Err, IfErr, IsErrAnd}
use Rattle.dbf_fields.specs.declared.field.Field.{Field}
use Rattle.folders.specs.declared.named.NamedFile.{NamedFile}
use Rattle.key_expr.specs.Rules.{IsKeyText}
use Rattle.table_order.specs.TableOrder.{order}
use Rattle.table_maker.specs.MadeIndex.{index_file, IsBadKey, IsMadeIndex}
use Rattle.table_maker.proofs.IndexLaws.{index_why, index_write_failure, key_failure}
use Rattle.table_maker.proofs.LoadLaws.{listed_as}
use Rattle.table_maker.proofs.index_job.IndexJobWork.work.Goals as goal

err_exit : {T E : Type 0} {fault : E} (r : Result T E) (P : E → Type 0) → IsErrAnd r (λ e. e ≡ fault) → P fault → IfErr r P
err_exit (Ok x) P is h = tt
err_exit (Err e) P is h = subst P (sym is) h

pub returns-in_err-table-clause-fault : goal.returns-in_err-table-clause-fault
returns-in_err-table-clause-fault g c =
    err_exit _ _ c.from_residual.ensures.1
    (index_why (g.S.Source.files c.args.source.now) (g.S.Source.failures c.args.source.now) (g.S.Source.failures c.load_records.new.source) c.args.self.now _
    (record { why = record { early = c.in_err-table.ensures.early; why = c.in_err-table.ensures.fault }; count = c.in_err-table.ensures.count }))

pub returns-in_err-table-clause-failure : goal.returns-in_err-table-clause-failure
returns-in_err-table-clause-failure g c =
    err_exit _ _ c.from_residual.ensures.1
    (record { why = record { early = c.in_err-table.ensures.early; why = c.in_err-table.ensures.fault }; count = c.in_err-table.ensures.count })

pub returns-in_err-key-clause-fault : goal.returns-in_err-key-clause-fault
returns-in_err-key-clause-fault g c =
    err_exit _ _ c.from_residual-in_err-key.ensures.1
    (index_why (g.S.Source.files c.args.source.now) (g.S.Source.failures c.args.source.now) (g.S.Source.failures c.load_records.new.source) c.args.self.now _
    (key_failure _ _ _ c.args.self.now c.in_ok-table.table _ c.in_ok-table.ensures.readable c.in_ok-table.ensures.table c.in_ok-table.ensures.no_failure
    (subst (λ (fields : List Field). IsBadKey c.args.self.now fields c.in_err-key.field-0.0) c.schema.ensures.value c.in_err-key.ensures.bad)))

pub returns-in_err-key-clause-failure : goal.returns-in_err-key-clause-failure
returns-in_err-key-clause-failure g c =
    err_exit _ _ c.from_residual-in_err-key.ensures.1
    (key_failure _ _ _ c.args.self.now c.in_ok-table.table _ c.in_ok-table.ensures.readable c.in_ok-table.ensures.table c.in_ok-table.ensures.no_failure
    (subst (λ (fields : List Field). IsBadKey c.args.self.now fields c.in_err-key.field-0.0) c.schema.ensures.value c.in_err-key.ensures.bad))

pub returns-in_err-write_index-clause-fault : goal.returns-in_err-write_index-clause-fault
returns-in_err-write_index-clause-fault g c =
    err_exit _ _ c.from_residual-in_err-write_index.ensures.1
    (index_why (g.S.Source.files c.args.source.now) (g.S.Source.failures c.args.source.now) (g.S.Source.failures c.load_records.new.source) c.args.self.now _
    (index_write_failure _ _ _ c.args.self.now _ c.in_ok-table.ensures.readable c.in_ok-table.ensures.no_failure))

pub returns-in_err-write_index-clause-failure : goal.returns-in_err-write_index-clause-failure
returns-in_err-write_index-clause-failure g c =
    err_exit _ _ c.from_residual-in_err-write_index.ensures.1
    (index_write_failure _ _ _ c.args.self.now _ c.in_ok-table.ensures.readable c.in_ok-table.ensures.no_failure)

pub returns-clause-done : goal.returns-clause-done
returns-clause-done g c =
    listed_as (λ (made : List NamedFile). made ≡ index_file c.args.self.now.name.now c.in_ok-key.key (order c.in_ok-table.table c.in_ok-key.key.expr) ∷ [])
    (IsMadeIndex (g.S.Source.files c.args.source.now) c.args.self.now) _ _
    (λ files is. record {
      table = c.in_ok-table.table;
      key = c.in_ok-key.key;
      table_files = c.in_ok-table.ensures.table;
      text = c.in_ok-key.ensures.text;
      fields = c.in_ok-key.ensures.fields ∙ c.schema.ensures.value;
      says = subst (λ (fields : List Field). IsKeyText fields c.args.self.now.expression.now c.in_ok-key.key.expr) c.schema.ensures.value
          c.in_ok-key.ensures.says;
      file = is;
      reads_back = c.in_ok-write_index.ensures.reads_back;
    })
    c.in_ok-write_index.ensures.written
