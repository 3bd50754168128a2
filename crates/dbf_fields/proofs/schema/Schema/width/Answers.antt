use Rattle.std.proofs.Common.{◌≡◌, ◌<◌, length, ap, sym, ◌∙◌, arith}
use Rattle.dbf_fields.specs.declared.field.Field.{Field}
use Rattle.dbf_fields.specs.Layout.{width_of}
use Rattle.dbf_fields.proofs.SchemaLaws.{schema_narrow}
use Rattle.dbf_fields.proofs.LayoutLaws.{width_at}
use Rattle.dbf_fields.proofs.schema.Schema.width.Goals as goal

pub returns-clause-bounded : goal.returns-clause-bounded
returns-clause-bounded c =
    let fields = c.self.inside.fields.items in
    let index : c.args.index < length fields = rw (← c.self.view_is) at c.requires.inside in
    let field = c.index.result.now in
    let width : c.from.result ≡ width_of fields c.args.index = c.from.ensures ∙ ap (λ (f : Field). f.width) c.index.ensures ∙ sym (width_at fields c.args.index field index) in
    omega (arith, width, schema_narrow fields c.args.index c.self.invariant.schema)
