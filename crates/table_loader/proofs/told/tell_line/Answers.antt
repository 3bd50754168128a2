use Rattle.std.proofs.Common.{◌≡◌, true, sym, subst}
use Rattle.dbf_fields.specs.declared.field.Field.{Field}
use Rattle.dbf_fields.specs.Field.{has_width}
use Rattle.table_loader.proofs.RowLaws.{wide_field}
use Rattle.table_loader.proofs.told.tell_line.Goals as goal

pub is_refused-requires : goal.is_refused-requires
is_refused-requires c =
    let fields = c.args.fields.now in
    let wide = wide_field fields c.loop-index.index c.index-fields-index.result c.requires.schema c.loop-index-test.true in
    record { width = subst (λ (f : Field). has_width f ≡ true) (sym c.index-fields-index.is) wide }
