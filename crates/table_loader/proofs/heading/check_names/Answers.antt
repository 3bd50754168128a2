use Rattle.std.proofs.Common.{sym, ◌∙◌}
use Rattle.table_loader.proofs.HeadingLaws.{name_passes}
use Rattle.table_loader.proofs.heading.check_names.Goals as goal

pub loop-column-preserved : goal.loop-column-preserved
loop-column-preserved c =
    let known = sym c.is_known.ensures.value ∙ c.if-not-is_known.false in
    let new = sym c.is_earlier.ensures.value ∙ c.if-is_earlier.false in
    name_passes c.args.fields.now c.args.names.now c.loop-column.column c.index-names-column.result c.loop-column-test.true (sym c.index-names-column.is) known new
    ∙ c.loop-column.invariant
