use Rattle.std.proofs.Common.{◌≡◌, ◌+◌, ◌-◌, sym, arith}
use Rattle.dbf_fields.specs.Layout.{width_of}
use Rattle.dbf_fields.proofs.LayoutLaws.{cell_from}
use Rattle.dbf_fields.proofs.schema.Schema.cell_in.Goals as goal

pub returns-clause-value : goal.returns-clause-value
returns-clause-value c =
    let width : c.offset-start.result + c.width.result - c.offset-start.result ≡ width_of c.args.self.now c.args.index = omega (arith, c.width.ensures.value) in
    rw (width, c.offset-start.ensures.value) (sym (cell_from c.args.self.now 1 c.args.index c.args.record_bytes.now c.requires.inside))
