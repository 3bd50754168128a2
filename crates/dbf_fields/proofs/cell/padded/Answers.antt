use Rattle.std.proofs.Common.{◌-◌, refl, arith}
use Rattle.std.proofs.lemmas.Grind.{common_steps}
use Rattle.dbf_fields.proofs.CellLaws.{filled_up}
use Rattle.dbf_fields.proofs.cell.padded.Goals as goal

pub returns : goal.returns
returns c =
    let filled = filled_up c.args.width c.min-kept.result (c.args.width - c.min-kept.result) c.args.width c.args.text.now c.min-kept.ensures refl (omega arith) in
    record { value = grind (arith, common_steps, filled) }
