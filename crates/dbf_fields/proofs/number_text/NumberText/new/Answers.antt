use Rattle.std.proofs.Common.{ap, ◌∙◌, arith}
use Rattle.std.specs.Int.{w128}
use Rattle.std.specs.Int.RustNames.{unsigned_abs}
use Rattle.std.proofs.lemmas.Grind.{common_steps}
use Rattle.std.proofs.lemmas.Int.{to_z-of_z}
use Rattle.dbf_fields.specs.NumberText.{number_text}
use Rattle.dbf_fields.proofs.WrittenDigits.{kept_is}
use Rattle.dbf_fields.proofs.number_text.NumberText.new.Goals as goal

pub returns : goal.returns
unfolding number_text
returns c =
    let z = to_z-of_z w128 c.args.digits c.ranges.digits in
    let m = c.unsigned_abs.ensures.value ∙ ap unsigned_abs z in
    let kept = kept_is c.args.scale (unsigned_abs c.args.digits) c.args.decimals (omega (arith, c.ranges.scale.fits)) (omega (arith, c.ranges.decimals.fits)) in
    record { value = grind (arith, common_steps, z, m, kept) }
