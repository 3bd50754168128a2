use Rattle.std.proofs.Common.{ap, ◌∙◌}
use Rattle.std.specs.Int.{w128}
use Rattle.std.specs.Int.RustNames.{unsigned_abs}
use Rattle.std.proofs.lemmas.Int.{to_z-of_z}
use Rattle.dbf_fields.proofs.WrittenDigits.{cut_is}
use Rattle.dbf_fields.proofs.number_text.is_exact.Goals as goal

pub returns : goal.returns
returns c =
    let m = c.unsigned_abs.ensures.value ∙ ap unsigned_abs (to_z-of_z w128 c.args.digits c.ranges.digits) in
    let cut = rw (c.from.ensures, c.split_off.ensures.digits, m) at c.split_at.ensures.back in
    record { value = c.are_zeros.ensures.value ∙ rw cut (cut_is c.args.digits c.args.scale c.args.decimals) }
