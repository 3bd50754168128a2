use Rattle.std.proofs.Common.{refl, w8, w16, arith}
use Rattle.std.proofs.lemmas.Int.{to_z_pos, ints}
use Rattle.dbf_fields.proofs.day.day_of.Goals as goal

pub invariant_of-result : goal.invariant_of-result
invariant_of-result c =
    let y = to_z_pos w16 c.args.year (omega arith) in
    let m = to_z_pos w8 c.args.month (omega arith) in
    let d = to_z_pos w8 c.args.day (omega arith) in
    let h = rw (y, m, d) at (c.in-Ok.ensures.succeeds.0 refl) in
    record {
      real = record {
        year_in = (omega arith, omega (arith, ints, h.0.1));
        month_in = (omega (arith, ints, h.1.0), omega (arith, ints, h.1.1));
        day_in = (omega (arith, ints, h.2.0), omega (arith, ints, h.2.1));
      };
    }
