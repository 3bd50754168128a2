use Rattle.std.proofs.Common.{◌≡◌, ◌≤◌, length, take, arith, length-take-le, length-set, ap, ◌∙◌}
use Rattle.key_expr.specs.KeyBytes.{HasZerosAfter, key_bytes}
use Rattle.key_expr.proofs.KeyPadding.{zeros_after_push}
use Rattle.key_expr.proofs.key.Key.push.Goals as goal

pub invariant_of-self : goal.invariant_of-self
invariant_of-self c =
    let zeros : HasZerosAfter c.self.inside = c.self.invariant in
    let within : c.self.inside.len ≤ length c.self.inside.bytes = omega (arith, zeros.0, zeros.1) in
    let long : length (take c.self.inside.len c.self.inside.bytes) ≡ c.self.inside.len = length-take-le c.self.inside.len c.self.inside.bytes within in
    let seen : key_bytes c.self.inside ≡ c.args.self.now = c.self.view_is in
    let same : length (take c.self.inside.len c.self.inside.bytes) ≡ length c.args.self.now = ap length seen in (
      omega (arith, c.requires.room, long, same),
      length-set c.self.inside.bytes c.self.inside.len c.args.byte ∙ zeros.1,
      zeros_after_push c.self.inside.bytes c.self.inside.len c.args.byte zeros.2,
    )
