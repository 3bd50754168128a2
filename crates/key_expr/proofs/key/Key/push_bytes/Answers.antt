use Rattle.std.proofs.Common.{◌≡◌, ◌+◌, ◌-◌, ◌≤◌, ℕ, length, take, arith, length-take-le, ap}
use Rattle.key_expr.specs.KeyBytes.{HasZerosAfter, key_bytes}
use Rattle.key_expr.specs.declared.format.TheConstants.{MAX_KEY_BYTES}
use Rattle.key_expr.proofs.KeyPadding.{zeros_after_copy}
use Rattle.key_expr.proofs.key.Key.push_bytes.Goals as goal

pub invariant_of-self : goal.invariant_of-self
invariant_of-self c =
    let zeros : HasZerosAfter c.self.inside = c.self.invariant in
    let len : ℕ = c.self.inside.len in
    let n : ℕ = length c.args.bytes.now in
    let within : len ≤ length c.self.inside.bytes = omega (arith, zeros.0, zeros.1) in
    let long : length (take len c.self.inside.bytes) ≡ len = length-take-le len c.self.inside.bytes within in
    let seen : key_bytes c.self.inside ≡ c.args.self.now = c.self.view_is in
    let same : length (take len c.self.inside.bytes) ≡ length c.args.self.now = ap length seen in
    let short : len + n ≤ MAX_KEY_BYTES = omega (arith, c.requires.room, long, same) in
    let width : len + n - len ≡ n = omega arith in
    let copied = zeros_after_copy c.self.inside.bytes c.copy_from_slice.new.self len n zeros.1 (ap length c.copy_from_slice.ensures.after) short zeros.2 in
    rw width (short, copied.0, copied.1)
