use Rattle.std.proofs.Common.{◌≡◌, ◌≤◌, ◌++◌, ◌-◌, ℕ, List, length, drop, replicate, ap, ◌∙◌, arith, length-append}
use Rattle.std.proofs.lemmas.List.{length-drop, length-replicate, drop-replicate}
use Rattle.std.proofs.lemmas.Slice.{drop-append-drop}
use Rattle.key_expr.specs.declared.format.TheConstants.{MAX_KEY_BYTES}
use Rattle.key_expr.proofs.key.Key.new.Goals as goal

-- what is copied over the first of the zeros has zeros after it
zeros_after : (copied : List ℕ) (len : ℕ) → length copied ≡ len → len ≤ MAX_KEY_BYTES
    → (length (copied ++ drop len (replicate MAX_KEY_BYTES 0)) ≡ MAX_KEY_BYTES) × (drop len (copied ++ drop len (replicate MAX_KEY_BYTES 0)) ≡ replicate (MAX_KEY_BYTES - len) 0)
zeros_after copied len same short =
    let zeros : List ℕ = replicate MAX_KEY_BYTES 0 in
    let blank : ℕ = 0 in (
      omega (arith, same, length-append copied (drop len zeros), length-drop len zeros, length-replicate MAX_KEY_BYTES blank),
      drop-append-drop len zeros copied len (omega arith) same ∙ drop-replicate len MAX_KEY_BYTES blank,
    )

pub invariant_of-result : goal.invariant_of-result
invariant_of-result c =
    let zeros = zeros_after c.copy_from_slice.new.self (length c.args.bytes.now) (ap length c.copy_from_slice.ensures.after) c.requires.short in
    (c.requires.short, zeros.0, zeros.1)
