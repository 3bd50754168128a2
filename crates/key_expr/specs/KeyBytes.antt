-- How a key keeps its bytes.
use Rattle.std.specs.Prelude.{◌≡◌, ℕ, ◌-◌, ◌≤◌, List, ◌++◌, length, take, drop, replicate}
use Rattle.std.proofs.Common.{arith, ◌∙◌, ap, sym, length-take-le, take-append-drop}
use Rattle.key_expr.specs.declared.format.TheConstants.{MAX_KEY_BYTES}
use Rattle.key_expr.specs.declared.key.Key.TheInside.{Inside}

-- the bytes of a key, of which there are 100 at most
abbrev pub key_bytes : Inside → List ℕ
key_bytes k = take k.len k.bytes

-- at most `MAX_KEY_BYTES` bytes, and zeros after them
abbrev pub HasZerosAfter : Inside → Type 0
HasZerosAfter k = (k.len ≤ MAX_KEY_BYTES) × (length k.bytes ≡ MAX_KEY_BYTES) × (drop k.len k.bytes ≡ replicate (MAX_KEY_BYTES - k.len) 0)

-- the fields of the key with these bytes
abbrev pub inside_of : List ℕ → Inside
inside_of bs = record { bytes = bs ++ replicate (MAX_KEY_BYTES - length bs) 0; len = length bs }

pub inside_of-bytes_of : (k : Inside) → HasZerosAfter k → inside_of (key_bytes k) ≡ k
inside_of-bytes_of k h i =
    let len : length (take k.len k.bytes) ≡ k.len = length-take-le k.len k.bytes (omega (arith, h.0, h.1)) in
    record {
      bytes = (ap (λ n. take k.len k.bytes ++ replicate (MAX_KEY_BYTES - n) 0) len
          ∙ ap (λ ys. take k.len k.bytes ++ ys) (sym h.2) ∙ take-append-drop k.len k.bytes) i;
      len = len i;
    }
