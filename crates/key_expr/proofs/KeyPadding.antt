-- More bytes at the end of a key.
use borrow.Rule.Slice.PartMut.{put_mid, post_of}
use Rattle.std.proofs.Common.{◌≡◌, ℕ, ◌+◌, ◌-◌, ◌<◌, ◌≤◌, List, length, take, drop, set, replicate, sym, ap, ◌∙◌, arith, length-append, length-drop, length-take-le, ◌++◌}
use Rattle.std.proofs.lemmas.List.{drop-set-lt, drop-drop, drop-replicate}
use Rattle.std.proofs.lemmas.Slice.{drop-put_mid}
use Rattle.key_expr.specs.declared.format.TheConstants.{MAX_KEY_BYTES}

-- one zero less
zeros_less : (zeros : List ℕ) (n m : ℕ) → zeros ≡ replicate n 0 → n - 1 ≡ m → drop 1 zeros ≡ replicate m 0
zeros_less zeros n m e less = ap (λ (l : List ℕ). drop 1 l) e ∙ (drop-replicate 1 n 0 ∙ ap (λ (k : ℕ). replicate k 0) less)

-- the bytes after one more are still zeros
pub zeros_after_push : (bytes : List ℕ) (len b : ℕ) → drop len bytes ≡ replicate (MAX_KEY_BYTES - len) 0
    → drop (len + 1) (set bytes len b) ≡ replicate (MAX_KEY_BYTES - (len + 1)) 0
zeros_after_push bytes len b zeros =
    let past : len < len + 1 = omega arith in
    let less : MAX_KEY_BYTES - len - 1 ≡ MAX_KEY_BYTES - (len + 1) = omega arith in
    rw (drop-set-lt (len + 1) bytes len b past, ← drop-drop 1 len bytes) (zeros_less (drop len bytes) (MAX_KEY_BYTES - len) (MAX_KEY_BYTES - (len + 1)) zeros less)

-- and so are those after more that are copied over zeros
pub zeros_after_copy : (bytes copied : List ℕ) (len n : ℕ) → length bytes ≡ MAX_KEY_BYTES → length copied ≡ n → len + n ≤ MAX_KEY_BYTES
    → drop len bytes ≡ replicate (MAX_KEY_BYTES - len) 0
    → (length (put_mid len n bytes copied) ≡ MAX_KEY_BYTES) × (drop (len + n) (put_mid len n bytes copied) ≡ replicate (MAX_KEY_BYTES - (len + n)) 0)
zeros_after_copy bytes copied len n whole same short zeros =
    let within : len ≤ length bytes = omega (arith, whole, short) in
    let past : len + n ≤ len + n = omega arith in
    let blank : ℕ = 0 in
    let less : MAX_KEY_BYTES - len - n ≡ MAX_KEY_BYTES - (len + n) = omega arith in (
      omega (
        arith,
        whole,
        same,
        short,
        length-append (take len bytes) (copied ++ post_of len n bytes),
        length-append copied (post_of len n bytes),
        length-take-le len bytes within,
        length-drop n (drop len bytes),
        length-drop len bytes,
      ),
      drop-put_mid len n bytes copied (len + n) past within same ∙ (sym (drop-drop n len bytes) ∙ (ap (λ (l : List ℕ). drop n l) zeros
          ∙ (drop-replicate n (MAX_KEY_BYTES - len) blank ∙ ap (λ (k : ℕ). replicate k 0) less))),
    )
