-- The sums of lines, and how a line is cut off after its sum.
use Rattle.std.proofs.Common.{◌≡◌, ◌+◌, ℕ, suc, List, length, take, sym, ◌∙◌, ap, arith, length-append}
use Rattle.std.specs.Prelude.{slice_index}
use Rattle.std.specs.Int.{w32, to_be_bytes}
use Rattle.std.proofs.lemmas.List.{length-take-le}
use Rattle.hex.specs.Hex.{encode_lower, lower_digits}
use Rattle.hex.proofs.HexLemmas.{length-encode_with}
use Rattle.sha2.specs.Sha256.{digest_bytes, final_hash, initial_hash_256, sha256}
use Rattle.live_log.specs.declared.lines.TheConstants.{SUM_BYTES, SUM_LEN}
use Rattle.live_log.specs.Gates.{sum_of_line}

length-digest : (h : List ℕ) (n : ℕ) → length (digest_bytes h (suc n)) ≡ length (digest_bytes h n) + 4
unfolding digest_bytes
length-digest h n = omega (arith, length-append (digest_bytes h n) (to_be_bytes w32 (slice_index h n)))

-- a digest has the bytes of a sum
pub digest_long : (line : List ℕ) → length (take SUM_BYTES (sha256 line)) ≡ SUM_BYTES
unfolding sha256
digest_long line = length-take-le SUM_BYTES (sha256 line) (omega (arith, length-digest (final_hash initial_hash_256 line) 7, length-digest (final_hash initial_hash_256 line) 6))

pub is_sum : (line digest sum : List ℕ) → digest ≡ sha256 line → sum ≡ encode_lower (take SUM_BYTES digest) → sum ≡ sum_of_line line
unfolding sum_of_line
is_sum line digest sum of is = is ∙ ap (λ (d : List ℕ). encode_lower (take SUM_BYTES d)) of

pub length-sum : (line : List ℕ) → length (sum_of_line line) ≡ SUM_LEN
unfolding sum_of_line
length-sum line = omega (arith, length-encode_with lower_digits (take SUM_BYTES (sha256 line)), digest_long line)

pub sums_as_long : (a b : List ℕ) → length (sum_of_line a) ≡ length (sum_of_line b)
sums_as_long a b = length-sum a ∙ sym (length-sum b)
