-- What a text still has.
use Rattle.std.proofs.Common.{◌≡◌, ℕ, List, ◌++◌, Some, Result, Ok, Err, ◌∙◌, append_assoc}
use Rattle.std.specs.Prelude.{OnErr}
use Rattle.byte_io.specs.Sink.{IsFront}

-- a text and more of it
pub kept_by : {T E : Type 0} (r : Result T E) (xs ys rest : List ℕ) → ys ≡ xs ++ rest → OnErr r (IsFront (Some xs) (Some ys))
unfolding IsFront
kept_by (Ok x) xs ys rest e = tt
kept_by (Err x) xs ys rest e = (rest, e)

-- a text and more of it in two parts, from which it did not change
pub kept_after : {T E : Type 0} (r : Result T E) (xs ys zs first second : List ℕ) → ys ≡ (xs ++ first) ++ second → zs ≡ ys → OnErr r (IsFront (Some xs) (Some zs))
kept_after r xs ys zs first second e same = kept_by r xs zs (first ++ second) (same ∙ e ∙ append_assoc xs first second)
