-- A text that is cut or filled up has the width.
use Rattle.std.proofs.Common.{◌≡◌, ℕ, zero, suc, ◌-◌, ◌≤◌, List, [], ◌∷◌, ◌++◌, length, take, min, replicate, refl, ap, arith}
use Rattle.std.proofs.lemmas.List.{take-replicate}
use Rattle.dbf_fields.specs.declared.format.TheConstants.{BLANK}

-- as much of the text as fits, and as many blanks as are missing
pub filled_up : (width kept missing blanks : ℕ) (text : List ℕ) → kept ≡ min (length text) width → missing ≡ width - kept → width ≤ blanks
    → take width (take kept text) ++ replicate missing BLANK ≡ take width (text ++ replicate blanks BLANK)
filled_up zero kept missing blanks text e m le = let none : missing ≡ 0 = omega arith in rw none refl
filled_up (suc width) zero missing blanks [] e m le = let all : missing ≡ suc width = omega arith in rw (take-replicate {X = ℕ} (suc width) blanks BLANK le, all) refl
filled_up (suc width) (suc kept) missing blanks [] e m le = absurd (omega arith)
filled_up (suc width) zero missing blanks (b ∷ text) e m le = absurd (omega arith)
filled_up (suc width) (suc kept) missing blanks (b ∷ text) e m le =
    ap (λ (t : List ℕ). b ∷ t) (filled_up width kept missing blanks text (omega arith) (omega arith) (omega arith))
