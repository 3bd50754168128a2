-- Texts that are written one after the other.
use Rattle.std.proofs.Common.{ℕ, List, ◌++◌, Option, Some, None, ap, ◌∙◌, append_assoc}
use Rattle.std.specs.Io.KnownBytes.{Appends}

pub appends_then : (o p q : Option (List ℕ)) (xs ys : List ℕ) → Appends o p xs → Appends p q ys → Appends o q (xs ++ ys)
appends_then None p q xs ys h k = tt
appends_then (Some os) None q xs ys h k = absurd h
appends_then (Some os) (Some ps) None xs ys h k = absurd k
appends_then (Some os) (Some ps) (Some qs) xs ys h k = k ∙ (ap (λ (w : List ℕ). w ++ ys) h ∙ append_assoc os xs ys)
