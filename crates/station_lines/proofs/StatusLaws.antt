-- The line of a status row, number by number.
use Rattle.std.proofs.Common.{◌≡◌, ℕ, List, [], ◌∷◌, ◌++◌, ap, ◌∙◌, sym, append_assoc}
use Rattle.std.proofs.lemmas.List.{append-nil}
use Rattle.std.specs.Prelude.{codes}
use Rattle.std.specs.Fmt.{decimal}
use Rattle.station_lines.specs.AnswerLines.{numbers_text}

-- one number more in a status row's line
pub numbers_text-push : (ns : List ℕ) (n : ℕ) → numbers_text (ns ++ n ∷ []) ≡ numbers_text ns ++ (codes " " ++ decimal n)
numbers_text-push [] n = ap (λ (l : List ℕ). codes " " ++ l) (append-nil (decimal n))
numbers_text-push (m ∷ ns) n = ap (λ (l : List ℕ). codes " " ++ (decimal m ++ l)) (numbers_text-push ns n) ∙ ap (λ (l : List ℕ). codes " " ++ l) (sym (append_assoc (decimal m) (numbers_text ns) (codes " " ++ decimal n)))
