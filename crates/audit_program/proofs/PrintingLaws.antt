-- Lines of files that are printed one after another.
use Rattle.std.proofs.Common.{◌≡◌, ℕ, ◌+◌, ◌<◌, List, [], ◌∷◌, ◌++◌, Option, length, take, get_or, sym, ap, subst, ◌∙◌}
use Rattle.std.specs.Prelude.{flat_map}
use Rattle.std.specs.Io.KnownBytes.{Appends}
use Rattle.std.proofs.lemmas.Grind.{flat_map-append}
use Rattle.std.proofs.lemmas.List.{append-nil, take_more}
use Rattle.program_frame.proofs.Printing.{appends_then}

-- the lines of the first are printed, and then that of the next one
pub printed_more : {X : Type 0} (line : X → List ℕ) (begun now new : Option (List ℕ)) (xs : List X) (i : ℕ) (x : X) → i < length xs → x ≡ get_or xs i x → Appends begun now (flat_map line (take i xs)) → Appends now new (line x)
    → Appends begun new (flat_map line (take (i + 1) xs))
printed_more {X} line begun now new xs i x inside is before next =
    let here : take (i + 1) xs ≡ take i xs ++ x ∷ [] = take_more xs i x inside ∙ ap (λ (y : X). take i xs ++ y ∷ []) (sym is) in
    let lines : flat_map line (take (i + 1) xs) ≡ flat_map line (take i xs) ++ line x =
    ap (flat_map line) here ∙ (flat_map-append line (take i xs) (x ∷ []) ∙ ap (λ (l : List ℕ). flat_map line (take i xs) ++ l) (append-nil (line x))) in
    subst (Appends begun new) (sym lines) (appends_then begun now new (flat_map line (take i xs)) (line x) before next)
