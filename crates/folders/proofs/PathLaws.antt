-- A path is that of the list beside another if it begins with that one's folder and goes on with the list's name.
use Rattle.std.proofs.Common.{◌≡◌, ◌≢◌, false, List, ℕ, ◌++◌, length, drop, bytes_eq, sym, ◌∙◌, ap}
use Rattle.std.proofs.lemmas.Bool.Decides.{same_from_decides}
use Rattle.std.proofs.lemmas.Slice.Eq.{bytes_eq-Decides}
use Rattle.std.proofs.Math.Seq.{drop-append_seam}

-- where a text begins as another does, they are the same if what follows is
pub same_end : (text front rest end : List ℕ) → text ≡ front ++ rest → bytes_eq rest end ≡ bytes_eq text (front ++ end)
same_end text front rest end begins =
    same_from_decides {P = text ≡ front ++ end} (bytes_eq rest end) (bytes_eq text (front ++ end)) (
      (λ same. begins ∙ ap (λ (l : List ℕ). front ++ l) ((bytes_eq-Decides rest end).0 same)),
      (λ same. (bytes_eq-Decides rest end).1 (sym (drop-append_seam front rest) ∙ ap (λ (l : List ℕ). drop (length front) l) (sym begins ∙ same) ∙ drop-append_seam front end)),
    )
    (bytes_eq-Decides text (front ++ end))

-- a text that does not begin so is another
pub other_front : (text front end : List ℕ) → ((rest : List ℕ) → text ≢ front ++ rest) → false ≡ bytes_eq text (front ++ end)
other_front text front end differs =
    same_from_decides {P = text ≡ front ++ end} false (bytes_eq text (front ++ end)) ((λ e. absurd cc), (λ same. absurd (differs end same))) (bytes_eq-Decides text (front ++ end))
