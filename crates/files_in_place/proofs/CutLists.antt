-- A list of names that was cut is no list.
use Rattle.std.proofs.Common.{◌≡◌, ◌≢◌, ℕ, true, List, [], ◌∷◌, ◌++◌, length, drop, get_or, refl, sym, ◌∙◌, ap, append_assoc}
use Rattle.std.proofs.lemmas.Bool.{both_ways}
use Rattle.std.specs.List.{AllByRecursion}
use Rattle.files_in_place.specs.Folder.{Name, Folder, is_reserved, name_lines, end_line, names_of}
use Rattle.files_in_place.specs.Staged.{is_file_name, IsList, HasBadList, HasCutList}
use Rattle.files_in_place.proofs.NameLists.{end_one}
use Rattle.files_in_place.proofs.Uncommitted.{name_free}
use Rattle.files_in_place.proofs.Committing.{one_line}

-- no file has the name of the line that ends a list
end_apart : (count : ℕ) → is_file_name (end_line count) ≢ true
end_apart count is = absurd (both_ways (is_reserved (end_line count)) (name_free (end_line count) is) refl)

-- lines without a line feed that begin the same text are the same
same_line : (a b r s : List ℕ) → AllByRecursion (λ b. b ≢ 10) a → AllByRecursion (λ b. b ≢ 10) b → a ++ 10 ∷ r ≡ b ++ 10 ∷ s → (a ≡ b) × (r ≡ s)
same_line [] [] r s one other same = (refl, ap (drop 1) same)
same_line [] (c ∷ b) r s one other same = absurd (other.0 (sym (ap (λ l. get_or l 0 0) same)))
same_line (c ∷ a) [] r s one other same = absurd (one.0 (ap (λ l. get_or l 0 0) same))
same_line (c ∷ a) (d ∷ b) r s one other same =
    let rest = same_line a b r s one.1 other.1 (ap (drop 1) same) in
    (ap (λ x. x ∷ a) (ap (λ l. get_or l 0 0) same) ∙ ap (λ l. d ∷ l) rest.0, rest.1)

-- the line that ends a list stands once in it, at its end
ended_once : (names others : List Name) (count many : ℕ) (gone : List ℕ) → AllByRecursion (λ name. is_file_name name ≡ true) names → AllByRecursion (λ name. is_file_name name ≡ true) others
    → name_lines names ++ (end_line count ++ 10 ∷ gone) ≡ name_lines others ++ (end_line many ++ 10 ∷ []) → gone ≡ []
ended_once [] [] count many gone fit fits same = (same_line (end_line count) (end_line many) gone [] (end_one count) (end_one many) same).1
ended_once [] (other ∷ others) count many gone fit fits same =
    let first = same_line (end_line count) other gone (name_lines others ++ (end_line many ++ 10 ∷ [])) (end_one count) (one_line other fits.0)
    (same ∙ append_assoc other (10 ∷ name_lines others) (end_line many ++ 10 ∷ [])) in
    absurd (end_apart count (ap is_file_name first.0 ∙ fits.0))
ended_once (name ∷ names) [] count many gone fit fits same =
    let first = same_line name (end_line many) (name_lines names ++ (end_line count ++ 10 ∷ gone)) [] (one_line name fit.0) (end_one many)
    (sym (append_assoc name (10 ∷ name_lines names) (end_line count ++ 10 ∷ gone)) ∙ same) in
    absurd (end_apart many (ap is_file_name (sym first.0) ∙ fit.0))
ended_once (name ∷ names) (other ∷ others) count many gone fit fits same =
    let first = same_line name other (name_lines names ++ (end_line count ++ 10 ∷ gone)) (name_lines others ++ (end_line many ++ 10 ∷ [])) (one_line name fit.0) (one_line other fits.0)
    (sym (append_assoc name (10 ∷ name_lines names) (end_line count ++ 10 ∷ gone)) ∙ same ∙ append_assoc other (10 ∷ name_lines others) (end_line many ++ 10 ∷ [])) in
    ended_once names others count many gone fit.1 fits.1 first.1

-- a list of which bytes at the end are gone is none
cut_none : (front gone : List ℕ) → IsList (front ++ gone) → gone ≢ [] → ¬ IsList front
cut_none front gone was more is =
    let joined : name_lines (names_of front) ++ (end_line (length (names_of front)) ++ 10 ∷ gone) ≡ front ++ gone =
    ap (λ (l : List ℕ). name_lines (names_of front) ++ l) (sym (append_assoc (end_line (length (names_of front))) (10 ∷ []) gone))
    ∙ sym (append_assoc (name_lines (names_of front)) (end_line (length (names_of front)) ++ 10 ∷ []) gone)
    ∙ ap (λ (l : List ℕ). l ++ gone) is.whole in
    more (ended_once (names_of front) (names_of (front ++ gone)) _ _ gone is.names was.names (joined ∙ sym was.whole))

pub cut_bad : (folder : Folder) → HasCutList folder → HasBadList folder
cut_bad folder cut = (cut.0, cut.2, cut_none cut.0 cut.1 cut.3 cut.4)
