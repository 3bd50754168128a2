-- The steps of loops over the numbers of records.
use Rattle.std.proofs.Common.{◌≡◌, ℕ, ◌+◌, ◌<◌, true, false, List, ◌∷◌, length, get_or, drop, refl, sym, ap, ◌∙◌}
use Rattle.std.proofs.lemmas.List.{drop_more}
use Rattle.std.specs.List.{filter}
use Rattle.dbf_image.specs.Table.{Table}
use Rattle.table_text.specs.declared.selection.Selection.{Selection}
use Rattle.table_text.specs.Selection.{is_selected}

-- the numbers that are left, where the first of them is looked at
pub left-next : (numbers : List ℕ) (i number : ℕ) → i < length numbers → number ≡ get_or numbers i 0
    → drop i numbers ≡ number ∷ drop (i + 1) numbers
left-next numbers i number lt is = drop_more numbers i 0 lt ∙ ap (λ (n : ℕ). n ∷ drop (i + 1) numbers) (sym is)

-- those of the numbers that are selected
abbrev pub selected_of : Table → Selection → List ℕ → List ℕ
selected_of table selection numbers = filter (is_selected table selection) numbers

pub selected-taken : (table : Table) (selection : Selection) (numbers : List ℕ) (i number : ℕ)
    → i < length numbers → number ≡ get_or numbers i 0 → is_selected table selection number ≡ true
    → selected_of table selection (drop i numbers) ≡ number ∷ selected_of table selection (drop (i + 1) numbers)
selected-taken table selection numbers i number lt is taken =
    ap (filter (is_selected table selection)) (left-next numbers i number lt is) ∙ (rw taken refl)

pub selected-passed : (table : Table) (selection : Selection) (numbers : List ℕ) (i number : ℕ)
    → i < length numbers → number ≡ get_or numbers i 0 → is_selected table selection number ≡ false
    → selected_of table selection (drop i numbers) ≡ selected_of table selection (drop (i + 1) numbers)
selected-passed table selection numbers i number lt is passed =
    ap (filter (is_selected table selection)) (left-next numbers i number lt is) ∙ (rw passed refl)
