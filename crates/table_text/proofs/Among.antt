-- The records of an order, as they stand in the table.
use Rattle.std.proofs.Common.{◌≡◌, ◌⊎◌, inl, inr, ℕ, ◌+◌, ◌-◌, ◌<◌, ◌≤◌, Bool, true, false, ◌&&◌, ◌||◌, List, [], ◌∷◌, ◌++◌, Option, length, get_or, take, nat_eq, refl, sym, ap, ◌∙◌, arith}
use Rattle.std.proofs.lemmas.Bool.{and_parts, leb-true}
use Rattle.std.proofs.lemmas.Bool.Decides.{nat_tests}
use Rattle.std.proofs.lemmas.Cmp.{nat_eq_equiv}
use Rattle.std.proofs.lemmas.List.{append-nil, take_more}
use Rattle.std.proofs.lemmas.List.Elements.{filter-append}
use Rattle.std.proofs.lemmas.Map.Views.{Contains-from_any, list_any-from_Contains}
use Rattle.std.specs.List.{Contains, filter, range_with_len}
use Rattle.dbf_image.specs.Table.{Table}
use Rattle.table_text.specs.declared.selection.Selection.{Selection}
use Rattle.table_text.specs.Selection.{is_among, is_selected, numbers_in, selected}
use Rattle.table_text.proofs.SelectedLaws.{contained-kept, counted-inside, inside-counted, kept-contained, kept-passes}

-- ---- what passes a test, of one more element

pub filter-taken : (p : ℕ → Bool) (xs : List ℕ) (i x : ℕ) → i < length xs → x ≡ get_or xs i 0 → p x ≡ true
    → filter p (take (i + 1) xs) ≡ filter p (take i xs) ++ x ∷ []
filter-taken p xs i x lt is passes =
    ap (filter p) (take_more xs i 0 lt ∙ ap (λ (y : ℕ). take i xs ++ y ∷ []) (sym is)) ∙ filter-append p (take i xs) (x ∷ []) ∙ (rw passes refl)

pub filter-passed : (p : ℕ → Bool) (xs : List ℕ) (i x : ℕ) → i < length xs → x ≡ get_or xs i 0 → p x ≡ false
    → filter p (take (i + 1) xs) ≡ filter p (take i xs)
filter-passed p xs i x lt is fails =
    ap (filter p) (take_more xs i 0 lt ∙ ap (λ (y : ℕ). take i xs ++ y ∷ []) (sym is)) ∙ filter-append p (take i xs) (x ∷ []) ∙ (rw fails (append-nil (filter p (take i xs))))

pub decided : (b : Bool) → (b ≡ true) ⊎ (b ≡ false)
decided true = inl refl
decided false = inr refl

-- ---- the records that are shown, as they stand in the table

-- the record of the number is selected, and its number is one of the order
abbrev pub is_listed : Table → Option (List ℕ) → Selection → ℕ → Bool
is_listed table order selection number = is_among (numbers_in table order) number && is_selected table selection number

-- the numbers of the records that are shown, as they stand in the table
abbrev pub listed : Table → Option (List ℕ) → Selection → List ℕ
listed table order selection = filter (is_listed table order selection) (range_with_len 1 (length table.rows))

both-true : (a b : Bool) → a ≡ true → b ≡ true → (a && b) ≡ true
both-true a b first second = rw first second

nat_same : (x y : ℕ) → nat_eq x y ≡ true → x ≡ y
nat_same x y is = grind (arith, nat_tests)

selected-inside : (table : Table) (selection : Selection) (n : ℕ) → is_selected table selection n ≡ true → (1 ≤ n) × (n ≤ length table.rows)
selected-inside table selection n is =
    let inside = and_parts _ _ (and_parts _ _ is).0 in
    (leb-true 1 n inside.0, leb-true n (length table.rows) inside.1)

pub listed-selected : (table : Table) (order : Option (List ℕ)) (selection : Selection) (n : ℕ) → Contains (listed table order selection) n → Contains (selected table order selection) n
listed-selected table order selection n there =
    let both = and_parts _ _ (kept-passes (is_listed table order selection) (range_with_len 1 (length table.rows)) n there) in
    contained-kept (is_selected table selection) (numbers_in table order) n both.1 (Contains-from_any nat_same n (numbers_in table order) both.0)

pub selected-listed : (table : Table) (order : Option (List ℕ)) (selection : Selection) (n : ℕ) → Contains (selected table order selection) n → Contains (listed table order selection) n
selected-listed table order selection n there =
    let passes = kept-passes (is_selected table selection) (numbers_in table order) n there in
    let among = list_any-from_Contains nat_eq_equiv n (numbers_in table order) (kept-contained (is_selected table selection) (numbers_in table order) n there) in
    let inside = selected-inside table selection n passes in
    contained-kept (is_listed table order selection) (range_with_len 1 (length table.rows)) n (both-true _ _ among passes) (inside-counted (length table.rows) n inside.0 inside.1)
