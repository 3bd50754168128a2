-- What the day reads of several stations.
use Rattle.std.proofs.Common.{◌≡◌, ◌∙◌, ℕ, ◌==◌, List, [], ◌∷◌, ◌++◌, refl, sym, ap, append_assoc}
use Rattle.std.specs.Prelude.{map}
use Rattle.std.proofs.lemmas.List.{append-nil, map-append}
use Rattle.live_day.specs.declared.keyboard.Typed.{Typed}
use Rattle.live_day.specs.declared.keyboard.Typed.TheVariants.{Text, TooLong, Cut}
use Rattle.live_stations.specs.Items.{Item, named, said, if_said_by, item_line, item_lines, item_of_numbers, lines_of, numbers_of_item, seated_after}

item_again : (i : Item) → item_of_numbers (numbers_of_item i) ≡ i
item_again (named n) = refl
item_again (said (Text line)) = refl
item_again (said TooLong) = refl
item_again (said Cut) = refl

-- one item more was read
pub item_more : (lists : List (List ℕ)) (i : Item) → map item_of_numbers (lists ++ numbers_of_item i ∷ []) ≡ map item_of_numbers lists ++ i ∷ []
item_more [] i = ap (λ (x : Item). x ∷ []) (item_again i)
item_more (l ∷ lists) i = ap (λ (items : List Item). item_of_numbers l ∷ items) (item_more lists i)

pub lines_more : (items : List Item) (i : Item) → item_lines (items ++ i ∷ []) ≡ item_lines items ++ item_line i ∷ []
lines_more items i = map-append item_line items (i ∷ [])

-- the station that is named has the keyboard
pub seated_named : (s n : ℕ) (items : List Item) → seated_after s (items ++ named n ∷ []) ≡ n
seated_named s n [] = refl
seated_named s n (named m ∷ items) = seated_named m n items
seated_named s n (said line ∷ items) = seated_named s n items

pub seated_said : (s : ℕ) (line : Typed) (items : List Item) → seated_after s (items ++ said line ∷ []) ≡ seated_after s items
seated_said s line [] = refl
seated_said s line (named m ∷ items) = seated_said m line items
seated_said s line (said other ∷ items) = seated_said s line items

-- nothing is said where a station is named
pub lines_named : (n s m : ℕ) (items : List Item) → lines_of n s (items ++ named m ∷ []) ≡ lines_of n s items
lines_named n s m [] = refl
lines_named n s m (named k ∷ items) = lines_named n k m items
lines_named n s m (said line ∷ items) = ap (λ (lines : List Typed). if_said_by (s == n) line ++ lines) (lines_named n s m items)

-- a line is said by the station that has the keyboard
pub lines_said : (n s : ℕ) (line : Typed) (items : List Item) → lines_of n s (items ++ said line ∷ []) ≡ lines_of n s items ++ if_said_by (seated_after s items == n) line
lines_said n s line [] = append-nil (if_said_by (s == n) line)
lines_said n s line (named k ∷ items) = lines_said n k line items
lines_said n s line (said other ∷ items) =
    ap (λ (lines : List Typed). if_said_by (s == n) other ++ lines) (lines_said n s line items)
    ∙ sym (append_assoc (if_said_by (s == n) other) (lines_of n s items) (if_said_by (seated_after s items == n) line))
