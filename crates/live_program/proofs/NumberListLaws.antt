-- Lists of numbers in one list: one more is read last.
use Rattle.std.proofs.Common.{◌≡◌, ◌∙◌, ℕ, zero, suc, List, [], ◌∷◌, ◌++◌, refl, ap}
use Rattle.std.specs.Prelude.{map}
use Rattle.live_program.specs.NumberLists.{ListsRead, lists_in, lists_read, marked, with_number}

-- the numbers of a list, each one higher, are its numbers alone
raised_read : (list : List ℕ) → lists_read (map (λ n. suc n) list) ≡ record { first = list; lists = [] }
raised_read [] = refl
raised_read (n ∷ list) = ap (with_number (suc n)) (raised_read list)

-- what is read, with one more list at its end
abbrev with_last : ListsRead → List ℕ → ListsRead
with_last r list = record { first = r.first; lists = r.lists ++ list ∷ [] }

number_before_last : (n : ℕ) (r : ListsRead) (list : List ℕ) → with_number n (with_last r list) ≡ with_last (with_number n r) list
number_before_last zero r list = refl
number_before_last (suc n) r list = refl

marked_read : (numbers list : List ℕ) → lists_read (numbers ++ marked list) ≡ with_last (lists_read numbers) list
marked_read [] list = ap (with_number zero) (raised_read list)
marked_read (n ∷ numbers) list = ap (with_number n) (marked_read numbers list) ∙ number_before_last n (lists_read numbers) list

pub one_more_read : (numbers list : List ℕ) → lists_in (numbers ++ marked list) ≡ lists_in numbers ++ list ∷ []
one_more_read numbers list = ap (λ (r : ListsRead). r.lists) (marked_read numbers list)
