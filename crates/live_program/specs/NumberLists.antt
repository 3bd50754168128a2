-- Lists of numbers in one list.
use Rattle.std.specs.Prelude.{ℕ, zero, suc, List, [], ◌∷◌, map}

-- a list as it stands among others: 0, and each number one higher
abbrev pub marked : List ℕ → List ℕ
marked list = 0 ∷ map (λ n. suc n) list

-- the lists that were read from the end, and what stands before the first 0 that was met
pub record ListsRead : Type 0 where
  pub first : List ℕ
  pub lists : List (List ℕ)

-- what was read, with the number before it
abbrev pub with_number : ℕ → ListsRead → ListsRead
with_number zero r = record { first = []; lists = r.first ∷ r.lists }
with_number (suc n) r = record { first = n ∷ r.first; lists = r.lists }

-- what was read of numbers, from the end
abbrev pub lists_read : List ℕ → ListsRead
lists_read [] = record { first = []; lists = [] }
lists_read (n ∷ ns) = with_number n (lists_read ns)

-- the lists that such a list has
abbrev pub lists_in : List ℕ → List (List ℕ)
lists_in numbers = (lists_read numbers).lists
