-- The calls of one station in a journal, and the receipts of its seat.
use Rattle.std.specs.Prelude.{◌≡◌, ◌⊎◌, ℕ, ◌+◌, ◌-◌, ◌<◌, ◌≤◌, ◌==◌, List, [], ◌∷◌, length, map, filter, slice_get, Some}
use Rattle.catalogue_core.specs.declared.answer.Answer.{Answer}
use Rattle.catalogue_core.specs.declared.command.Command.{Command}
use Rattle.catalogue_core.specs.declared.entry.Entry.{Entry}
use Rattle.shared_catalogue.specs.declared.receipt.Receipt.{Receipt}

-- the receipt of a command that was answered so
abbrev pub receipt : Command → Answer → Receipt
receipt command answer = record { command = command; answer = answer }

-- the command and the answer of an entry
abbrev pub receipt_of : Entry → Receipt
receipt_of e = receipt e.command e.answer

-- the commands and answers of one station, in order
abbrev pub of_station : List Entry → ℕ → List Receipt
of_station journal station = map receipt_of (filter (λ e. e.station == station) journal)

-- the second list without some of its elements is the first
abbrev pub IsSublist : List Receipt → List Receipt → Type 0
IsSublist [] ys = Unit {0}
IsSublist (x ∷ xs) [] = ⊥
IsSublist (x ∷ xs) (y ∷ ys) = ((x ≡ y) × IsSublist xs ys) ⊎ IsSublist (x ∷ xs) ys

-- the lists, one a station, are the commands and answers of the stations 1 to n in the journal, each in order
abbrev pub AreOwn : List Entry → List (List Receipt) → ℕ → Type 0
AreOwn journal lists n = (i : ℕ) → i < n → slice_get lists i ≡ Some (of_station journal (i + 1))

-- the lowest station whose list is not its commands and answers in the journal
abbrev pub IsLowestOther : List Entry → List (List Receipt) → ℕ → Type 0
IsLowestOther journal lists s = (1 ≤ s) × (s ≤ length lists) × ¬ (slice_get lists (s - 1) ≡ Some (of_station journal s)) × AreOwn journal lists (s - 1)
