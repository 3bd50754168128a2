-- Moves, as arithmetic on places in an order: a list of record numbers, in which the first place is 0 and the
-- end is the place after the last.
use Rattle.std.specs.Prelude.{ℕ, zero, suc, ◌+◌, ◌-◌, ◌==◌, Bool, true, false, not, ◌||◌, nat_le, if◌then◌else◌, List, [], length, slice_get, Option, Some, None, Result, Ok, ℤ, pos, negsuc}
use Rattle.std.specs.Int.{is_in_range}
use Rattle.ndx_index.specs.declared.pair.Pair.{Pair}
use Rattle.ndx_index.specs.Order.{first_with}
use Rattle.ndx_index.specs.Places.{back_from, counted, place_in}
use Rattle.table_order.specs.TableOrder.{ordered}
use Rattle.table_core.specs.declared.cursor.Cursor.{Cursor}
use Rattle.table_core.specs.declared.refusal.Refusal.{Refusal}
use Rattle.table_core.specs.declared.refusal.Refusal.TheVariants.{OutOfRange, EndOfFile, BeginOfFile, NotIndexed, NoSuchOrder}
use Rattle.table_core.specs.Content.{Content, Indexed, record_count, has_no_records, index_at, order_at}
use Rattle.table_core.specs.Outcomes.{found, granted}

-- the records in the order of an index, where there is one
abbrev pub by_index : Content → Option Indexed → List ℕ
by_index content None = []
by_index content (Some index) = ordered content.table index.expr.expr

-- the records in an order: 0 is that of their numbers, the others are those of the indexes
abbrev pub numbers : Content → ℕ → List ℕ
numbers content order = if order == 0 then counted 1 (record_count content) else by_index content (index_at content order)

-- where a record stands; the end is the place after the last
abbrev pub place_of : List ℕ → Option ℕ → ℕ
place_of ns None = length ns
place_of ns (Some number) = place_in number ns

-- the cursor at a place
abbrev pub at_place : Cursor → List ℕ → ℕ → Bool → Cursor
at_place cursor ns place bof = record { at = slice_get ns place; bof = bof; found = false; order = cursor.order }

-- the cursor at a record
abbrev pub at_record : Cursor → ℕ → Cursor
at_record cursor number = record { at = Some number; bof = false; found = false; order = cursor.order }

-- GO TOP
abbrev pub at_top : Content → Cursor → Cursor
at_top content cursor = at_place cursor (numbers content cursor.order) 0 (has_no_records content)

-- GO TOP. Moves are arithmetic on places in an order.
abbrev pub top : Content → Cursor → Result Cursor Refusal
top content cursor = Ok (at_top content cursor)

-- GO BOTTOM
abbrev pub bottom : Content → Cursor → Result Cursor Refusal
bottom content cursor = Ok (at_place cursor (numbers content cursor.order) (length (numbers content cursor.order) - 1) (has_no_records content))

-- GO
abbrev pub go : Content → Cursor → ℕ → Result Cursor Refusal
go content cursor number = granted (is_in_range 1 (record_count content) number) OutOfRange (Ok (at_record cursor number))

-- SKIP forward, by one or more
abbrev pub forward : Content → Cursor → ℕ → Result Cursor Refusal
forward content cursor steps =
    found cursor.at EndOfFile (λ number.
    Ok (at_place cursor (numbers content cursor.order) (place_in number (numbers content cursor.order) + steps) false))

-- the cursor at the record that was found the given number of places before, or at the first where there is none
abbrev pub back_at : Cursor → List ℕ → Option ℕ → Cursor
back_at cursor ns (Some number) = at_record cursor number
back_at cursor ns None = at_place cursor ns 0 true

-- SKIP back, by one or more
abbrev pub backward : Content → Cursor → ℕ → Result Cursor Refusal
backward content cursor steps =
    granted (not (cursor.bof || has_no_records content)) BeginOfFile (
    Ok (back_at cursor (numbers content cursor.order) (back_from (numbers content cursor.order) (place_of (numbers content cursor.order) cursor.at) steps)))

-- SKIP 0 changes FOUND() alone
abbrev pub not_found : Cursor → Cursor
not_found cursor = record { at = cursor.at; bof = cursor.bof; found = false; order = cursor.order }

-- SKIP
abbrev pub skip : Content → Cursor → ℤ → Result Cursor Refusal
skip content cursor (pos zero) = Ok (not_found cursor)
skip content cursor (pos (suc n)) = forward content cursor (suc n)
skip content cursor (negsuc n) = backward content cursor (suc n)

-- the cursor at a pair that was found, or else at the end
abbrev pub at_found : Content → Cursor → Option Pair → Cursor
at_found content cursor (Some p) = record { at = Some p.number; bof = false; found = true; order = cursor.order }
at_found content cursor None = record { at = None; bof = has_no_records content; found = false; order = cursor.order }

-- SEEK
abbrev pub seek : Content → Cursor → List ℕ → Result Cursor Refusal
seek content cursor text =
    granted (not (cursor.order == 0)) NotIndexed (
    Ok (at_found content cursor (first_with text (order_at content cursor.order))))

-- SET ORDER: the record, BOF() and FOUND() stay
abbrev pub in_order_of : Cursor → ℕ → Cursor
in_order_of cursor order = record { at = cursor.at; bof = cursor.bof; found = cursor.found; order = order }

-- SET ORDER TO
abbrev pub set_order : Content → Cursor → ℕ → Result Cursor Refusal
set_order content cursor order = granted (nat_le order (length content.indexes)) NoSuchOrder (Ok (in_order_of cursor order))
