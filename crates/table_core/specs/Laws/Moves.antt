-- A move leads from a cursor of the table to a cursor of the table.
use Rattle.std.proofs.Common.{◌≡◌, ℕ, zero, suc, ◌+◌, ◌-◌, ◌≤◌, Bool, true, false, cond, List, [], ◌∷◌, length, Contains, Option, Some, None, Result, Ok, ℤ, pos, negsuc, refl, arith}
use Rattle.std.specs.Prelude.{IfOk, not, ◌||◌, ◌==◌, nat_le, find, slice_get}
use Rattle.std.specs.Int.{is_in_range}
use Rattle.std.proofs.lemmas.Bool.Decides.{nat_tests}
use Rattle.ndx_index.specs.declared.pair.Pair.{Pair}
use Rattle.ndx_index.specs.Order.{begins_with, first_with}
use Rattle.ndx_index.specs.Places.{back_from, place_in}
use Rattle.table_order.specs.Laws.RecordOrders.{record_there}
use Rattle.table_core.specs.declared.cursor.Cursor.{Cursor}
use Rattle.table_core.specs.declared.refusal.Refusal.{Refusal}
use Rattle.table_core.specs.declared.refusal.Refusal.TheVariants.{OutOfRange, EndOfFile, BeginOfFile, NotIndexed, NoSuchOrder}
use Rattle.table_core.specs.Content.{Content, Indexed, record_count, has_no_records, index_at, order_at, pairs_by}
use Rattle.table_core.specs.Cursors.{IsCursorPlace, IsCursor}
use Rattle.table_core.specs.Moves.{numbers, place_of, at_place, at_record, top, bottom, go, forward, back_at, backward, skip, at_found, seek, in_order_of, set_order}
use Rattle.table_core.specs.Laws.Outcomes.{of_found, of_granted}
use Rattle.table_core.specs.Laws.Numbers.{is_place}

-- the outcome is a cursor of the table, or a refusal
abbrev pub Leads : Content → Result Cursor Refusal → Type 0
Leads content outcome = IfOk outcome (IsCursor content)

at_some_place : (content : Content) (cursor : Cursor) (place : ℕ) (bof : Bool) → IsCursor content cursor → IsCursor content (at_place cursor (numbers content cursor.order) place bof)
at_some_place content cursor place bof h = record { place = is_place content cursor.order place; order = h.order }

pub top_leads : (content : Content) (cursor : Cursor) → IsCursor content cursor → Leads content (top content cursor)
top_leads content cursor h = at_some_place content cursor 0 (has_no_records content) h

pub bottom_leads : (content : Content) (cursor : Cursor) → IsCursor content cursor → Leads content (bottom content cursor)
bottom_leads content cursor h = at_some_place content cursor (length (numbers content cursor.order) - 1) (has_no_records content) h

pub go_leads : (content : Content) (cursor : Cursor) (number : ℕ) → IsCursor content cursor → Leads content (go content cursor number)
go_leads content cursor number h =
    of_granted (IsCursor content) (is_in_range 1 (record_count content) number) OutOfRange (Ok (at_record cursor number)) (λ e.
    let inside : (1 ≤ number) × (number ≤ record_count content) = grind (arith, nat_tests) in
    record { place = inside; order = h.order })

forward_leads : (content : Content) (cursor : Cursor) (steps : ℕ) → IsCursor content cursor → Leads content (forward content cursor steps)
forward_leads content cursor steps h = of_found (IsCursor content) cursor.at EndOfFile (λ number. Ok (at_place cursor (numbers content cursor.order) (place_in number (numbers content cursor.order) + steps) false)) (λ number e. at_some_place content cursor _ false h)

back_leads : (content : Content) (cursor : Cursor) (o : Option ℕ) → IsCursorPlace content o → IsCursor content cursor → IsCursor content (back_at cursor (numbers content cursor.order) o)
back_leads content cursor None there h = at_some_place content cursor 0 true h
back_leads content cursor (Some number) there h = record { place = there; order = h.order }

back_place : (content : Content) (cursor : Cursor) (place steps : ℕ) → IsCursorPlace content (back_from (numbers content cursor.order) place steps)
back_place content cursor place steps = by (nat_le steps place)
  where
    by : (b : Bool) → IsCursorPlace content (cond b (slice_get (numbers content cursor.order) (place - steps)) None)
    by true = is_place content cursor.order (place - steps)
    by false = tt

backward_leads : (content : Content) (cursor : Cursor) (steps : ℕ) → IsCursor content cursor → Leads content (backward content cursor steps)
backward_leads content cursor steps h =
    of_granted (IsCursor content) (not (cursor.bof || has_no_records content)) BeginOfFile
    (Ok (back_at cursor (numbers content cursor.order) (back_from (numbers content cursor.order) (place_of (numbers content cursor.order) cursor.at) steps)))
    (λ _. back_leads content cursor _ (back_place content cursor (place_of (numbers content cursor.order) cursor.at) steps) h)

pub skip_leads : (content : Content) (cursor : Cursor) (steps : ℤ) → IsCursor content cursor → Leads content (skip content cursor steps)
skip_leads content cursor (pos zero) h = record { place = h.place; order = h.order }
skip_leads content cursor (pos (suc n)) h = forward_leads content cursor (suc n) h
skip_leads content cursor (negsuc n) h = backward_leads content cursor (suc n) h

there_by : (b : Bool) (q : Pair) (qs : List Pair) (p : Pair) (o : Option Pair) → (o ≡ Some p → Contains qs p) → cond b (Some q) o ≡ Some p → Contains (q ∷ qs) p
there_by true q qs p o rest e = let same : q ≡ p = cc in (0, omega arith, same)
there_by false q qs p o rest e = let h = rest e in (suc h.0, omega (arith, h.1), h.2)

-- what is found is there
found_there : (test : Pair → Bool) (ps : List Pair) (p : Pair) → find test ps ≡ Some p → Contains ps p
found_there test [] p e = cc
found_there test (q ∷ qs) p e = there_by (test q) q qs p (find test qs) (found_there test qs p) e

pair_place : (content : Content) (o : Option Indexed) (p : Pair) → Contains (pairs_by content o) p → (1 ≤ p.number) × (p.number ≤ record_count content)
pair_place content None p there = absurd (omega (arith, there.1))
pair_place content (Some index) p there = let h = record_there content.table index.expr.expr p there in (h.some, h.inside)

found_leads : (content : Content) (cursor : Cursor) (o : Option Pair) → ((p : Pair) → o ≡ Some p → Contains (order_at content cursor.order) p) → IsCursor content cursor → IsCursor content (at_found content cursor o)
found_leads content cursor None there h = record { place = tt; order = h.order }
found_leads content cursor (Some p) there h = record { place = pair_place content (index_at content cursor.order) p (there p refl); order = h.order }

pub seek_leads : (content : Content) (cursor : Cursor) (text : List ℕ) → IsCursor content cursor → Leads content (seek content cursor text)
seek_leads content cursor text h =
    of_granted (IsCursor content) (not (cursor.order == 0)) NotIndexed (Ok (at_found content cursor (first_with text (order_at content cursor.order)))) (λ _.
    found_leads content cursor (first_with text (order_at content cursor.order)) (λ p e. found_there (begins_with text) (order_at content cursor.order) p e) h)

pub set_order_leads : (content : Content) (cursor : Cursor) (by : ℕ) → IsCursor content cursor → Leads content (set_order content cursor by)
set_order_leads content cursor by h =
    of_granted (IsCursor content) (nat_le by (length content.indexes)) NoSuchOrder (Ok (in_order_of cursor by)) (λ e.
    let inside : by ≤ length content.indexes = grind (arith, nat_tests) in
    record { place = h.place; order = inside })
