use Rattle.std.proofs.Common.{◌≡◌, [], get_or, ℕ, ◌+◌, ◌-◌, ◌*◌, ◌∙◌, ap, sym, subst, List, slice_range, arith}
use Rattle.lock_table.specs.Locks.{HeldLocks, AreApart, in_table, own_numbers}
use Rattle.lock_table.specs.Slots.{locks_of, row_from, EachSlot}
use Rattle.lock_table.proofs.Each.{each_range}
use Rattle.lock_table.proofs.Parts.{table_slots, own_in_row}
use Rattle.lock_table.proofs.Orders.{in_order}
use Rattle.lock_table.proofs.locks.Locks.row.Goals as goal

pub returns-clause-locks : goal.returns-clause-locks
returns-clause-locks c =
    let n = c.self.inside.stations in
    let t = c.args.table in
    let tables : c.self.inside.tables ≡ c.args.self.now.tables = ap (λ (h : HeldLocks). h.tables) c.self.view_is in
    ap (λ (h : HeldLocks). in_table h.locks t) (sym c.self.view_is)
    ∙ table_slots n t c.self.inside.tables c.self.inside.slots.items c.requires.table (omega arith) c.self.invariant.whole
    ∙ ap (λ (slots : List (List ℕ)). row_from t 1 (slice_range slots ((t - 1) * n) ((t - 1) * n + n))) (sym c.deref.ensures.value)

pub returns-clause-apart : goal.returns-clause-apart
returns-clause-apart c = let P : HeldLocks → Type 0 = λ h. AreApart h.locks in subst P c.self.view_is c.self.invariant.apart

pub returns-clause-order : goal.returns-clause-order
returns-clause-order c = in_order c.self.inside.stations c.self.inside.tables c.self.inside.slots.items c.args.self.now c.self.view_is c.self.invariant

pub returns-clause-each : goal.returns-clause-each
returns-clause-each c =
    let n = c.self.inside.stations in
    let t = c.args.table in
    let P : List (List ℕ) → Type 0 = λ slots. EachSlot (slice_range slots ((t - 1) * n) ((t - 1) * n + n)) in
    subst P (sym c.deref.ensures.value) (each_range c.self.inside.slots.items ((t - 1) * n) ((t - 1) * n + n) c.self.invariant.each)

pub returns-clause-own : goal.returns-clause-own
returns-clause-own c =
    let n = c.self.inside.stations in
    let t = c.args.table in
    let slots = c.self.inside.slots.items in
    let tables : c.self.inside.tables ≡ c.args.self.now.tables = ap (λ (h : HeldLocks). h.tables) c.self.view_is in
    let count : n ≡ c.args.self.now.stations = ap (λ (h : HeldLocks). h.stations) c.self.view_is in
    λ s low high.
    let before : own_numbers c.args.self.now.locks s t ≡ own_numbers (locks_of n slots) s t = ap (λ (h : HeldLocks). own_numbers h.locks s t) (sym c.self.view_is) in
    before
    ∙ own_in_row n s t c.self.inside.tables slots c.requires.table (omega arith) low (omega arith) c.self.invariant.whole
    ∙ ap (λ (xs : List (List ℕ)). get_or (slice_range xs ((t - 1) * n) ((t - 1) * n + n)) (s - 1) []) (sym c.deref.ensures.value)
