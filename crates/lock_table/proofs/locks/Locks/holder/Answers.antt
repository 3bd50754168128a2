use Rattle.std.proofs.Common.{◌≡◌, ◌+◌, ◌∙◌, ap, sym, Some, None, Bool, cond, ◌==◌, arith}
use Rattle.std.specs.List.{find}
use Rattle.lock_table.specs.Locks.{Lock, HeldLocks, lock_of, station_of}
use Rattle.lock_table.proofs.Rows.{rowed, find_kept, find_step}
use Rattle.lock_table.proofs.locks.Locks.holder.Goals as goal

pub returns-then-is_on : goal.returns-then-is_on
returns-then-is_on c =
    let p : Lock → Bool = λ m. m.number == c.args.number in
    let row = c.row-row.result.now in
    let i = c.loop-other.other in
    let l = lock_of c.args.table (i + 1) c.args.number in
    let hit : find p (rowed c.args.table row (i + 1)) ≡ Some l =
    find_step c.args.table c.args.number i row c.index-row-other.result c.is_on.result (omega (arith, c.row-row.ensures.length, ap (λ (h : HeldLocks). h.stations) c.self.view_is)) c.index-row-other.is c.is_on.ensures.value c.loop-other.invariant ∙ ap (λ (b : Bool). cond b (Some l) None) c.if-is_on.true in
    record { value = sym (ap station_of (ap (find p) c.row-row.ensures.locks ∙ find_kept p c.args.table row (i + 1) l hit)) }

pub loop-other-preserved : goal.loop-other-preserved
loop-other-preserved c =
    let l = lock_of c.args.table (c.loop-other.other + 1) c.args.number in
    find_step c.args.table c.args.number c.loop-other.other c.row-row.result.now c.index-row-other.result c.is_on.result (omega (arith, c.row-row.ensures.length, ap (λ (h : HeldLocks). h.stations) c.self.view_is)) c.index-row-other.is c.is_on.ensures.value c.loop-other.invariant ∙ ap (λ (b : Bool). cond b (Some l) None) c.if-is_on.false
