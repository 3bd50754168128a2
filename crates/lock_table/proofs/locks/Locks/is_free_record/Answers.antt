use Rattle.std.proofs.Common.{◌≡◌, ◌+◌, ◌∙◌, ap, sym, true, not, arith}
use Rattle.std.specs.List.{list_any}
use Rattle.lock_table.specs.Locks.{HeldLocks, bars}
use Rattle.lock_table.proofs.Rows.{rowed, any_kept, free_step}
use Rattle.lock_table.proofs.locks.Locks.is_free_record.Goals as goal

pub returns-then-bars : goal.returns-then-bars
returns-then-bars c =
    let row = c.row-row.result.now in
    let i = c.loop-other.other in
    let hit : list_any (bars c.args.station c.args.number) (rowed c.args.table row (i + 1)) ≡ true =
    free_step c.args.table c.args.station c.args.number i row c.index-row-other.result c.bars.result (omega (arith, c.row-row.ensures.length, ap (λ (h : HeldLocks). h.stations) c.self.view_is)) c.index-row-other.is c.bars.ensures.value c.loop-other.invariant ∙ c.if-bars.true in
    record { value = sym (ap not (ap (list_any (bars c.args.station c.args.number)) c.row-row.ensures.locks ∙ any_kept (bars c.args.station c.args.number) c.args.table row (i + 1) hit)) }

pub loop-other-preserved : goal.loop-other-preserved
loop-other-preserved c =
    free_step c.args.table c.args.station c.args.number c.loop-other.other c.row-row.result.now c.index-row-other.result c.bars.result (omega (arith, c.row-row.ensures.length, ap (λ (h : HeldLocks). h.stations) c.self.view_is)) c.index-row-other.is c.bars.ensures.value c.loop-other.invariant ∙ c.if-bars.false
