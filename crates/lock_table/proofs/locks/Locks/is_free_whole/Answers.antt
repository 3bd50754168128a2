use Rattle.std.proofs.Common.{◌≡◌, ◌+◌, ◌∙◌, ap, sym, true, not, arith}
use Rattle.std.specs.List.{list_any}
use Rattle.lock_table.specs.Locks.{HeldLocks, is_others}
use Rattle.lock_table.proofs.Rows.{rowed, any_kept, whole_step}
use Rattle.lock_table.proofs.locks.Locks.is_free_whole.Goals as goal

pub returns-then-bars_table : goal.returns-then-bars_table
returns-then-bars_table c =
    let row = c.row-row.result.now in
    let i = c.loop-other.other in
    let hit : list_any (is_others c.args.station) (rowed c.args.table row (i + 1)) ≡ true =
    whole_step c.args.table c.args.station i row c.index-row-other.result c.bars_table.result (omega (arith, c.row-row.ensures.length, ap (λ (h : HeldLocks). h.stations) c.self.view_is)) c.index-row-other.is c.bars_table.ensures.value c.loop-other.invariant ∙ c.if-bars_table.true in
    record { value = sym (ap not (ap (list_any (is_others c.args.station)) c.row-row.ensures.locks ∙ any_kept (is_others c.args.station) c.args.table row (i + 1) hit)) }

pub loop-other-preserved : goal.loop-other-preserved
loop-other-preserved c =
    whole_step c.args.table c.args.station c.loop-other.other c.row-row.result.now c.index-row-other.result c.bars_table.result (omega (arith, c.row-row.ensures.length, ap (λ (h : HeldLocks). h.stations) c.self.view_is)) c.index-row-other.is c.bars_table.ensures.value c.loop-other.invariant ∙ c.if-bars_table.false
