use Rattle.std.proofs.Common.{◌≡◌, ◌+◌, ◌<◌, ℕ, List, [], length, get_or, nat_lt, ap, sym, subst, arith}
use Rattle.std.specs.List.{filter}
use Rattle.std.proofs.lemmas.List.{get_or_read}
use Rattle.std.below.core.specs.declared.int.u32.TheConstants.{MAX}
use Rattle.lock_table.specs.declared.TheConstants.{MAX_RECORD_LOCKS}
use Rattle.lock_table.specs.Numbers.{AreAtMost, IsTableOrRecords}
use Rattle.lock_table.specs.Locks.{HeldLocks}
use Rattle.lock_table.proofs.Each.{each_at}
use Rattle.lock_table.proofs.Rows.{count_step}
use Rattle.lock_table.proofs.Counts.{few_rowed, small_more}
use Rattle.lock_table.proofs.locks.Locks.record_locks.Goals as goal

pub record_count-count-requires : goal.record_count-count-requires
record_count-count-requires c =
    let i = c.loop-other.other in
    let row = c.row-row.result.now in
    let there : i < length row = omega (arith, c.row-row.ensures.length, ap (λ (h : HeldLocks). h.stations) c.self.view_is) in
    let P : List ℕ → Type 0 = IsTableOrRecords MAX_RECORD_LOCKS in
    record { allowed = subst P (sym (get_or_read row i c.index-row-other.result there c.index-row-other.is [])) (each_at row i c.row-row.ensures.each there).allowed }

pub overflow_add-count : goal.overflow_add-count
overflow_add-count c =
    let i = c.loop-other.other in
    let t = c.args.table in
    let row = c.row-row.result.now in
    let slot = c.index-row-other.result in
    let there : i < length row = omega (arith, c.row-row.ensures.length, ap (λ (h : HeldLocks). h.stations) c.self.view_is) in
    let at : slot ≡ get_or row i [] = get_or_read row i slot there c.index-row-other.is [] in
    let P : List ℕ → Type 0 = AreAtMost MAX in
    let all = small_more t MAX i row there c.loop-other.invariant.bounded (subst P at c.record_count-count.ensures.bounded) in
    let few = few_rowed c.args.self.now.locks t MAX (i + 1) row c.row-row.ensures.apart c.row-row.ensures.order c.row-row.ensures.locks all in
    let more = count_step t i row there in
    let same = ap (λ (ns : List ℕ). length (filter (λ n. nat_lt 0 n) ns)) at in
    omega (arith, few, more, same, c.loop-other.invariant.counted, c.record_count-count.ensures.value)

pub loop-other-preserved : goal.loop-other-preserved
loop-other-preserved c =
    let i = c.loop-other.other in
    let t = c.args.table in
    let row = c.row-row.result.now in
    let slot = c.index-row-other.result in
    let there : i < length row = omega (arith, c.row-row.ensures.length, ap (λ (h : HeldLocks). h.stations) c.self.view_is) in
    let at : slot ≡ get_or row i [] = get_or_read row i slot there c.index-row-other.is [] in
    let P : List ℕ → Type 0 = AreAtMost MAX in
    let more = count_step t i row there in
    let same = ap (λ (ns : List ℕ). length (filter (λ n. nat_lt 0 n) ns)) at in
    record {
      counted = omega (arith, more, same, c.loop-other.invariant.counted, c.record_count-count.ensures.value);
      bounded = small_more t MAX i row there c.loop-other.invariant.bounded (subst P at c.record_count-count.ensures.bounded);
    }
