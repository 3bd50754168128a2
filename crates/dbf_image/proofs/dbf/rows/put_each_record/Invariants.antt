use Rattle.std.proofs.Common.{◌≡◌, ◌+◌, ◌-◌, ◌*◌, ◌≤◌, length}
use Rattle.std.specs.List.{AllByRecursion}
use Rattle.dbf_image.specs.declared.format.TheConstants.{MAX_MEMO_BLOCKS}
use Rattle.dbf_image.specs.Store.{IsMemo}
use Rattle.byte_io.specs.Writer.{more}
use Rattle.dbf_image.proofs.Steps.{left_rows}
use Rattle.dbf_image.proofs.dbf.rows.put_each_record.Given as goal

-- what is written and what is left make the whole
abbrev pub invariant-loop : goal.invariant-loop
invariant-loop g l =
    let count = l.fn.header.record_count in
    let left = count - l.counter in
    let texts = l.fn.store.texts.now.texts in
    record {
      room : left * l.size ≤ length l.rest;
      many : left * l.memos_each ≤ length l.memos;
      each : AllByRecursion (IsMemo texts) l.memos;
      count_bounded : l.next + MAX_MEMO_BLOCKS * (left * l.memos_each) ≤ 1 + MAX_MEMO_BLOCKS * (count * l.memos_each);
      same : l.out.sink.ghost_name ≡ l.fn.out.sink.ghost_name;
      left : more l.out.wanted (left_rows l.next l.fields l.size left l.rest texts l.memos) ≡ more l.fn.out.wanted (left_rows 1 l.fields l.size count l.fn.store.records.now texts l.fn.store.memos.now);
    }
