use Rattle.std.proofs.Common.{◌-◌, ◌*◌, ◌≤◌, length}
use Rattle.std.specs.List.{AllByRecursion}
use Rattle.dbf_image.specs.Store.{HasWrittenFlag}
use Rattle.dbf_image.specs.DbfText.{chunks}
use Rattle.dbf_image.proofs.dbf.rows.are_written_flags.Given as goal

-- the records that are left decide
abbrev pub invariant-loop : goal.invariant-loop
invariant-loop l =
    let left = l.fn.count - l.counter in
    record {
      room : left * l.fn.size ≤ length l.rest;
      left : AllByRecursion HasWrittenFlag (chunks l.fn.size left l.rest) → AllByRecursion HasWrittenFlag (chunks l.fn.size l.fn.count l.fn.records);
    }
