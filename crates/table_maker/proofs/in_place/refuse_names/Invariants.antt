use Rattle.std.proofs.Common.{◌≡◌, ◌≤◌, take}
use Rattle.table_maker.specs.Placing.{IsFree, StaysRecovered}
use Rattle.table_maker.proofs.in_place.refuse_names.Given as goal

-- the names so far have no file, and the disk has been looked at alone
abbrev pub invariant-loop-name : goal.invariant-loop-name
invariant-loop-name g l =
    let m = g.D.Disk.meaning in
    record {
      free : m.keeps_promises → IsFree (take l.name-index l.names) (m.seen l.fn.disk);
      recovered : StaysRecovered m l.fn.disk l.disk;
      same : m.seen l.disk ≡ m.seen l.fn.disk;
      later : m.faults l.fn.disk ≤ m.faults l.disk;
    }
