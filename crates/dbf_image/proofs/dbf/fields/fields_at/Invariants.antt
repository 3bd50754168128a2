use Rattle.std.proofs.Common.{◌≡◌, ◌-◌, ◌*◌, ◌≤◌, ◌++◌, length, map}
use Rattle.dbf_image.specs.DbfText.{chunks, field_of}
use Rattle.dbf_image.specs.declared.format.TheConstants.{DESCRIPTOR}
use Rattle.dbf_image.proofs.dbf.fields.fields_at.Given as goal

abbrev pub invariant-loop : goal.invariant-loop
invariant-loop l = record {
  room : DESCRIPTOR * (l.count - l.counter) ≤ length l.rest;
  read : l.fields.items ++ map field_of (chunks DESCRIPTOR (l.count - l.counter) l.rest) ≡ map field_of (chunks DESCRIPTOR l.count l.bytes);
}
