use Rattle.std.proofs.Common.{◌≡◌, take}
use Rattle.arrayvec.specs.ArrayVec.{array_vec_len}
use Rattle.station_lines.specs.Script.Parts.{capitals}
use Rattle.station_lines.proofs.setup.tables.short_capitals.Given as goal

abbrev pub invariant-loop-byte : goal.invariant-loop-byte
invariant-loop-byte l = record {
  items : l.name.items ≡ take l.byte-index (capitals l.word);
  count : array_vec_len l.name ≡ l.byte-index;
}
