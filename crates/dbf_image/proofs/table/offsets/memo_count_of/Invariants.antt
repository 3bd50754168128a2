use Rattle.std.proofs.Common.{◌≡◌, ◌+◌, drop}
use Rattle.dbf_image.specs.Store.{memo_count}
use Rattle.dbf_image.proofs.table.offsets.memo_count_of.Given as goal

abbrev pub invariant-loop-field : goal.invariant-loop-field
invariant-loop-field l = l.count + memo_count (drop l.field-index l.fields) ≡ memo_count l.fields
