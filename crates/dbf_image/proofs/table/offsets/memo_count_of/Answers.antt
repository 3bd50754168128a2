use Rattle.std.proofs.Common.{arith}
use Rattle.dbf_image.proofs.CellOffsets.{memo_count_le}
use Rattle.dbf_image.proofs.table.offsets.memo_count_of.Goals as goal

pub overflow_add-count : goal.overflow_add-count
overflow_add-count c = omega (arith, c.loop-field.invariant, memo_count_le c.args.fields.now, c.requires.count_bounded)

pub returns-clause-bounded : goal.returns-clause-bounded
returns-clause-bounded c = omega (arith, c.loop-field.invariant, memo_count_le c.args.fields.now, c.requires.count_bounded)
