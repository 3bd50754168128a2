use Rattle.std.proofs.Common.{take}
use Rattle.dbf_image.specs.MemoSteps.{Marks}
use Rattle.dbf_image.proofs.memo_store.marks.mark.Given as goal

abbrev pub invariant-mark : goal.invariant-mark
invariant-mark l = Marks l.fn.blocks l.blocks (take l.number-index l.numbers)
