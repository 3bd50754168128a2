use Rattle.dbf_image.specs.MemoSteps.{Clears}
use Rattle.dbf_image.proofs.memo_store.marks.clear.Given as goal

abbrev pub invariant-clear : goal.invariant-clear
invariant-clear l = Clears l.i l.fn.blocks l.blocks
