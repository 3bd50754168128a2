use Rattle.dbf_image.specs.MemoSteps.{Sweeps}
use Rattle.dbf_image.proofs.memo_store.marks.sweep.Given as goal

abbrev pub invariant-sweep : goal.invariant-sweep
invariant-sweep l = Sweeps l.i l.fn.blocks l.blocks l.free
