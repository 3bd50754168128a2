use Rattle.dbf_image.specs.FileTexts.{DropsTexts}
use Rattle.dbf_image.proofs.memo_store.file_text.drop_unmarked.Given as goal

abbrev pub invariant-loop-i : goal.invariant-loop-i
invariant-loop-i l = DropsTexts l.i l.fn.texts l.texts
