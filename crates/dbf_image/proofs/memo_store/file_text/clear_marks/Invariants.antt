use Rattle.dbf_image.specs.FileTexts.{Unmarks}
use Rattle.dbf_image.proofs.memo_store.file_text.clear_marks.Given as goal

abbrev pub invariant-loop-i : goal.invariant-loop-i
invariant-loop-i l = Unmarks l.i l.fn.texts l.texts
