use Rattle.std.proofs.Common.{take}
use Rattle.dbf_image.specs.FileTexts.{MarksTexts}
use Rattle.dbf_image.proofs.memo_store.file_text.mark_texts.Given as goal

abbrev pub invariant-loop-number : goal.invariant-loop-number
invariant-loop-number l = MarksTexts l.fn.texts l.texts (take l.number-index l.numbers)
