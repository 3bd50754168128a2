use Rattle.std.proofs.lemmas.List.{take_more}
use Rattle.dbf_image.proofs.memo_store.file_text.mark_texts.Goals as goal

pub loop-number-preserved : goal.loop-number-preserved
loop-number-preserved c = rw (take_more c.args.numbers.now c.loop-number.number-index 0 c.loop-number-test.true) (c.mark_text.ensures.marks c.args.texts.now _ c.loop-number.invariant)
