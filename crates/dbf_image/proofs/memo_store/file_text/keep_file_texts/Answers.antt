use Rattle.dbf_image.proofs.FileTextMarks.{keeps_from}
use Rattle.dbf_image.proofs.memo_store.file_text.keep_file_texts.Goals as goal

pub returns : goal.returns
returns c = record { keeps = keeps_from c.args.texts.now c.mark_texts.new.texts c.drop_unmarked.new.texts c.args.numbers.now c.mark_texts.ensures.marks c.drop_unmarked.ensures.drops }
