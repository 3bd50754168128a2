use Rattle.dbf_image.specs.MemoNumbers.{read_texts}
use Rattle.dbf_image.proofs.MemoReading.{texts_cell}
use Rattle.dbf_image.proofs.PartLaws.{memo_refuses}
use Rattle.dbf_image.proofs.dbt.memos.read_cell.Goals as goal

pub returns-in-Err-clause-refused : goal.returns-in-Err-clause-refused
returns-in-Err-clause-refused c =
    memo_refuses c.args.dbt.now c.args.record_number c.args.field_number c.args.field.now c.args.cell.now c.in-Err.why _ c.if-field-eq-MEMO.true c.memo_part.ensures.value c.in-Err.ensures.refused

pub returns-in_ok-push-in-Ok-clause-texts : goal.returns-in_ok-push-in-Ok-clause-texts
returns-in_ok-push-in-Ok-clause-texts c =
    let added = rw c.in-Ok.ensures.same at c.in_ok-push-in-Ok.ensures.items in
    texts_cell c.args.dbt.now c.args.field.now c.args.cell.now (read_texts c.args.dbt.now c.args.memos.now) (read_texts c.args.dbt.now c.number_of_cell.new.memos) c.args.memos.now.numbers.items _ c.in-Ok.number c.if-field-eq-MEMO.true c.in-Ok.ensures.kept c.requires.reading.each c.in-Ok.ensures.text added
