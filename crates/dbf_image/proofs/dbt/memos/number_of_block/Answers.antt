use Rattle.std.proofs.Common.{refl, ◌∙◌, arith}
use Rattle.dbf_image.proofs.MemoReading.{block_may, block_inside, span_text, span_inside, span_short, noted}
use Rattle.dbf_image.proofs.dbt.memos.number_of_block.Goals as goal

pub push_file_text-requires-clause-short : goal.push_file_text-requires-clause-short
push_file_text-requires-clause-short c = span_short c.args.dbt.now c.args.block c.in_ok-span.span c.in_ok-span.ensures.value c.in_ok-span.ensures.accepted

pub returns-clause-reading : goal.returns-clause-reading
returns-clause-reading c =
    let dbt = c.args.dbt.now in
    let block = c.args.block in
    let span = c.in_ok-span.span in
    let accepted = c.in_ok-span.ensures.accepted in
    let text = span_text dbt block span c.in_ok-span.ensures.value in
    let pushed = c.in_ok-number.ensures in
    let inside = block_inside dbt block accepted in
    noted dbt c.args.memos.now _ block c.in_ok-number.number c.requires.reading (pushed.others dbt) (omega (arith, inside, c.requires.reading.many)) refl refl
    (pushed.memo dbt (rw text (block_may dbt block accepted))) (pushed.value dbt ∙ text) pushed.few
    (pushed.inside dbt (span_inside dbt block span c.in_ok-span.ensures.value accepted) c.requires.reading.inside)

pub returns-clause-kept : goal.returns-clause-kept
returns-clause-kept c = c.in_ok-number.ensures.others c.args.dbt.now

pub returns-clause-memo : goal.returns-clause-memo
returns-clause-memo c =
    let text = span_text c.args.dbt.now c.args.block c.in_ok-span.span c.in_ok-span.ensures.value in
    c.in_ok-number.ensures.memo c.args.dbt.now (rw text (block_may c.args.dbt.now c.args.block c.in_ok-span.ensures.accepted))

pub returns-clause-text : goal.returns-clause-text
returns-clause-text c = c.in_ok-number.ensures.value c.args.dbt.now ∙ span_text c.args.dbt.now c.args.block c.in_ok-span.span c.in_ok-span.ensures.value
