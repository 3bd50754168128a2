use Rattle.std.proofs.Common.{◌∙◌, ap, arith}
use Rattle.dbf_image.specs.MemoStore.{used_blocks}
use Rattle.dbf_image.specs.Laws.MemoCallers.{after_put}
use Rattle.dbf_image.proofs.MemoNumbers.{text_got, memo_got, put_keeps}
use Rattle.dbf_image.proofs.MemoTotals.{used_insert}
use Rattle.dbf_image.proofs.table.memo.put_memo.Goals as goal

pub returns-clause-memo : goal.returns-clause-memo
returns-clause-memo c = memo_got c.put.new.self.texts c.put.result c.args.text.now c.put.ensures.positive (after_put _ _ _ _ c.put.ensures.texts) c.requires.may

pub returns-clause-value : goal.returns-clause-value
returns-clause-value c = text_got c.put.new.self.texts c.put.result c.args.text.now c.put.ensures.positive (after_put _ _ _ _ c.put.ensures.texts)

pub returns-clause-others : goal.returns-clause-others
returns-clause-others c = put_keeps c.args.texts.now.texts c.put.new.self.texts c.put.result c.args.text.now c.put.ensures.fresh c.put.ensures.texts

pub returns-clause-used : goal.returns-clause-used
returns-clause-used c =
    let more = ap used_blocks c.put.ensures.texts ∙ used_insert c.args.texts.now.texts c.put.result c.args.text.now c.put.ensures.fresh in
    omega (arith, more)
