use Rattle.dbf_image.proofs.Groups.{found_by, only_by}
use Rattle.dbf_image.proofs.MemoTests.{text_ok, ok_text}
use Rattle.dbf_image.proofs.dbt.memo.read_memo.Goals as goal

pub returns-clause-found : goal.returns-clause-found
returns-clause-found c = found_by _ _ _ _ c.text_of_block.ensures.accepted c.text_of_block.ensures.value (text_ok c.args.dbt.now c.args.block)

pub returns-clause-only : goal.returns-clause-only
returns-clause-only c = λ text h. only_by _ _ _ _ c.text_of_block.ensures.value c.text_of_block.ensures.refused (ok_text c.args.dbt.now text c.args.block h) h.text_is
