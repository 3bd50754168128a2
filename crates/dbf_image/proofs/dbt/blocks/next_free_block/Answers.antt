use Rattle.std.proofs.Common.{length, arith}
use Rattle.dbf_image.proofs.JoinLaws.{next_read, free_some, free_none, memos_all}
use Rattle.dbf_image.proofs.dbt.blocks.next_free_block.Goals as goal

pub blocks_after-next-requires-clause-count_bounded : goal.blocks_after-next-requires-clause-count_bounded
blocks_after-next-requires-clause-count_bounded c =
    let table = c.args.table.now in
    omega (arith, c.store.ensures.kept.many, memos_all table.schema (length table.rows) c.record_count.ensures.each.fields c.record_count.ensures.each.count_bounded)

pub returns-then-next-le-MAX_BLOCK_NUMBER : goal.returns-then-next-le-MAX_BLOCK_NUMBER
returns-then-next-le-MAX_BLOCK_NUMBER c =
    let table = c.args.table.now in
    record { value = free_some _ _ (next_read _ table.schema table.rows (length table.rows) _ _ _ c.store.ensures.kept.many c.store.ensures.rows c.blocks_after-next.ensures.value) (omega arith) }

pub returns-else-next-le-MAX_BLOCK_NUMBER : goal.returns-else-next-le-MAX_BLOCK_NUMBER
returns-else-next-le-MAX_BLOCK_NUMBER c =
    let table = c.args.table.now in
    record { value = free_none _ _ (next_read _ table.schema table.rows (length table.rows) _ _ _ c.store.ensures.kept.many c.store.ensures.rows c.blocks_after-next.ensures.value) (omega arith) }
