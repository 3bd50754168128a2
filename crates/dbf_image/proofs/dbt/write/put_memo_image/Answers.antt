use Rattle.std.proofs.Common.{length, refl, ◌∙◌}
use Rattle.dbf_image.specs.Blocks.{memo_image}
use Rattle.dbf_image.proofs.JoinLaws.{memos_read}
use Rattle.byte_io.specs.Laws.Puts.{more_both}
use Rattle.dbf_image.proofs.dbt.write.put_memo_image.Goals as goal

pub returns : goal.returns
returns g c =
    let table = c.args.table.now in
    let memos = memos_read table.schema table.rows (length table.rows) _ _ _ c.store-store.ensures.kept.many c.store-store.ensures.rows in
    record {
      put = (
        c.put_blocks.ensures.put.0 ∙ c.put.ensures.put.0,
        rw (c.put_blocks.ensures.put.1, memos, c.put.ensures.put.1, c.header_block.ensures.value, c.requires.next) (more_both _ _ _ (memo_image table) refl),
      );
    }
