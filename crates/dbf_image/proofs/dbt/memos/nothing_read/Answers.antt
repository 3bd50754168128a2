use Rattle.std.proofs.Common.{◌+◌, ◌/◌, length, ◌∙◌}
use Rattle.dbf_image.specs.declared.format.TheConstants.{BLOCK}
use Rattle.dbf_image.proofs.MemoReading.{filled, starts}
use Rattle.dbf_image.proofs.dbt.memos.nothing_read.Goals as goal

pub returns-clause-reading : goal.returns-clause-reading
returns-clause-reading c =
    let filled_up = filled c.new-of_block.result.items (length c.args.dbt.now / BLOCK + 1) _ c.new-of_block.ensures.items c.new-of_block.ensures.len in
    starts c.args.dbt.now _ (c.in_ok-resize.ensures.items ∙ filled_up) c.new-2.ensures.items c.new.ensures.items
