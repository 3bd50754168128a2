use Rattle.std.proofs.Common.{arith}
use Rattle.dbf_image.proofs.BlockLaws.{blocks_none, blocks_some}
use Rattle.dbf_image.proofs.dbt.blocks.block_count.Goals as goal

pub returns-then-text_length-eq0-clause-value : goal.returns-then-text_length-eq0-clause-value
returns-then-text_length-eq0-clause-value c = blocks_none c.args.text_length c.if-text_length-eq0.true

pub returns-else-text_length-eq0-clause-value : goal.returns-else-text_length-eq0-clause-value
returns-else-text_length-eq0-clause-value c = blocks_some c.args.text_length (omega arith)
