use Rattle.std.proofs.Common.{◌∙◌, arith}
use Rattle.dbf_image.proofs.Numbers.{number_none, number_some}
use Rattle.dbf_image.proofs.dbt.blocks.block_number_cell.Goals as goal

pub returns-then-text_length-eq0 : goal.returns-then-text_length-eq0
returns-then-text_length-eq0 c = record { value = λ text e. c.justified_number.ensures.value ∙ number_none c.args.next c.args.text_length c.if-text_length-eq0.true text e }

pub returns-else-text_length-eq0 : goal.returns-else-text_length-eq0
returns-else-text_length-eq0 c = record { value = λ text e. c.justified_number-else-text_length-eq0.ensures.value ∙ number_some c.args.next c.args.text_length (omega arith) text e }
