use Rattle.std.proofs.Common.{take}
use Rattle.std.specs.Prelude.{flat_map}
use Rattle.dbf_image.specs.Blocks.{block_bytes}
use Rattle.byte_io.specs.Output.{Puts}
use Rattle.dbf_image.specs.Store.{text_of}
use Rattle.dbf_image.proofs.dbt.write.put_blocks.Given as goal

abbrev pub invariant-loop-number : goal.invariant-loop-number
invariant-loop-number g l = Puts l.fn.out (flat_map (λ n. block_bytes (text_of l.texts.texts n)) (take l.number-index l.memos)) l.out
