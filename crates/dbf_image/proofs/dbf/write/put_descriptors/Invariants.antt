use Rattle.std.proofs.Common.{take}
use Rattle.std.specs.Prelude.{flat_map}
use Rattle.dbf_image.specs.Image.{descriptor}
use Rattle.byte_io.specs.Output.{Puts}
use Rattle.dbf_image.proofs.dbf.write.put_descriptors.Given as goal

abbrev pub invariant-loop-field : goal.invariant-loop-field
invariant-loop-field g l = Puts l.fn.out (flat_map descriptor (take l.field-index l.fields)) l.out
