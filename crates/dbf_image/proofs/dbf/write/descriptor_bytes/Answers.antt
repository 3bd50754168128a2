use Rattle.dbf_image.proofs.Writing.{descriptor_built}
use Rattle.dbf_image.proofs.dbf.write.descriptor_bytes.Goals as goal

pub returns : goal.returns
returns c = record { value = rw (c.copy_from_slice.ensures.after, c.as_slice-name.ensures.value) (descriptor_built c.args.field.now c.requires.short) }
