use Rattle.dbf_image.proofs.ReadBack.{HasName}
use Rattle.std.proofs.Common.{arith}
use Rattle.dbf_image.proofs.Writing.{name_fits}
use Rattle.dbf_image.proofs.dbf.write.put_descriptors.Goals as goal

pub descriptor_bytes-requires : goal.descriptor_bytes-requires
descriptor_bytes-requires g c =
    let name : HasName c.field-item.result = rw c.field-item.is (name_fits c.args.fields.now c.requires.schema c.loop-field.field-index _ c.loop-field-test.true) in
    record { short = omega (arith, name.short) }
