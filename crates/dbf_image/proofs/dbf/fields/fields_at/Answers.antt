use Rattle.std.proofs.Common.{◌∙◌, arith}
use Rattle.dbf_image.specs.DbfText.{field_of}
use Rattle.dbf_image.proofs.Chunks.{chunks-next}
use Rattle.dbf_image.specs.declared.format.TheConstants.{DESCRIPTOR}
use Rattle.dbf_image.proofs.dbf.fields.fields_at.Goals as goal

pub loop-preserved : goal.loop-preserved
loop-preserved c = record {
  room = omega (arith, c.split_at.ensures.back_len);
  read = rw (c.in_ok-push.ensures.items, c.in_ok-field_at.ensures.value, c.split_at.ensures.front, c.split_at.ensures.back)
      (chunks-next field_of DESCRIPTOR c.args.count c.loop.counter c.loop.rest.now c.loop.fields.items c.loop-test.true ∙ c.loop.invariant.read);
}
