use Rattle.std.proofs.Common.{◌∙◌}
use Rattle.dbf_image.proofs.Steps.{rows_same}
use Rattle.dbf_image.proofs.Writing.{image_put}
use Rattle.dbf_image.proofs.dbf.write.put_image.Goals as goal

pub returns : goal.returns
returns g c =
    let day = c.args.day in
    let table = c.args.table.now in
    let header = rw (c.version_byte.ensures.value, c.requires.count, c.requires.header, c.requires.wide, c.fields-fields.ensures.fields, c.schema.ensures.value) at c.header_bytes.ensures.value in
    let same = rows_same table.schema table.rows c.args.header.record_length c.args.header.record_count c.store.result.records.now c.store.result.texts.now.texts c.store.result.memos.now c.store.ensures.rows c.requires.wide c.requires.count in
    record {
      put = (
        c.put-3.ensures.put.0 ∙ (c.put_records.ensures.put.0 ∙ (c.put-2.ensures.put.0 ∙ (c.put_descriptors.ensures.put.0 ∙ c.put.ensures.put.0))),
        rw (c.put-3.ensures.put.1, c.put_records.ensures.put.1, c.put-2.ensures.put.1, c.put_descriptors.ensures.put.1, c.put.ensures.put.1, header, c.fields-fields.ensures.fields, c.schema.ensures.value, same)
            (image_put c.args.out.now.wanted table day.year day.month day.day),
      );
    }
