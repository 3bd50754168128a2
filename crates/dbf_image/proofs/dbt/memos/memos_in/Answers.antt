use Rattle.std.proofs.Common.{◌+◌}
use Rattle.dbf_fields.specs.Field.{widths}
use Rattle.dbf_image.specs.DbfText.{chunks}
use Rattle.dbf_image.proofs.MemoRows.{rows_view, store_read}
use Rattle.dbf_image.proofs.dbt.memos.memos_in.Goals as goal

pub returns-clause-value : goal.returns-clause-value
returns-clause-value c =
    let schema = c.args.schema.now in
    let read = rw (c.fields.ensures.fields, c.record_length-size.ensures.value, c.as_slice.ensures.value) at c.in_ok-texts.ensures.texts in
    rw (c.in_ok-store.ensures.texts, c.into_vec.ensures.items) (rw read (rows_view c.args.dbt schema (chunks (1 + widths schema) c.args.count c.args.bytes.now)))

pub returns-clause-kept : goal.returns-clause-kept
returns-clause-kept c =
    let schema = c.args.schema.now in
    let read = rw (c.fields.ensures.fields, c.record_length-size.ensures.value, c.as_slice.ensures.value) at c.in_ok-texts.ensures.texts in
    let each = rw c.as_slice.ensures.value at c.in_ok-texts.ensures.reading.each in
    rw (c.in_ok-store.ensures.texts, c.into_vec.ensures.items) (store_read c.args.dbt schema c.args.count c.args.bytes.now _ _ c.requires.records each read)
