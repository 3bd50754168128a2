use Rattle.std.proofs.Common.{◌≡◌, refl, sym, ◌∙◌}
use Rattle.dbf_image.specs.Store.{texts_of, memo_count}
use Rattle.dbf_image.proofs.Rows.{chunks_take}
use Rattle.dbf_image.proofs.PlainRows.{plain_rows}
use Rattle.dbf_image.proofs.dbf.rows.put_records.Goals as goal

pub returns-then-are_written_flags : goal.returns-then-are_written_flags
returns-then-are_written_flags g c =
    let fields = c.args.fields.now in
    let store = c.args.store in
    let bytes = store.records.now in
    let size = c.args.header.record_length in
    let count = c.args.header.record_count in
    let none : memo_count fields ≡ 0 = sym c.memo_count_of.ensures.value ∙ c.if-memo_count_of-eq0.true in
    let flags = rw (c.split_at.ensures.front, c.from-size.ensures, chunks_take size count bytes) at (c.if-are_written_flags.ensures.value refl) in
    let same = plain_rows fields size count bytes (texts_of store.texts.now.texts store.memos.now) 1 none c.requires.wide c.requires.room flags in
    record { put = (c.put.ensures.put.0, rw (same, c.put.ensures.put.1, c.split_at.ensures.front, c.from-size.ensures) refl) }
