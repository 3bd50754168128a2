use Rattle.std.proofs.Common.{refl}
use Rattle.dbf_image.specs.Store.{texts_of}
use Rattle.dbf_image.proofs.Rows.{length-rows_of}
use Rattle.dbf_image.proofs.table.growing.GrowingTable.store.Goals as goal

pub returns-clause-rows : goal.returns-clause-rows
returns-clause-rows c =
    let inside = c.self.inside in
    rw (← c.self.view_is, c.as_slice.ensures.value, c.as_slice-2.ensures.value)
    (rw (length-rows_of inside.schema inside.count inside.records.items (texts_of inside.texts.texts inside.memos.items)) refl)

pub returns-clause-kept : goal.returns-clause-kept
returns-clause-kept c =
    let inside = c.self.inside in
    rw (← c.self.view_is, c.as_slice.ensures.value, c.as_slice-2.ensures.value)
    (rw (length-rows_of inside.schema inside.count inside.records.items (texts_of inside.texts.texts inside.memos.items)) c.self.invariant)
