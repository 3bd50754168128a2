use Rattle.std.proofs.Common.{sym}
use Rattle.dbf_image.specs.Store.{texts_of}
use Rattle.dbf_image.proofs.Rows.{store_table, length-rows_of}
use Rattle.dbf_image.proofs.table.growing.GrowingTable.record_count.Goals as goal

pub returns-clause-count : goal.returns-clause-count
returns-clause-count c =
    let inside = c.self.inside in
    rw (← c.self.view_is) (sym (length-rows_of inside.schema inside.count inside.records.items (texts_of inside.texts.texts inside.memos.items)))

pub returns-clause-each : goal.returns-clause-each
returns-clause-each c =
    let inside = c.self.inside in
    rw (← c.self.view_is) (store_table inside.schema inside.count inside.records.items inside.texts.texts inside.memos.items c.fields.ensures.each c.self.invariant)
