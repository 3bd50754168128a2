use Rattle.std.proofs.Common.{◌<◌, length, drop, arith}
use Rattle.std.proofs.lemmas.List.{length-drop, drop-set-add}
use Rattle.dbf_image.proofs.table.records.RecordBytes.set.Goals as goal

pub index_mut-requires : goal.index_mut-requires
index_mut-requires c =
    let inside = c.self.inside in
    let index : c.args.index < length (drop inside.start inside.bytes.items) = rw (← c.self.view_is) at c.requires.inside in
    omega (arith, index, length-drop inside.start inside.bytes.items, inside.bytes.ok.0)

pub returns : goal.returns
returns c =
    let inside = c.self.inside in
    record { items = rw (← c.self.view_is) (drop-set-add inside.start inside.bytes.items c.args.index c.args.byte) }
