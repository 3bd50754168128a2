use Rattle.std.proofs.Common.{◌≤◌, ◌+◌, ◌*◌, length, drop, arith}
use Rattle.dbf_image.proofs.BytesBehind.{move_behind}
use Rattle.dbf_image.proofs.table.records.RecordBytes.move_part.Goals as goal

pub returns : goal.returns
returns c =
    let inside = c.self.inside in
    let low : inside.start ≤ length inside.bytes.items = omega (arith, c.self.invariant, inside.bytes.ok.0) in
    let room : c.args.from * c.args.size + c.args.size ≤ length (drop inside.start inside.bytes.items) = rw (← c.self.view_is) at c.requires.inside in
    record { moved = rw (← c.self.view_is, c.copy_within.ensures.items) (move_behind inside.start c.args.size c.args.from c.args.to inside.bytes.items c.requires.before low room) }
