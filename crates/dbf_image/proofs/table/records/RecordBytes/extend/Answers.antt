use Rattle.std.proofs.Common.{◌≤◌, length, arith}
use Rattle.std.proofs.lemmas.List.{drop-append-le}
use Rattle.dbf_image.proofs.table.records.RecordBytes.extend.Goals as goal

pub returns : goal.returns
returns c =
    let inside = c.self.inside in
    let low : inside.start ≤ length inside.bytes.items = omega (arith, c.self.invariant, inside.bytes.ok.0) in
    record { items = rw (← c.self.view_is, c.extend_reserved.ensures.items) (drop-append-le inside.start inside.bytes.items c.args.more.now low) }
