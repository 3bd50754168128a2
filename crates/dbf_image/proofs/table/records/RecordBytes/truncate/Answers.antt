use Rattle.std.proofs.lemmas.List.{drop-take}
use Rattle.dbf_image.proofs.table.records.RecordBytes.truncate.Goals as goal

pub returns : goal.returns
returns c = record { items = rw (← c.self.view_is, c.truncate.ensures.items) (drop-take c.self.inside.start c.args.count c.self.inside.bytes.items) }
