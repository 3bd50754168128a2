use Rattle.std.proofs.lemmas.List.{drop-take}
use Rattle.dbf_image.proofs.table.records.RecordBytes.of_file.Goals as goal

pub returns : goal.returns
returns c = record { items = rw (c.truncate.ensures.items, c.into_vec-bytes.ensures.items) (drop-take c.args.start c.args.size c.args.file) }
