use Rattle.dbf_image.proofs.Packing.{part_moved}
use Rattle.dbf_image.proofs.table.packing.move_part.Goals as goal

pub returns : goal.returns
returns g c = record { moved = rw c.copy_within.ensures.items (part_moved c.args.list.now.items c.args.size c.args.from c.args.to c.requires.before c.requires.inside) }
