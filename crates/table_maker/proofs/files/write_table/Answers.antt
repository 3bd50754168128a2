use Rattle.byte_io.specs.Laws.OfBytes.{slice_is_bytes}
use Rattle.folders.proofs.ByteLaws.{file_on_ok}
use Rattle.table_maker.specs.Making.{dated_file}
use Rattle.table_maker.proofs.MakeLaws.{written_file}
use Rattle.table_maker.proofs.files.write_table.Goals as goal

pub returns-clause-wrote : goal.returns-clause-wrote
returns-clause-wrote g c =
    written_file _ _ _ _ (dated_file c.args.name.now c.args.table.now c.args.day) c.in_ok-begin.ensures.begun c.put_table.ensures.wrote

pub returns-clause-bytes : goal.returns-clause-bytes
returns-clause-bytes g c =
    file_on_ok _ (dated_file c.args.name.now c.args.table.now c.args.day) (slice_is_bytes c.args.name.now c.type_inv.name) c.put_table.ensures.bytes
