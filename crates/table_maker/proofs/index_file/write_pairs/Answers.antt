use Rattle.byte_io.specs.Laws.OfBytes.{slice_is_bytes}
use Rattle.folders.proofs.ByteLaws.{file_on_ok}
use Rattle.table_maker.specs.MadeIndex.{index_file}
use Rattle.table_maker.proofs.index_file.write_pairs.Goals as goal

pub returns-clause-bytes : goal.returns-clause-bytes
returns-clause-bytes g c =
    file_on_ok _ (index_file c.args.name.now c.args.key.now c.args.pairs.now.pairs) (slice_is_bytes c.args.name.now c.type_inv.name) c.put_index.ensures.bytes
