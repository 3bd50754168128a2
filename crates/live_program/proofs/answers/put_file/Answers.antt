use Rattle.byte_io.specs.Laws.OfBytes.{slice_is_bytes}
use Rattle.live_program.proofs.FileLaws.{one_of_bytes}
use Rattle.live_program.proofs.answers.put_file.Goals as goal

pub returns-clause-bytes : goal.returns-clause-bytes
returns-clause-bytes g c = one_of_bytes _ c.args.name.now c.args.bytes.now (slice_is_bytes c.args.name.now c.type_inv.name) c.write_all.ensures.bytes
