use Rattle.ndx_index.proofs.OneReading.{only_from}
use Rattle.ndx_index.proofs.read.read_ndx_at.Goals as goal

pub returns-clause-only : goal.returns-clause-only
returns-clause-only c = λ text key_len pairs is. only_from c.args.bytes.now text key_len pairs c.read_file.result c.read_file.ensures.found c.read_file.ensures.refused is
