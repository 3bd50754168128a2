use Rattle.ndx_index.proofs.ImageLaw.{read_back, read_back_plain}
use Rattle.ndx_index.proofs.reads_back.Goals as goal

pub returns : goal.returns
returns c = record { law = read_back; plain = read_back_plain }
