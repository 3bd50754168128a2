use Rattle.std.proofs.Common.{sym}
use Rattle.ndx_index.proofs.RunLaws.{length-pairs}
use Rattle.ndx_index.proofs.pair_list.part.ListPart.len.Goals as goal

pub returns : goal.returns
returns c = record { count = sym (length-pairs c.args.self.key_len c.args.self.keys.now c.args.self.numbers.now) }
