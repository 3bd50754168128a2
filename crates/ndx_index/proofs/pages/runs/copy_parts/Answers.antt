use Rattle.std.proofs.Common.{◌∙◌, ◌*◌, drop, ap}
use lib.Seq.{paste}
use Rattle.ndx_index.proofs.RunLaws.{times_minus}
use Rattle.ndx_index.proofs.pages.runs.copy_parts.Goals as goal

pub returns-clause-items : goal.returns-clause-items
returns-clause-items c = c.copy_within.ensures.items ∙ ap (paste c.args.run.now.items (c.args.dest * c.args.size) (drop (c.args.start * c.args.size) c.args.run.now.items)) (times_minus c.args.start c.args.end c.args.size c.requires.order)
