use Rattle.journal_file.proofs.TextLaws.{neither}
use Rattle.journal_file.proofs.cutting.cut_reindex.Goals as goal

pub returns-in-None-clause-none : goal.returns-in-None-clause-none
returns-in-None-clause-none c = neither c.args.text.now c.in_default.ensures.none c.in-None.ensures.none
