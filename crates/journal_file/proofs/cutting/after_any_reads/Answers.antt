use Rattle.journal_file.proofs.ReadLaws.{no_reads}
use Rattle.journal_file.proofs.cutting.after_any_reads.Goals as goal

pub returns-in-None-clause-none : goal.returns-in-None-clause-none
returns-in-None-clause-none c = no_reads c.args.text.now _ _ c.cut_sums.ensures.found c.in-None.ensures.none
