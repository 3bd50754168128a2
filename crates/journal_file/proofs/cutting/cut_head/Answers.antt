use Rattle.journal_file.proofs.TextLaws.{no_reindex, no_count_line}
use Rattle.journal_file.proofs.cutting.cut_head.Goals as goal

pub returns-in_default-clause-none : goal.returns-in_default-clause-none
returns-in_default-clause-none c = no_reindex c.args.text.now _ _ c.cut_sums.ensures.found c.in_default.ensures.none

pub returns-in_default-cut_count-clause-none : goal.returns-in_default-cut_count-clause-none
returns-in_default-cut_count-clause-none c =
    no_count_line c.args.text.now _ _ _ _ c.cut_sums.ensures.found c.in-Some.ensures.found c.in_default-cut_count.ensures.none
