use Rattle.journal_file.proofs.TextLaws.{no_lines, no_tail, all_parts}
use Rattle.journal_file.proofs.cutting.cut_whole.Goals as goal

pub returns-in_default-cut_entries-clause-none : goal.returns-in_default-cut_entries-clause-none
returns-in_default-cut_entries-clause-none c = no_lines c.args.text.now _ _ _ _ c.in-Some.ensures.found c.in_default-cut_entries.ensures.none

pub returns-in_default-cut_tail-clause-none : goal.returns-in_default-cut_tail-clause-none
returns-in_default-cut_tail-clause-none c =
    no_tail c.args.text.now _ _ _ _ _ _ c.in-Some.ensures.found c.in-Some-cut_entries.ensures.found c.in_default-cut_tail.ensures.none

pub returns-clause-found : goal.returns-clause-found
returns-clause-found c =
    all_parts c.args.text.now _ _ _ c.in-Some.ensures.found c.in-Some-cut_entries.ensures.found c.in-Some-cut_tail.ensures.found
