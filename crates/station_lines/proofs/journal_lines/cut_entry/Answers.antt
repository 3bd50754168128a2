use Rattle.station_lines.proofs.JournalLaws.{no_command_count, no_answer_count, no_command, no_answer}
use Rattle.station_lines.proofs.journal_lines.cut_entry.Goals as goal

pub returns-in_default-cut_number-clause-none : goal.returns-in_default-cut_number-clause-none
returns-in_default-cut_number-clause-none c =
    no_command_count _ _ _ c.in-Some.ensures.found c.in_default-cut_number.ensures.none

pub returns-in_default-cut_number-2-clause-none : goal.returns-in_default-cut_number-2-clause-none
returns-in_default-cut_number-2-clause-none c =
    no_answer_count _ _ _ _ _ c.in-Some.ensures.found c.in-Some-cut_number.ensures.found c.in_default-cut_number-2.ensures.none

pub returns-in_default-cut_part-clause-none : goal.returns-in_default-cut_part-clause-none
returns-in_default-cut_part-clause-none c =
    no_command _ _ _ _ _ _ _ c.in-Some.ensures.found c.in-Some-cut_number.ensures.found c.in-Some-cut_number-2.ensures.found c.in_default-cut_part.ensures.none

pub returns-in_default-cut_part-2-clause-none : goal.returns-in_default-cut_part-2-clause-none
returns-in_default-cut_part-2-clause-none c =
    no_answer _ _ _ _ _ _ _ _ _ c.in-Some.ensures.found c.in-Some-cut_number.ensures.found c.in-Some-cut_number-2.ensures.found c.in-Some-cut_part.ensures.found
    c.in_default-cut_part-2.ensures.none
