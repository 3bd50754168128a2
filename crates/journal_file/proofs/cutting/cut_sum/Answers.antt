use Rattle.journal_file.proofs.TextLaws.{no_path_len, no_length, no_digest, no_path}
use Rattle.journal_file.proofs.cutting.cut_sum.Goals as goal

pub returns-in_default-cut_number-clause-none : goal.returns-in_default-cut_number-clause-none
returns-in_default-cut_number-clause-none c = no_path_len c.args.word.now _ _ c.in-Some.ensures.found c.in_default-cut_number.ensures.none

pub returns-in_default-cut_number-2-clause-none : goal.returns-in_default-cut_number-2-clause-none
returns-in_default-cut_number-2-clause-none c =
    no_length c.args.word.now _ _ _ _ c.in-Some.ensures.found c.in-Some-cut_number.ensures.found c.in_default-cut_number-2.ensures.none

pub returns-in_default-cut_part-clause-none : goal.returns-in_default-cut_part-clause-none
returns-in_default-cut_part-clause-none c =
    no_digest c.args.word.now _ _ _ _ _ _ c.in-Some.ensures.found c.in-Some-cut_number.ensures.found c.in-Some-cut_number-2.ensures.found c.in_default-cut_part.ensures.none

pub returns-in_default-cut_part-2-clause-none : goal.returns-in_default-cut_part-2-clause-none
returns-in_default-cut_part-2-clause-none c =
    no_path c.args.word.now _ _ _ _ _ _ _ _ c.in-Some.ensures.found c.in-Some-cut_number.ensures.found c.in-Some-cut_number-2.ensures.found c.in-Some-cut_part.ensures.found
    c.in_default-cut_part-2.ensures.none
