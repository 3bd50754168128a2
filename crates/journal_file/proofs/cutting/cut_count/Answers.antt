use Rattle.std.proofs.Common.{arith}
use Rattle.journal_file.proofs.TextLaws.{no_line, no_count, count_first}
use Rattle.journal_file.proofs.cutting.cut_count.Goals as goal

pub returns-in_default-line_end-clause-none : goal.returns-in_default-line_end-clause-none
returns-in_default-line_end-clause-none c = no_line c.args.text.now c.in-Some.line.now c.in-Some.ensures.found (cc)

pub returns-in-Some-plain_number-clause-found : goal.returns-in-Some-plain_number-clause-found
returns-in-Some-plain_number-clause-found c =
    count_first c.args.text.now c.in-Some.line.now c.split_at.result.0.now c.split_at-2.result.1.now c.in-Some-line_end.end c.in-Some-plain_number.count
    c.in-Some.ensures.found (cc) c.split_at.ensures.front c.split_at-2.ensures.back c.in-Some-plain_number.ensures.found (omega arith)

pub returns-in-None-clause-none : goal.returns-in-None-clause-none
returns-in-None-clause-none c =
    no_count c.args.text.now c.in-Some.line.now c.split_at.result.0.now c.in-Some-line_end.end c.in-Some.ensures.found (cc) c.split_at.ensures.front c.in-None.ensures.none
