use Rattle.std.proofs.Common.{arith}
use Rattle.station_lines.proofs.JournalLaws.{no_blank, number_first, no_number}
use Rattle.station_lines.proofs.journal_lines.cut_number.Goals as goal

pub returns-in_default-clause-none : goal.returns-in_default-clause-none
returns-in_default-clause-none c = no_blank c.args.text.now (cc)

pub returns-in-Some-plain_number-clause-found : goal.returns-in-Some-plain_number-clause-found
returns-in-Some-plain_number-clause-found c =
    number_first c.args.text.now c.split_at.result.0.now c.split_at-2.result.1.now c.in-Some.end c.in-Some-plain_number.number
    (cc) c.split_at.ensures.front c.split_at-2.ensures.back c.in-Some-plain_number.ensures.found (omega arith)

pub returns-in-None-clause-none : goal.returns-in-None-clause-none
returns-in-None-clause-none c =
    no_number c.args.text.now c.split_at.result.0.now c.in-Some.end (cc) c.split_at.ensures.front c.in-None.ensures.none
