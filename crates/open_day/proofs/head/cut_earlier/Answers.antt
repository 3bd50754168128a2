use Rattle.open_day.proofs.HeadLaws.{no_earlier_end}
use Rattle.open_day.proofs.head.cut_earlier.Goals as goal

pub returns-in-None-clause-none : goal.returns-in-None-clause-none
returns-in-None-clause-none c =
    no_earlier_end c.args.text.now c.in-Some.counted.now c.in-Some-cut_number.words.now c.in-Some-cut_number.count
    c.in-Some.ensures.found c.in-Some-cut_number.ensures.found c.in-None.ensures.none
