use Rattle.std.proofs.Common.{rules}
use Rattle.dbf_image.specs.Image.{image}
use Rattle.byte_io.specs.Laws.Puts.{due_all}
use Rattle.dbf_image.proofs.FileLaws.{is_dbf_image}
use Rattle.dbf_image.proofs.PlainLaws.{is_plain_image}
use Rattle.dbf_image.proofs.dbf.write.write_dbf.Goals as goal

pub returns-then-day-lt-FIRST_YEAR-clause-reads_back : goal.returns-then-day-lt-FIRST_YEAR-clause-reads_back
returns-then-day-lt-FIRST_YEAR-clause-reads_back g c room = is_dbf_image c.args.table.now c.args.day.year c.args.day.month c.args.day.day c.dbf_header-header.ensures.each room

pub returns-then-day-lt-FIRST_YEAR-clause-plain : goal.returns-then-day-lt-FIRST_YEAR-clause-plain
returns-then-day-lt-FIRST_YEAR-clause-plain g c none dbt = is_plain_image c.args.table.now c.args.day.year c.args.day.month c.args.day.day dbt c.dbf_header-header.ensures.each none

pub returns-then-is_none-clause-plain : goal.returns-then-is_none-clause-plain
returns-then-is_none-clause-plain g c none dbt = is_plain_image c.args.table.now c.args.day.year c.args.day.month c.args.day.day dbt c.dbf_header-header.ensures.each none

pub returns-in-Ok-clause-reads_back : goal.returns-in-Ok-clause-reads_back
returns-in-Ok-clause-reads_back g c room = is_dbf_image c.args.table.now c.args.day.year c.args.day.month c.args.day.day c.dbf_header-header.ensures.each room

pub returns-in-Ok-clause-plain : goal.returns-in-Ok-clause-plain
returns-in-Ok-clause-plain g c none dbt = is_plain_image c.args.table.now c.args.day.year c.args.day.month c.args.day.day dbt c.dbf_header-header.ensures.each none

pub returns-clause-reads_back : goal.returns-clause-reads_back
returns-clause-reads_back g c room = is_dbf_image c.args.table.now c.args.day.year c.args.day.month c.args.day.day c.dbf_header-header.ensures.each room

pub returns-clause-plain : goal.returns-clause-plain
returns-clause-plain g c none dbt = is_plain_image c.args.table.now c.args.day.year c.args.day.month c.args.day.day dbt c.dbf_header-header.ensures.each none

pub returns-in-Ok-clause-wrote : goal.returns-in-Ok-clause-wrote
returns-in-Ok-clause-wrote g c =
    let all = due_all c.new-out.result.wanted c.put_image.new.out.wanted (g.S.ByteSink.written c.args.sink.now) (g.S.ByteSink.failures c.args.sink.now) (image c.args.table.now c.args.day.year c.args.day.month c.args.day.day) c.put_image.ensures.put.1 c.new-out.ensures.wanted in
    let h = rw all at c.in-Ok.ensures.wrote in
    search (h, rules)

pub returns-clause-front : goal.returns-clause-front
returns-clause-front g c _ =
    let all = due_all c.new-out.result.wanted c.put_image.new.out.wanted (g.S.ByteSink.written c.args.sink.now) (g.S.ByteSink.failures c.args.sink.now) (image c.args.table.now c.args.day.year c.args.day.month c.args.day.day) c.put_image.ensures.put.1 c.new-out.ensures.wanted in
    let h = rw all at c.in-Err.ensures.front in
    search (h, rules)
