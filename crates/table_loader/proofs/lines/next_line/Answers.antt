use Rattle.csv.specs.Records.{fields_of}
use Rattle.table_loader.proofs.LineLaws.{next_is, reads_again}
use Rattle.table_loader.proofs.lines.next_line.Goals as goal

pub returns-clause-reads : goal.returns-clause-reads
returns-clause-reads c =
    let old = c.requires.reads in
    λ e. reads_again c.args.reader.now c.read_byte_record.new.self c.in-Ok.found (fields_of c.read_byte_record.new.row) e old
    (c.in-Ok.ensures.reads old.trims old.ready) (c.in-Ok.ensures.ready old.trims) c.in-Ok.ensures.flexible

pub returns-clause-found : goal.returns-clause-found
returns-clause-found c =
    let old = c.requires.reads in
    next_is c.args.reader.now c.read_byte_record.new.self c.in-Ok.found (fields_of c.read_byte_record.new.row) old (c.in-Ok.ensures.reads old.trims old.ready)
