use Rattle.std.proofs.Common.{sym}
use Rattle.csv.proofs.RecordFacts.{field-get}
use Rattle.csv.specs.Records.{fields_of}
use Rattle.table_loader.proofs.HeadingLaws.{no_field}
use Rattle.table_loader.proofs.heading.text_at.Goals as goal

pub returns-in-Some : goal.returns-in-Some
returns-in-Some c = record { value = sym (field-get (fields_of c.args.cells.now) c.args.column _ (sym c.in-Some.ensures.value)) }

pub returns-in-None : goal.returns-in-None
returns-in-None c = record { value = sym (no_field (fields_of c.args.cells.now) c.args.column (sym c.in-None.ensures.value)) }
