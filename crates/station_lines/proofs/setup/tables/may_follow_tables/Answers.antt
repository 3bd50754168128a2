use Rattle.std.proofs.Common.{◌∙◌}
use Rattle.station_lines.specs.Script.Parts.{capitals}
use Rattle.station_lines.proofs.setup.tables.may_follow_tables.Goals as goal

pub returns-in-Index : goal.returns-in-Index
returns-in-Index c = record {
  value = λ entries are. rw c.in-Index.is (c.includes_in_capitals.ensures.value ∙ are (capitals c.in-Index.table.now));
}
