use Rattle.std.proofs.Common.{◌≤◌, ◌+◌, length}
use Rattle.station_lines.specs.SetupReading.{AreTablesOf}
use Rattle.station_lines.proofs.SetupLaws.TextLaws.{IsReadTo}
use Rattle.station_lines.proofs.setup.parse_setup.Given as goal

abbrev pub invariant-loop-line : goal.invariant-loop-line
invariant-loop-line l = record {
  read : IsReadTo l.text l.number l.entries.items l.cursor;
  tables : AreTablesOf l.names l.entries.items;
  counted : l.number + length l.cursor ≤ length l.text;
}

abbrev pub decreases-loop-line : goal.decreases-loop-line
decreases-loop-line l = length l.cursor
