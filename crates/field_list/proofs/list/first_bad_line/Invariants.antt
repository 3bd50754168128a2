use Rattle.std.proofs.Common.{◌≤◌, ◌+◌, length}
use Rattle.field_list.proofs.ReadLaws.{IsGoodTo}
use Rattle.field_list.proofs.list.first_bad_line.Given as goal

abbrev pub invariant-loop-line : goal.invariant-loop-line
invariant-loop-line l = record {
  good : IsGoodTo l.text l.number l.cursor;
  counted : l.number + length l.cursor ≤ length l.text;
}

abbrev pub decreases-loop-line : goal.decreases-loop-line
decreases-loop-line l = length l.cursor
