use Rattle.std.proofs.Common.{◌≤◌, ◌+◌, length}
use Rattle.field_list.proofs.ReadLaws.{AreListedTo}
use Rattle.field_list.proofs.list.list_fields.Given as goal

abbrev pub invariant-loop-line : goal.invariant-loop-line
invariant-loop-line l = record {
  listed : AreListedTo l.text l.number l.listed.fields.items l.listed.numbers.items l.cursor;
  counted : l.number + length l.cursor ≤ length l.text;
}

abbrev pub decreases-loop-line : goal.decreases-loop-line
decreases-loop-line l = length l.cursor
