use Rattle.std.proofs.Common.{◌<◌, ◌≤◌, length, vec_capacity, vec_len}
use Rattle.live_day.specs.declared.typing.TheConstants.{MAX_GROUP_LINES}
use Rattle.live_day.proofs.GroupLaws.{HasReadGroup}
use Rattle.live_day.proofs.typing.read_group.Given as goal

abbrev pub invariant-reading : goal.invariant-reading
invariant-reading g l = record {
  room : vec_len l.lines < vec_capacity l.lines;
  some : l.counter ≤ length l.lines.items;
  counted : length l.lines.items ≤ l.counter;
  few : length l.lines.items ≤ MAX_GROUP_LINES;
  read : HasReadGroup (g.K.Keyboard.text_left l.initial.keyboard) (g.K.Keyboard.text_left l.keyboard) (g.K.Keyboard.typed l.initial.keyboard) (g.K.Keyboard.typed l.keyboard) l.lines.items;
}
