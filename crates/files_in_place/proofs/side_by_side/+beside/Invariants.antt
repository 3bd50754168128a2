use Rattle.std.proofs.Common.{◌+◌, ◌*◌, length}
use Rattle.files_in_place.proofs.side_by_side.+beside.Given as goal

abbrev pub decreases-later : goal.decreases-later
decreases-later g l = 2 * length l.others.now + 1

abbrev pub decreases-side_by_side : goal.decreases-side_by_side
decreases-side_by_side g l = 2 * length l.things.now
