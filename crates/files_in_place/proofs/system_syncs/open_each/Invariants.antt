use Rattle.std.proofs.Common.{ℕ, ◌<◌, ◌++◌, get_or}
use Rattle.files_in_place.specs.Folder.{Name}
use Rattle.files_in_place.specs.System.{IsOpenAmong}
use Rattle.files_in_place.proofs.system_syncs.open_each.Given as goal

-- the files of the names so far are open
abbrev pub invariant-loop-name : goal.invariant-loop-name
invariant-loop-name g l = (k : ℕ) (d : Name) → k < l.name-index → IsOpenAmong g.R.SystemCalls.answers l.files.items (l.fn.folder ++ get_or l.names k d)
