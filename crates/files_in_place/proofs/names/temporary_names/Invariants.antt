use Rattle.std.proofs.Common.{◌≡◌, map, take}
use Rattle.files_in_place.specs.Folder.{temporary}
use Rattle.files_in_place.proofs.names.temporary_names.Given as goal

-- the temporary names so far
abbrev pub invariant-loop-name : goal.invariant-loop-name
invariant-loop-name l = l.lies.items ≡ map temporary (take l.name-index l.names)
