use Rattle.std.proofs.Common.{◌≡◌, drop}
use Rattle.folders.specs.Files.{file_at}
use Rattle.folders.specs.Paths.{list_beside}
use Rattle.folders.proofs.memory_source.has_list_beside.Given as goal

abbrev pub invariant-loop-file : goal.invariant-loop-file
invariant-loop-file l = file_at (drop l.file-index l.files) (list_beside l.path) ≡ file_at l.files (list_beside l.path)
