use Rattle.std.proofs.Common.{◌≡◌, drop}
use Rattle.folders.specs.Files.{file_at}
use Rattle.folders.proofs.memory_source.find_file.Given as goal

abbrev pub invariant-loop-file : goal.invariant-loop-file
invariant-loop-file l = file_at (drop l.file-index l.files) l.path ≡ file_at l.files l.path
