use Rattle.std.proofs.Common.{◌≡◌, true, take}
use Rattle.std.specs.List.{AllByRecursion}
use Rattle.files_in_place.specs.Staged.{is_file_name}
use Rattle.files_in_place.proofs.names.are_file_names.Given as goal

-- files may have the names so far
abbrev pub invariant-loop-name : goal.invariant-loop-name
invariant-loop-name l = AllByRecursion (λ name. is_file_name name ≡ true) (take l.name-index l.names)
