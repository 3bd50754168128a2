use Rattle.std.proofs.Common.{◌≡◌, ◌++◌, drop}
use Rattle.files_in_place.specs.Folder.{name_lines}
use Rattle.files_in_place.proofs.names.name_lines.Given as goal

-- what is written and what is left are all lines
abbrev pub invariant-loop-name : goal.invariant-loop-name
invariant-loop-name l = l.lines.items ++ name_lines (drop l.name-index l.names) ≡ name_lines l.names
