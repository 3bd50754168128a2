use Rattle.std.proofs.Common.{◌≡◌, ◌++◌, drop}
use Rattle.files_in_place.specs.Folder.{lines_of}
use Rattle.files_in_place.proofs.NameLists.{before_first}
use Rattle.files_in_place.proofs.names.split_lines.Given as goal

-- the lines so far, and the line that is begun with those that are left, are all lines
abbrev pub invariant-loop-b : goal.invariant-loop-b
invariant-loop-b l = l.lines.items ++ before_first l.line.items (lines_of (drop l.b-index l.list)) ≡ lines_of l.list
