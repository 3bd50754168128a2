use Rattle.std.proofs.Common.{◌≡◌, ◌++◌, drop}
use Rattle.setup_check.specs.KeptLines.{kept_lines}
use Rattle.setup_check.proofs.kept_lines.kept_files_text.Given as goal

-- the lines so far and those that are left make all
abbrev pub invariant-loop-entry : goal.invariant-loop-entry
invariant-loop-entry l = l.text.items ++ kept_lines (drop l.entry-index l.entries) ≡ kept_lines l.entries
