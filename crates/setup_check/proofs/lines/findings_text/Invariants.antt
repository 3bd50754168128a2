use Rattle.std.proofs.Common.{◌≡◌, ◌++◌, drop}
use Rattle.setup_check.specs.Lines.{setup_lines}
use Rattle.setup_check.proofs.lines.findings_text.Given as goal

-- the lines so far and those that are left make all
abbrev pub invariant-loop-index : goal.invariant-loop-index
invariant-loop-index l = l.text.items ++ setup_lines (drop l.index l.entries) (drop l.index l.findings) ≡ setup_lines l.entries l.findings
