use Rattle.std.proofs.Common.{drop}
use Rattle.table_text.specs.Lines.{lines_in}
use Rattle.table_text.specs.Output.{PutsAllBut}
use Rattle.table_text.proofs.lines.put_records.Given as goal

-- all is put but the lines of the records that are left
abbrev pub invariant-loop-number : goal.invariant-loop-number
invariant-loop-number g l = PutsAllBut l.fn.out (lines_in l.format l.table l.numbers) (lines_in l.format l.table (drop l.number-index l.numbers)) l.out
