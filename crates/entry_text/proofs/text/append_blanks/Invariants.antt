use Rattle.std.proofs.Common.{◌≡◌, ◌++◌, replicate}
use Rattle.dbf_fields.specs.declared.format.TheConstants.{BLANK}
use Rattle.entry_text.proofs.text.append_blanks.Given as goal

abbrev pub invariant-loop : goal.invariant-loop
invariant-loop l = l.line.items ≡ l.fn.line.items ++ replicate l.counter BLANK
