use Rattle.std.proofs.Common.{◌≡◌, ◌-◌, ◌++◌, length, take, replicate}
use Rattle.dbf_fields.specs.declared.format.TheConstants.{BLANK}
use Rattle.key_expr.proofs.str_text.fit.Given as goal

abbrev pub invariant-loop-byte : goal.invariant-loop-byte
invariant-loop-byte l = l.printed ≡ replicate (l.width - length l.text) BLANK ++ take l.byte-index l.text
