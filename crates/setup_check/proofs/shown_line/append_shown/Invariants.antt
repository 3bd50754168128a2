use Rattle.std.proofs.Common.{◌≡◌, ◌++◌, take}
use Rattle.std.specs.List.{flat_map}
use Rattle.setup_check.specs.declared.shown_line.TheConstants.{MAX_SHOWN_BYTES}
use Rattle.table_text.specs.Shown.{shown_byte}
use Rattle.setup_check.proofs.shown_line.append_shown.Given as goal

-- the bytes so far
abbrev pub invariant-loop-byte : goal.invariant-loop-byte
invariant-loop-byte l = l.text.items ≡ l.fn.text.items ++ flat_map shown_byte (take l.byte-index (take MAX_SHOWN_BYTES l.line))
