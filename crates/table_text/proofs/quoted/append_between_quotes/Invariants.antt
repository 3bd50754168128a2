use Rattle.std.proofs.Common.{◌≡◌, ◌++◌, ◌∷◌, [], take}
use Rattle.std.specs.List.{flat_map}
use Rattle.table_text.specs.declared.format.TheConstants.{QUOTE}
use Rattle.table_text.specs.Quoted.{byte_between_quotes}
use Rattle.table_text.proofs.quoted.append_between_quotes.Given as goal

-- the first quote and the bytes so far
abbrev pub invariant-loop-byte : goal.invariant-loop-byte
invariant-loop-byte l = l.text.items ≡ (l.fn.text.items ++ QUOTE ∷ []) ++ flat_map byte_between_quotes (take l.byte-index l.bytes)
