use Rattle.std.proofs.Common.{◌≡◌, ◌++◌, take}
use Rattle.std.specs.List.{flat_map}
use Rattle.entry_text.specs.Layout.{answer_byte}
use Rattle.entry_text.proofs.text.append_answer.Given as goal

abbrev pub invariant-loop-byte : goal.invariant-loop-byte
invariant-loop-byte l = l.text.items ≡ l.fn.text.items ++ flat_map answer_byte (take l.byte-index l.answer)
