use Rattle.std.proofs.Common.{◌≡◌, take}
use Rattle.table_loader.specs.FaultWords.{field_names}
use Rattle.table_loader.proofs.named.field_names.Given as goal

abbrev pub invariant-loop-field : goal.invariant-loop-field
invariant-loop-field l = l.names.items ≡ field_names (take l.field-index l.fields)
