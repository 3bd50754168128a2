use Rattle.std.proofs.Common.{◌≡◌, drop}
use Rattle.std.specs.List.{list_all}
use Rattle.files_in_place.specs.Staged.{is_name_byte}
use Rattle.files_in_place.proofs.names.has_name_bytes.Given as goal

-- it depends on the bytes that are left
abbrev pub invariant-loop-b : goal.invariant-loop-b
invariant-loop-b l = list_all is_name_byte (drop l.b-index l.name) ≡ list_all is_name_byte l.name
