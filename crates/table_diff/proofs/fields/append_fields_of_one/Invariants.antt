use Rattle.std.proofs.Common.{◌≡◌, ◌≤◌, ◌++◌, length, take}
use Rattle.std.specs.Prelude.{flat_map}
use Rattle.table_diff.specs.DiffText.{field_told}
use Rattle.table_diff.specs.Fields.{fields_without}
use Rattle.table_diff.proofs.fields.append_fields_of_one.Given as goal

-- the lines of the fields so far
abbrev pub invariant-loop-field : goal.invariant-loop-field
invariant-loop-field l =
    let told = fields_without l.others (take l.field-index l.fields) in
    record {
      lines : l.text.items ≡ l.fn.text.items ++ flat_map (field_told l.words) told;
      count : l.count ≡ length told;
      bounded : l.count ≤ l.field-index;
    }
