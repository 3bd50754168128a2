use Rattle.std.proofs.Common.{◌≡◌, ℕ, ◌+◌, ◌-◌, ◌≤◌, length, take, None}
use Rattle.dbf_fields.specs.BadField.{bad_field_from, first_bad_field}
use Rattle.dbf_fields.specs.Schema.{schema_refusal}
use Rattle.dbf_fields.proofs.bad_field.first_bad_field.Given as goal

-- none of the fields so far is bad, so the first is among those that are left
abbrev pub invariant-loop-index : goal.invariant-loop-index
invariant-loop-index l = record {
  good : (n : ℕ) → 1 ≤ n → n ≤ l.index → schema_refusal (take n l.fields) ≡ None;
  left : bad_field_from l.fields (l.index + 1) (length l.fields - l.index) ≡ first_bad_field l.fields;
}
