use Rattle.std.proofs.Common.{◌≡◌, ℕ, suc, ◌+◌, ◌-◌, ◌<◌, List, length, take, Some, None, refl, sym, ◌∙◌, subst, inl, inr, arith}
use Rattle.std.proofs.lemmas.Bool.{cases_lt}
use Rattle.dbf_fields.specs.BadField.{bad_field_from}
use Rattle.dbf_fields.specs.declared.field.Field.{Field}
use Rattle.dbf_fields.specs.declared.schema.SchemaFault.{SchemaFault}
use Rattle.dbf_fields.specs.Schema.{schema_refusal}
use Rattle.dbf_fields.proofs.bad_field.first_bad_field.Goals as goal

-- the first is here,
from_here : (fields : List Field) (i : ℕ) (why : SchemaFault) → i < length fields → schema_refusal (take (i + 1) fields) ≡ Some why
    → bad_field_from fields (i + 1) (length fields - i) ≡ Some (record { field_number = i + 1; why = why })
from_here fields i why lt bad =
    let k : length fields - i ≡ suc (length fields - (i + 1)) = omega arith in
    rw (k, bad) refl

-- or is a later one
from_later : (fields : List Field) (i : ℕ) → i < length fields → schema_refusal (take (i + 1) fields) ≡ None
    → bad_field_from fields (i + 1) (length fields - i) ≡ bad_field_from fields (i + 1 + 1) (length fields - (i + 1))
from_later fields i lt good =
    let k : length fields - i ≡ suc (length fields - (i + 1)) = omega arith in
    rw (k, good) refl

pub returns-in-Err-clause-value : goal.returns-in-Err-clause-value
returns-in-Err-clause-value c = sym (from_here c.args.fields.now c.loop-index.index c.in-Err.why c.loop-index-test.true c.in-Err.ensures.refused) ∙ c.loop-index.invariant.left

pub loop-index-preserved : goal.loop-index-preserved
loop-index-preserved c =
    let fields = c.args.fields.now in
    let i = c.loop-index.index in
    let here : schema_refusal (take (i + 1) fields) ≡ None = c.in_default.ensures.accepted in
    record {
      good = λ n low high. elim (cases_lt i n) [
        | inl past ↦ let last : i + 1 ≡ n = omega arith in subst (λ (k : ℕ). schema_refusal (take k fields) ≡ None) last here
        | inr before ↦ c.loop-index.invariant.good n low before
      ];
      left = sym (from_later fields i c.loop-index-test.true here) ∙ c.loop-index.invariant.left;
    }
