use Rattle.std.proofs.Common.{◌≡◌, map, ap, ◌∙◌, arith}
use Rattle.std.proofs.lemmas.List.{length-take, length-drop}
use Rattle.dbf_fields.specs.Field.{folded}
use Rattle.dbf_image.specs.Reading.{fields_of}
use Rattle.dbf_image.proofs.Groups.{fields_are, fields_pass, fields_fail, err_exit}
use Rattle.dbf_image.proofs.dbf.read.schema_at.Goals as goal

pub fields_at-requires : goal.fields_at-requires
fields_at-requires c = record { room = simp (length-take, length-drop) (omega (arith, c.in-Some.ensures.room)) }

pub returns-in_err-schema-clause-refused : goal.returns-in_err-schema-clause-refused
returns-in_err-schema-clause-refused c =
    let all : c.deref.result.now ≡ fields_of c.args.dbf.now =
    c.deref.ensures.value ∙ c.in_ok-fields.ensures.value ∙ fields_are c.args.dbf.now c.in-Some.count c.in-Some.ensures.count in
    err_exit _ _ c.from_residual-in_err-schema.ensures.1 (fields_fail c.args.dbf.now c.in-Some.count _ c.in-Some.ensures.count (rw all at c.in_err-schema.ensures.refused))

pub returns : goal.returns
returns c =
    let all : c.deref.result.now ≡ fields_of c.args.dbf.now =
    c.deref.ensures.value ∙ c.in_ok-fields.ensures.value ∙ fields_are c.args.dbf.now c.in-Some.count c.in-Some.ensures.count in
    record {
      accepted = fields_pass c.args.dbf.now c.in-Some.count c.in-Some.ensures.count (rw all at c.in_ok-schema.ensures.accepted);
      refused = tt;
      early = tt;
      value = c.in_ok-schema.ensures.value ∙ ap (map folded) all;
    }
