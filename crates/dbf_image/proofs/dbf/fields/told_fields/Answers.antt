use Rattle.std.proofs.Common.{sym, ◌∙◌}
use Rattle.dbf_image.proofs.Groups.{fields_are}
use Rattle.dbf_image.proofs.dbf.fields.told_fields.Goals as goal

pub returns : goal.returns
returns c =
    let told = c.in-Some.ensures.told in
    record { told = (told.0, c.in_ok-fields.ensures.value ∙ fields_are c.args.dbf.now c.in-Some.count (sym told.1)); early = tt }
