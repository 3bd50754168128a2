use Rattle.std.proofs.Common.{◌≡◌, ◌∙◌, rules}
use Rattle.std.specs.Str.{str_eq_ignore_ascii_case}
use Rattle.dbf_fields.proofs.NameLaws.{same_in_capitals}
use Rattle.dbf_fields.proofs.field.Field.is_named.Goals as goal

pub returns : goal.returns
returns c =
    let same : c.eq_ignore_ascii_case.result ≡ str_eq_ignore_ascii_case c.args.self.now.name c.args.name.now = search rules in
    record { value = same ∙ same_in_capitals c.args.self.now.name c.args.name.now }
