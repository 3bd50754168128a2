use Rattle.std.proofs.Common.{inr, ap, ◌∙◌, ◌++◌}
use Rattle.std.proofs.lemmas.Bool.{false_from_ne_true}
use Rattle.std.proofs.lemmas.Str.{IsUtf8-from_is_utf8}
use Rattle.std.specs.Str.{is_utf8}
use Rattle.disk_in_place.proofs.system_calls.in_folder.Goals as goal

pub returns-in_default-clause-outside : goal.returns-in_default-clause-outside
returns-in_default-clause-outside c _ =
    inr (inr (false_from_ne_true (is_utf8 c.args.name.now) (λ is. c.in_default.ensures.cases.0 (IsUtf8-from_is_utf8 c.args.name.now is))))

pub returns-clause-path : goal.returns-clause-path
returns-clause-path c = c.in_ok-format.ensures.ok ∙ ap (λ name. c.args.folder.now ++ name) c.in-Ok.ensures.cases.0
