use Rattle.std.proofs.lemmas.Result.{IfOk-weaker}
use Rattle.program_frame.specs.Laws.CommandLines.{wants_another}
use Rattle.audit_program.proofs.options.today_option.Goals as goal

pub returns-clause-rule : goal.returns-clause-rule
returns-clause-rule c = IfOk-weaker c.requires_arg.result _ _ (λ r h. wants_another _ r c.option.result _ h.0 h.1 c.option.ensures.rule) c.requires_arg.ensures
